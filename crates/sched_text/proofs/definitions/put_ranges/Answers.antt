use Rattle.std.proofs.Common.{SFits, w64, rules}
use Rattle.std.proofs.lemmas.Int.{to_z-of_z}
use Rattle.sched_text.proofs.Defined.{three_items}
use Rattle.sched_text.proofs.definitions.put_ranges.Goals as goal

pub returns : goal.returns
returns g c =
    let fits_start_lo : SFits w64 c.args.d.now.start_lo = search rules in
    let fits_start_hi : SFits w64 c.args.d.now.start_hi = search rules in
    let fits_end_lo : SFits w64 c.args.d.now.end_lo = search rules in
    let fits_end_hi : SFits w64 c.args.d.now.end_hi = search rules in
    let fits_size_lo : SFits w64 c.args.d.now.size_lo = search rules in
    let fits_size_hi : SFits w64 c.args.d.now.size_hi = search rules in
    three_items (simp to_z-of_z at c.put_given.ensures) c.put_text.ensures (simp to_z-of_z at c.put_given-2.ensures) c.put_text-2.ensures (simp to_z-of_z at c.put_given-3.ensures)
