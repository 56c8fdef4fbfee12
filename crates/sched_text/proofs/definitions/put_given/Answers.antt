use Rattle.std.proofs.Common.{append_assoc, SFits, w64}
use Rattle.std.proofs.lemmas.Int.{to_z-of_z}
use Rattle.sched_text.proofs.Printing.{both, «as»}
use Rattle.sched_text.proofs.definitions.put_given.Goals as goal

pub returns : goal.returns
returns g c =
    let fits_lo : SFits w64 c.args.lo = c.ranges.lo in
    let fits_hi : SFits w64 c.args.hi = c.ranges.hi in
    «as» (both c.put_text.ensures (both c.put_text-2.ensures c.put_range.ensures)) (simp (append_assoc, to_z-of_z))
