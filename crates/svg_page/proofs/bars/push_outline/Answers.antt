use Rattle.std.proofs.Common.{SFits, w64}
use Rattle.std.proofs.lemmas.Int.{to_z-of_z}
use Rattle.svg_page.proofs.Rows.{six}
use Rattle.svg_page.proofs.bars.push_outline.Goals as goal

pub returns : goal.returns
returns c =
    let fits_s : SFits w64 c.args.s = c.ranges.s in
    let fits_e : SFits w64 c.args.e = c.ranges.e in
    six _ _ _ _ _ _ _ _ _ _ _ _ _ _ c.in_ok-push_count.ensures (simp to_z-of_z at c.in_ok-push_number.ensures) c.in_ok-push_count-2.ensures (simp to_z-of_z at c.in_ok-push_number-2.ensures) (simp to_z-of_z at c.in_ok-push_number-3.ensures) c.push.ensures
