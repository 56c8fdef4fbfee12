use Rattle.std.proofs.Common.{SFits, w64}
use Rattle.std.proofs.lemmas.Int.{to_z-of_z}
use Rattle.svg_page.proofs.Rows.{three}
use Rattle.svg_page.proofs.bars.push_told.Goals as goal

pub returns : goal.returns
returns c =
    let fits_s : SFits w64 c.args.s = c.ranges.s in
    let fits_e : SFits w64 c.args.e = c.ranges.e in
    three _ _ _ _ _ _ _ _ (simp to_z-of_z at c.in_ok-push_number.ensures) (simp to_z-of_z at c.in_ok-push_number-2.ensures) c.push.ensures
