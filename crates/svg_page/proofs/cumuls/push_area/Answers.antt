use Rattle.std.proofs.Common.{SFits, w64}
use Rattle.std.specs.Int.{w128}
use Rattle.std.proofs.lemmas.Int.{to_z-of_z}
use Rattle.svg_page.proofs.Rows.{six}
use Rattle.svg_page.proofs.cumuls.push_area.Goals as goal

pub returns : goal.returns
returns c =
    let fits_s : SFits w64 c.args.s = c.ranges.s in
    let fits_e : SFits w64 c.args.e = c.ranges.e in
    let fits_v : SFits w64 c.args.v = c.ranges.v in
    let fits_edge : SFits w128 c.args.edge = c.ranges.edge in
    six _ _ _ _ _ _ _ _ _ _ _ _ _ _ (simp to_z-of_z at c.in_ok-push_number.ensures) (simp to_z-of_z at c.in_ok-push_number-2.ensures) (simp to_z-of_z at c.in_ok-push_number-3.ensures) (simp to_z-of_z at c.in_ok-push_level.ensures) (simp to_z-of_z at c.in_ok-push_number-4.ensures) c.push.ensures
