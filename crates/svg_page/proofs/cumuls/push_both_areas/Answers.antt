use Rattle.std.proofs.Common.{SFits, rules}
use Rattle.std.specs.Int.{w128}
use Rattle.std.proofs.lemmas.Int.{to_z-of_z}
use Rattle.svg_page.proofs.Rows.{two}
use Rattle.svg_page.proofs.cumuls.push_both_areas.Goals as goal

pub returns : goal.returns
returns c =
    let fits_beneath : SFits w128 c.beneath.result = search rules in
    let fits_above : SFits w128 c.above.result = search rules in
    two _ _ _ _ _ _
    (rw (c.lower.ensures, c.beneath.ensures) at (simp to_z-of_z at c.in_ok-push_area_if.ensures))
    (rw (c.upper.ensures, c.above.ensures) at (simp to_z-of_z at c.push_area_if-2.ensures))
