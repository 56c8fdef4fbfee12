use Rattle.std.proofs.Common.{SFits, w64, rules}
use Rattle.std.specs.Int.{w128}
use Rattle.std.proofs.lemmas.Int.{to_z-of_z}
use Rattle.svg_page.proofs.Rows.{five}
use Rattle.svg_page.proofs.text.push_view.Goals as goal

pub returns : goal.returns
returns c =
    let fits_left : SFits w64 c.args.scale.left = search rules in
    let fits_top : SFits w128 c.args.scale.top = search rules in
    let fits_units : SFits w128 c.args.scale.units = search rules in
    five _ _ _ _ _ _ _ _ _ _ _ _ (simp to_z-of_z at c.in_ok-push_number.ensures) (simp to_z-of_z at c.in_ok-push_level.ensures) (rw c.from.ensures at c.in_ok-push_count.ensures) (simp to_z-of_z at c.in_ok-push_level-2.ensures) c.push.ensures
