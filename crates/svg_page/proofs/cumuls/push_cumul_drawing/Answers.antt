use Rattle.svg_page.proofs.Rows.{six}
use Rattle.svg_page.proofs.cumuls.push_cumul_drawing.Goals as goal

pub returns : goal.returns
returns c =
    six _ _ _ _ _ _ _ _ _ _ _ _ _ _ c.in_ok-push_group.ensures (rw c.scale_of.ensures at c.in_ok-push_scaled.ensures) c.in_ok-push.ensures (rw c.constraints.ensures.list at c.in_ok-push_all_areas.ensures) c.in_ok-push_profile.ensures c.push-2.ensures
