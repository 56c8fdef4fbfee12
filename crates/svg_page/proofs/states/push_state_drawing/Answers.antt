use Rattle.svg_page.proofs.Rows.{six}
use Rattle.svg_page.proofs.states.push_state_drawing.Goals as goal

pub returns : goal.returns
returns c =
    six _ _ _ _ _ _ _ _ _ _ _ _ _ _ c.in_ok-push_group.ensures (rw c.scale_of.ensures at c.in_ok-push_scaled.ensures) c.in_ok-push_segment_boxes.ensures c.in_ok-push.ensures c.in_ok-push_segment_names.ensures c.push-2.ensures
