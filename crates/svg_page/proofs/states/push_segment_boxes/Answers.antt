use Rattle.std.proofs.Common.{refl}
use Rattle.svg_page.specs.States.{segment_box}
use Rattle.svg_page.proofs.Rows.{item_more, items_end}
use Rattle.svg_page.proofs.states.push_segment_boxes.Goals as goal

pub loop-s-preserved : goal.loop-s-preserved
loop-s-preserved c = item_more segment_box c.args.segments.now c.loop-s.s-index _ _ _ _ _ c.loop-s-test.true refl c.loop-s.invariant c.in_ok-push_segment_box.ensures

pub returns : goal.returns
returns c = items_end segment_box c.args.segments.now c.loop-s.s-index _ _ c.loop-s-test.false c.loop-s.invariant
