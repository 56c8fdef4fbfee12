use Rattle.svg_page.specs.Lanes.{sequence_lane}
use Rattle.svg_page.proofs.Rows.{place_more, places_end}
use Rattle.svg_page.proofs.lanes.push_sequence_lanes.Goals as goal

pub loop-i-preserved : goal.loop-i-preserved
loop-i-preserved c = place_more sequence_lane c.args.defs.now c.loop-i.i c.index-defs-i.result _ _ _ _ c.loop-i-test.true c.index-defs-i.is c.loop-i.invariant c.in_ok-push_sequence_lane.ensures

pub returns : goal.returns
returns c = places_end sequence_lane c.args.defs.now c.loop-i.i _ _ c.loop-i-test.false c.loop-i.invariant
