use Rattle.std.proofs.Common.{refl}
use Rattle.svg_page.specs.Lanes.{single_lane}
use Rattle.svg_page.proofs.Rows.{place_more, places_end}
use Rattle.svg_page.proofs.lanes.push_single_lanes.Goals as goal

pub loop-i-preserved : goal.loop-i-preserved
loop-i-preserved c = place_more (single_lane c.args.defs.now) c.args.slots.now c.loop-i.i _ _ _ _ _ c.loop-i-test.true refl c.loop-i.invariant c.in_ok-push_single_lane.ensures

pub returns : goal.returns
returns c = places_end (single_lane c.args.defs.now) c.args.slots.now c.loop-i.i _ _ c.loop-i-test.false c.loop-i.invariant
