use Rattle.std.proofs.Common.{refl}
use Rattle.svg_page.specs.Bars.{lane_bars}
use Rattle.svg_page.proofs.Rows.{place_more, places_end}
use Rattle.svg_page.proofs.bars.push_bars.Goals as goal

pub loop-k-preserved : goal.loop-k-preserved
loop-k-preserved c = place_more (lane_bars c.args.model.now c.args.a.now) c.args.lanes.now c.loop-k.k _ _ _ _ _ c.loop-k-test.true refl c.loop-k.invariant c.in_ok-push_lane_bars.ensures

pub returns : goal.returns
returns c = places_end (lane_bars c.args.model.now c.args.a.now) c.args.lanes.now c.loop-k.k _ _ c.loop-k-test.false c.loop-k.invariant
