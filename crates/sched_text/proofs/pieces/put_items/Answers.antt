use Rattle.std.proofs.Common.{refl, codes}
use Rattle.sched_text.specs.Pieces.{interval_name}
use Rattle.sched_text.proofs.Printing.{none_yet}
use Rattle.sched_text.proofs.Lists.{item_more, items_end}
use Rattle.sched_text.proofs.pieces.put_items.Goals as goal

pub loop-x-init : goal.loop-x-init
loop-x-init g c = none_yet refl

pub loop-x-preserved : goal.loop-x-preserved
loop-x-preserved g c = item_more (interval_name c.args.model.now) (codes ",") c.args.xs.now c.loop-x.x-index _ _ c.loop-x.is_first c.loop-x-test.true refl c.loop-x.invariant c.put_comma.ensures c.put_interval.ensures

pub returns : goal.returns
returns g c = items_end (interval_name c.args.model.now) (codes ",") c.args.xs.now c.loop-x.x-index c.loop-x.is_first c.loop-x-test.false c.loop-x.invariant
