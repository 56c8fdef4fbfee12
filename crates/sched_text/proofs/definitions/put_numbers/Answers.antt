use Rattle.std.proofs.Common.{refl, codes}
use Rattle.std.specs.Fmt.{signed_decimal}
use Rattle.sched_text.proofs.Lists.{item_more, items_end}
use Rattle.sched_text.proofs.Printing.{none_yet}
use Rattle.sched_text.proofs.definitions.put_numbers.Goals as goal

pub loop-n-init : goal.loop-n-init
loop-n-init g c = none_yet refl

pub loop-n-preserved : goal.loop-n-preserved
loop-n-preserved g c = item_more signed_decimal (codes ",") c.args.numbers.now c.loop-n.n-index _ _ c.loop-n.is_first c.loop-n-test.true refl c.loop-n.invariant c.put_comma.ensures c.put_cell.ensures

pub returns : goal.returns
returns g c = items_end signed_decimal (codes ",") c.args.numbers.now c.loop-n.n-index c.loop-n.is_first c.loop-n-test.false c.loop-n.invariant
