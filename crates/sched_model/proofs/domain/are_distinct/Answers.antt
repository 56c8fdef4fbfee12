use Rattle.sched_model.specs.Data.{same}
use Rattle.sched_model.proofs.walks.Lists.{unlike_stop, unlike_turn}
use Rattle.sched_model.proofs.domain.are_distinct.Goals as goal

pub returns-then-has : goal.returns-then-has
returns-then-has c = unlike_stop same c.args.xs.now c.loop-i.i _ c.has.result _ c.loop-i.invariant c.loop-i-test.true c.has.ensures c.if-has.true

pub loop-i-preserved : goal.loop-i-preserved
loop-i-preserved c = unlike_turn same c.args.xs.now c.loop-i.i _ c.has.result _ c.loop-i.invariant c.loop-i-test.true c.has.ensures c.if-has.false
