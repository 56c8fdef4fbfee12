use Rattle.sched_model.proofs.walks.Orders.{before_here}
use Rattle.sched_model.proofs.sequence.stands_before.Goals as goal

pub returns-in-loop-i : goal.returns-in-loop-i
returns-in-loop-i c = before_here c.args.xs.now c.loop-i.i _ c.args.x c.args.y c.has.result _ c.loop-i.invariant c.loop-i-test.true c.if-not-same.ensures c.has.ensures
