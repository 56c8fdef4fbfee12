use Rattle.std.proofs.Common.{sym, ◌∙◌, arith}
use Rattle.sched_model.proofs.walks.Orders.{next_end}
use Rattle.sched_model.proofs.sequence.stands_next.Goals as goal

pub returns : goal.returns
returns c = sym (next_end c.args.xs.now c.loop-i.i c.args.x c.args.y (omega arith)) ∙ c.loop-i.invariant
