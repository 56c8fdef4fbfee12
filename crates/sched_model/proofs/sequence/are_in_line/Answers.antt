use Rattle.std.proofs.Common.{pos, sym, ◌∙◌, arith}
use Rattle.sched_model.specs.Sequence.{is_apart}
use Rattle.sched_model.proofs.walks.Lists.{adjacent_end}
use Rattle.sched_model.proofs.sequence.are_in_line.Goals as goal

pub returns : goal.returns
returns c = sym (adjacent_end (is_apart c.args.a.now (pos 0)) c.args.xs.now c.loop-i.i (omega arith)) ∙ c.loop-i.invariant
