use Rattle.std.proofs.Common.{arith}
use Rattle.sched_model.proofs.rows.Longer.{longer_fails}
use Rattle.sched_model.proofs.domain.lists_present.Goals as goal

pub returns-then-xs-len : goal.returns-then-xs-len
returns-then-xs-len c = longer_fails c.args.a.now c.args.p.now c.args.xs.now (omega (arith, c.if-xs-len.true, c.len.ensures))
