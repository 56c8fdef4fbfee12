use Rattle.std.proofs.Common.{codes}
use Rattle.sched_text.proofs.Calls.{opened, first, closed}
use Rattle.sched_text.proofs.expressions.put_presence.Goals as goal

pub returns : goal.returns
returns g c = closed (first (opened (codes "presenceOf") c.put_text.ensures) c.put_interval.ensures) c.put_text-2.ensures
