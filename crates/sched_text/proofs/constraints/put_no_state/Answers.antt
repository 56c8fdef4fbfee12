use Rattle.std.proofs.Common.{codes}
use Rattle.sched_text.proofs.Calls.{opened, first, more, closed}
use Rattle.sched_text.proofs.constraints.put_no_state.Goals as goal

pub returns : goal.returns
returns g c = closed (more (first (opened (codes "alwaysNoState") c.put_text.ensures) c.put_state.ensures) c.put_next_interval.ensures) c.put_text-2.ensures
