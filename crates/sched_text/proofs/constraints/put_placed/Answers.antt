use Rattle.sched_text.proofs.Calls.{opened, first, more, closed}
use Rattle.sched_text.proofs.constraints.put_placed.Goals as goal

pub returns : goal.returns
returns g c = closed (more (first (opened (c.args.word.now) c.put_open.ensures) c.put_over.ensures) c.put_next_interval.ensures) c.put_text.ensures
