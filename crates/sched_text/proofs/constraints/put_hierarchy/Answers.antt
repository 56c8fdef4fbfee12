use Rattle.sched_text.proofs.Calls.{opened, first, more, closed}
use Rattle.sched_text.proofs.constraints.put_hierarchy.Goals as goal

pub returns : goal.returns
returns g c = closed (more (first (opened (c.args.word.now) c.put_open.ensures) c.put_interval.ensures) c.put_next_names.ensures) c.put_text.ensures
