use Rattle.sched_model.proofs.rows.Neighbours.{disjoint_without}
use Rattle.sched_model.proofs.sequence.has_no_overlap.Goals as goal

pub returns-in-None : goal.returns-in-None
returns-in-None c = disjoint_without c.args.model.now c.args.a.now c.args.p c.args.matrix c.args.direct c.args.xs.now c.are_disjoint.result c.requires c.in-None.ensures c.are_disjoint.ensures
