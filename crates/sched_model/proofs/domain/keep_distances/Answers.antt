use Rattle.sched_model.proofs.rows.Segments.{rows_below}
use Rattle.sched_model.proofs.domain.keep_distances.Goals as goal

pub keep_distances_of-requires : goal.keep_distances_of-requires
keep_distances_of-requires c = rows_below c.args.model.now c.args.g.now c.args.is.now c.in-Some.d.now c.requires c.in-Some.ensures
