use Rattle.sched_model.proofs.rows.Segments.{rest_none, rest_turn}
use Rattle.sched_model.proofs.domain.keep_distances_from.Goals as goal

pub loop-i-init : goal.loop-i-init
loop-i-init c = rest_none c.args.model.now c.args.g.now c.args.every c.args.v c.args.is.now

pub loop-i-preserved : goal.loop-i-preserved
loop-i-preserved c = rest_turn c.args.model.now c.args.g.now c.args.every c.args.v c.loop-i.end c.end_with-end.result c.args.is.now c.loop-i.i-index _ _ c.requires c.loop-i.invariant c.loop-i-test.true c.if-not-begins_after.ensures c.end_with-end.ensures
