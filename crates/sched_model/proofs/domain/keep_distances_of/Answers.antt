use Rattle.std.proofs.Common.{false}
use Rattle.sched_model.proofs.rows.Segments.{below_none, below_more_state, state_fails, states_keep}
use Rattle.sched_model.proofs.domain.keep_distances_of.Goals as goal

pub loop-v-init : goal.loop-v-init
loop-v-init c = below_none c.args.model.now c.args.g.now c.args.is.now

pub returns-then-not-keep_distances_from : goal.returns-then-not-keep_distances_from
returns-then-not-keep_distances_from c = state_fails c.args.model.now c.args.g.now false c.from.result c.args.is.now c.if-not-keep_distances_from.ensures

pub loop-v-preserved : goal.loop-v-preserved
loop-v-preserved c = below_more_state c.args.model.now c.args.g.now c.args.is.now c.loop-v.v c.from.result c.loop-v.invariant c.from.ensures c.if-not-keep_distances_from.ensures

pub returns : goal.returns
returns c = states_keep c.args.model.now c.args.g.now c.args.n c.loop-v.v c.args.is.now c.requires c.loop-v-test.false c.loop-v.auto.v-end c.loop-v.invariant
