use Rattle.std.proofs.Common.{true, refl, get_or}
use Rattle.sched_base.specs.declared.ids.Itv.{Itv}
use Rattle.sched_model.proofs.rows.Neighbours.{gap_turn}
use Rattle.sched_model.proofs.sequence.follow_apart.Goals as goal

pub loop-y-preserved : goal.loop-y-preserved
loop-y-preserved c = let y : Itv = get_or c.args.ys.now c.loop-y.y-index (record { 0 = 0 }) in record {
  of = c.type_of-to.ensures;
  rest = gap_turn c.args.model.now c.args.a.now c.args.p c.args.matrix c.loop-y.before c.args.ys.now c.loop-y.y-index c.loop-y.from c.type_of-to.result (record { 0 = 0 }) y true _ c.loop-y.invariant.rest c.loop-y-test.true refl c.loop-y.invariant.of c.type_of-to.ensures c.if-not-keeps_gap.ensures refl;
}
