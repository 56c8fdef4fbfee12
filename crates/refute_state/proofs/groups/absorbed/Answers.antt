use Rattle.refute_state.proofs.Steps.{taken_step}
use Rattle.refute_state.proofs.groups.absorbed.Goals as goal

pub loop-g-preserved : goal.loop-g-preserved
loop-g-preserved c = taken_step c.args.d _ _ _ c.args.groups.now c.loop-g.g-index _ c.loop-g.invariant c.loop-g-test.true c.taken-whole.ensures
