use Rattle.kernel.specs.Steps.{best_of}
use Rattle.engine.specs.laws.Calm.{quiet_is_calm}
use Rattle.solver.proofs.state.Search.rouse.Goals as goal

pub returns-then-ne-clause-calm : goal.returns-then-ne-clause-calm
returns-then-ne-clause-calm g c = λ m r for of quiet.
    c.wake_best.ensures.calm m r c.args.mark.best (best_of c.args.self.now.found) (c.forget_changes.ensures.made m for) of
    (c.forget_changes.ensures.calm m r c.args.mark.best (quiet_is_calm g.P.Propagator m r c.args.mark.best c.args.self.now.engine (quiet c.if-mark.false)))
