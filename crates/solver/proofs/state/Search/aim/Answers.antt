use Rattle.kernel.specs.Steps.{best_of}
use Rattle.solver.proofs.kept.Silent.{aimed_holding, aimed_ready}
use Rattle.solver.proofs.state.Search.aim.Goals as goal

pub returns-clause-ready : goal.returns-clause-ready
returns-clause-ready g c = λ ready.
    let m = c.args.model.now in
    let s = c.args.self.now in
    let f = c.nothing_of.result in
    aimed_ready g.P.Propagator m s f c.wake_best.new.self ready c.nothing_of.ensures (c.wake_best.ensures.made m ready.holding.engine)
    (c.wake_best.ensures.calm m s.region.region (best_of s.found) (best_of f) ready.holding.engine ready.holding.of.region ready.calm)

pub returns-clause-holding : goal.returns-clause-holding
returns-clause-holding g c = λ holding.
    aimed_holding g.P.Propagator c.args.model.now c.args.self.now c.nothing_of.result c.wake_best.new.self holding c.nothing_of.ensures (c.wake_best.ensures.made c.args.model.now holding.engine)
