use Rattle.solver.specs.code.Searching.{IsUnmoved}
use Rattle.solver.proofs.state.Search.best_pick.Given as goal

abbrev pub invariant-loop-i : goal.invariant-loop-i
invariant-loop-i g l = IsUnmoved g.P.Propagator l.model l.initial.self l.self
