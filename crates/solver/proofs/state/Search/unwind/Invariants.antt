use Rattle.solver.specs.code.Searching.{IsHolding}
use Rattle.solver.proofs.state.Search.unwind.Given as goal

abbrev pub invariant-loop-k : goal.invariant-loop-k
invariant-loop-k g l = IsHolding g.P.Propagator l.model l.self
