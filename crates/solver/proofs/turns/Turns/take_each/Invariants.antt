use Rattle.solver.specs.code.Searching.{IsHolding}
use Rattle.solver.proofs.turns.Turns.take_each.Given as goal

abbrev pub invariant-loop : goal.invariant-loop
invariant-loop g l = IsHolding g.P.Propagator l.model l.rehearsal.search
