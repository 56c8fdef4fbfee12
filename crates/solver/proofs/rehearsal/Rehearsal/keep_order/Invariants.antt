use Rattle.solver.specs.code.Searching.{IsReady}
use Rattle.solver.proofs.rehearsal.Rehearsal.keep_order.Given as goal

abbrev pub invariant-loop-i : goal.invariant-loop-i
invariant-loop-i g l = IsReady g.P.Propagator l.model l.self.search
