use Rattle.solver.specs.code.Searching.{IsReady}
use Rattle.solver.proofs.rehearsal.Rehearsal.keep_orders.Given as goal

abbrev pub invariant-loop-p : goal.invariant-loop-p
invariant-loop-p g l = IsReady g.P.Propagator l.model l.self.search
