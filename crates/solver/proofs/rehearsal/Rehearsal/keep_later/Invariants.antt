use Rattle.solver.specs.code.Searching.{IsReady}
use Rattle.solver.proofs.rehearsal.Rehearsal.keep_later.Given as goal

abbrev pub invariant-loop-y : goal.invariant-loop-y
invariant-loop-y g l = IsReady g.P.Propagator l.model l.self.search
