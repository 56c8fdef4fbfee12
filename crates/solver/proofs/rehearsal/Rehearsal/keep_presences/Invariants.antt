use Rattle.solver.specs.code.Searching.{IsReady}
use Rattle.solver.proofs.rehearsal.Rehearsal.keep_presences.Given as goal

abbrev pub invariant-loop-n : goal.invariant-loop-n
invariant-loop-n g l = IsReady g.P.Propagator l.model l.self.search
