use Rattle.theta_passes.specs.code.Edge.{AreOver}
use Rattle.theta_passes.proofs.scan.last_end.Given as goal

abbrev pub invariant-loop-k : goal.invariant-loop-k
invariant-loop-k l = AreOver l.rows l.k l.last
