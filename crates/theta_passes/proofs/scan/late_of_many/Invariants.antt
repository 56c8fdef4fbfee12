use Rattle.theta_passes.specs.code.Late.{NoneScanned}
use Rattle.theta_passes.proofs.scan.late_of_many.Given as goal

abbrev pub invariant-loop-k : goal.invariant-loop-k
invariant-loop-k l = NoneScanned l.rows l.k
