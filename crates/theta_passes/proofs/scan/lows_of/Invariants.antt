use Rattle.theta_passes.specs.code.Late.{AreLows}
use Rattle.theta_passes.proofs.scan.lows_of.Given as goal

abbrev pub invariant-loop-k : goal.invariant-loop-k
invariant-loop-k l = AreLows l.rows l.k l.lows
