use Rattle.theta_passes.proofs.scans.Bound.{AreBound}
use Rattle.theta_passes.proofs.scan.bound_of.Given as goal

abbrev pub invariant-loop-k : goal.invariant-loop-k
invariant-loop-k l = AreBound l.rows l.lows l.whole l.k l.bound
