use Rattle.theta_passes.specs.code.Rows.{Fits}
use Rattle.theta_passes.specs.code.Edge.{IsFallen}
use Rattle.theta_passes.proofs.edge.lower.Given as goal

abbrev pub invariant-loop-k : goal.invariant-loop-k
invariant-loop-k l = record {
  fits : Fits l.tree l.rows;
  fallen : IsFallen l.tree l.rows l.above l.level l.k;
}
