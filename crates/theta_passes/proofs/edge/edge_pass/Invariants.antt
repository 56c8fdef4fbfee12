use Rattle.theta_passes.specs.code.Rows.{Fits}
use Rattle.theta_passes.specs.code.Edge.{IsPassed}
use Rattle.theta_passes.proofs.edge.edge_pass.Given as goal

abbrev pub invariant-loop-m : goal.invariant-loop-m
invariant-loop-m l = record {
  fits : Fits l.tree l.rows;
  passed : IsPassed l.tree l.rows l.order l.above l.m-index;
}
