use Rattle.theta_passes.specs.code.Rows.{Fits}
use Rattle.theta_passes.specs.code.Over.{IsOverPassed}
use Rattle.theta_passes.proofs.over.over_pass.Given as goal

abbrev pub invariant-loop-m : goal.invariant-loop-m
invariant-loop-m l = record {
  fits : Fits l.tree l.rows;
  passed : IsOverPassed l.tree l.rows l.order l.above l.m-index;
}
