use Rattle.theta_passes.specs.code.Rows.{Fits}
use Rattle.theta_passes.specs.code.Late.{IsLatePassed}
use Rattle.theta_passes.proofs.late.late_pass.Given as goal

abbrev pub invariant-loop-i : goal.invariant-loop-i
invariant-loop-i l = record {
  fits : Fits l.tree l.rows;
  passed : IsLatePassed l.tree l.rows l.order l.key l.i-index;
}
