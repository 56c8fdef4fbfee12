use Rattle.theta_passes.specs.code.Rows.{Fits}
use Rattle.theta_passes.specs.code.Late.{IsFilling}
use Rattle.theta_passes.proofs.late.fill.Given as goal

abbrev pub invariant-loop-k : goal.invariant-loop-k
invariant-loop-k l = record {
  fits : Fits l.tree l.rows;
  filling : IsFilling l.tree l.rows l.from l.key l.k;
}
