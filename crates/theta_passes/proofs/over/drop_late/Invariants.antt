use Rattle.theta_passes.specs.code.Rows.{Fits}
use Rattle.theta_passes.specs.code.Over.{IsFullFalling}
use Rattle.theta_passes.proofs.over.drop_late.Given as goal

abbrev pub invariant-loop-k : goal.invariant-loop-k
invariant-loop-k l = record {
  fits : Fits l.tree l.rows;
  falling : IsFullFalling l.tree l.rows l.above l.level l.k;
}
