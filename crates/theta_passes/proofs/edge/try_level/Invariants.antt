use Rattle.theta_passes.specs.code.Edge.{IsLevel}
use Rattle.theta_passes.specs.code.Rows.{Fits}
use Rattle.theta_passes.specs.code.Edge.{grays}
use Rattle.theta_passes.proofs.edge.try_level.Given as goal

abbrev pub invariant-loop-k : goal.invariant-loop-k
invariant-loop-k l = record {
  fits : Fits l.tree l.rows;
  at : IsLevel l.tree l.rows l.level;
}

abbrev pub decreases-loop-k : goal.decreases-loop-k
decreases-loop-k l = grays l.tree.colours
