use Rattle.std.proofs.Common.{◌≡◌, ◌<◌, ℕ}
use Rattle.thetatree.specs.code.Leaves.{colour_at}
use Rattle.theta_passes.specs.code.Rows.{row_at, colour_by, Fits}
use Rattle.theta_passes.proofs.leaves.paint_all.Given as goal

abbrev pub invariant-loop-k : goal.invariant-loop-k
invariant-loop-k l = record {
  fits : Fits l.tree l.rows;
  painted : (j : ℕ) → j < l.k → colour_at l.tree j ≡ colour_by l.present l.maybe (row_at l.rows j).presence;
}
