use Rattle.std.proofs.Common.{◌≡◌, ℕ, ◌<◌, true}
use Rattle.theta_passes.specs.code.Rows.{row_at, is_present}
use Rattle.theta_passes.specs.code.Edge.{NoneAt}
use Rattle.theta_passes.proofs.scan.edge_before.Given as goal

abbrev pub invariant-loop-k : goal.invariant-loop-k
invariant-loop-k l = (j : ℕ) → j < l.k → is_present l.rows j ≡ true → NoneAt l.rows (row_at l.rows j).lct
