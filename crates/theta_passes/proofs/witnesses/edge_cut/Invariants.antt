use Rattle.std.proofs.Common.{ℕ, ◌<◌, None}
use Rattle.theta_passes.specs.code.Rows.{lct_in}
use Rattle.theta_passes.specs.code.Witnesses.{EdgeAt}
use Rattle.theta_passes.proofs.witnesses.edge_cut.Given as goal

abbrev pub invariant-loop-m : goal.invariant-loop-m
invariant-loop-m l = (j : ℕ) → j < l.m-index → EdgeAt l.rows l.i (lct_in l.rows l.order j) None
