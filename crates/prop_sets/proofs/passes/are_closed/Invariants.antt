use Rattle.std.proofs.Common.{ℕ, ◌<◌, ◌≡◌}
use Rattle.theta_passes.specs.code.Rows.{is_candidate, is_present}
use Rattle.prop_sets.proofs.passes.are_closed.Given as goal

abbrev pub invariant-loop-k : goal.invariant-loop-k
invariant-loop-k l = (j : ℕ) → j < l.k → is_candidate l.rows j ≡ is_present l.rows j
