use Rattle.std.proofs.Common.{ℕ, ◌<◌, false}
use Rattle.theta_passes.specs.code.Edge.{FoundBy}
use Rattle.theta_passes.proofs.scan.found_of_many.Given as goal

abbrev pub invariant-loop-k : goal.invariant-loop-k
invariant-loop-k l = (j : ℕ) → j < l.k → FoundBy l.rows l.level j false
