use Rattle.std.proofs.Common.{◌≡◌}
use Rattle.engine.proofs.turns.sleep.Given as goal

abbrev pub invariant-loop-k : goal.invariant-loop-k
invariant-loop-k l = l.levels.below ≡ l.initial.levels.below
