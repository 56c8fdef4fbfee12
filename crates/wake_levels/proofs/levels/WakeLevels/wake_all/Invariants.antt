use Rattle.std.proofs.Common.{◌≡◌, ◌<◌, ℕ, length}
use Rattle.std.specs.Prelude.{IsTrue}
use Rattle.wake_levels.specs.code.Waking.{is_awake}
use Rattle.wake_levels.proofs.levels.WakeLevels.wake_all.Given as goal

abbrev pub invariant-loop-k : goal.invariant-loop-k
invariant-loop-k l = record {
  below : l.self.below ≡ l.initial.self.below;
  count : length l.self.levels ≡ length l.initial.self.levels;
  kept : (j : ℕ) → IsTrue (is_awake l.initial.self j) → IsTrue (is_awake l.self j);
  all : (j : ℕ) → j < l.k → IsTrue (is_awake l.self j);
}
