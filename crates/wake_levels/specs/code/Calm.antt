-- A fact holds of each number that isn't awake.
use Rattle.std.specs.Prelude.{◌≡◌, ℕ, ◌<◌, false, IsTrue, List, length}
use Rattle.iqueue.specs.code.Queue.{is_in}
use Rattle.wake_levels.specs.code.Waking.{Waking, is_awake}

-- each number that isn't awake is quiet
pub record IsCalm (count : ℕ) (quiet : ℕ → Type 0) (a : Waking) : Type 0 where
  pub below : a.below ≡ count
  pub others : (k : ℕ) → k < count → is_awake a k ≡ false → quiet k

-- whatever was awake is, and each of these
pub record WakesEach (ks : List ℕ) (old new : Waking) : Type 0 where
  pub below : new.below ≡ old.below
  pub count : length new.levels ≡ length old.levels
  pub kept : (j : ℕ) → IsTrue (is_awake old j) → IsTrue (is_awake new j)
  pub woken : (k : ℕ) → IsTrue (is_in k ks) → IsTrue (is_awake new k)
