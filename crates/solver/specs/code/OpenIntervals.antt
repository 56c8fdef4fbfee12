-- The intervals of which something may be open: the first ones of a list. Those that were left out are fixed, and stay so
-- in each part of the region.
use Rattle.std.specs.Prelude.{◌≡◌, ℕ, ◌+◌, ◌<◌, ◌≤◌, false, List, length, slice_index_or, All}
use Rattle.sched_base.specs.declared.ids.Itv.{Itv}
use Rattle.region.specs.Cells.{Region, bounds_of, is_fixed}

pub record OpenList : Type 0 where
  pub list : List ℕ
  pub count : ℕ

-- it stands at one of the first places
abbrev pub IsAmong : ℕ → List ℕ → ℕ → Type 0
IsAmong count list x = (p : ℕ) × (p < count) × (slice_index_or list p 0 ≡ x)

-- each interval that isn't fixed is among the first ones
abbrev pub HoldsOpen : Region → List ℕ → ℕ → Type 0
HoldsOpen r list count = (x : Itv) → x.0 < length r.bounds → is_fixed (bounds_of r x) ≡ false → IsAmong count list x.0

-- numbers of intervals of the region, of which so many are the first ones
pub record IsOpenList (r : Region) (xs : OpenList) : Type 0 where
  pub within : xs.count ≤ length xs.list
  pub below : All (λ x. x < length r.bounds) xs.list
  pub holds : HoldsOpen r xs.list xs.count

-- as many or fewer are the first ones, and what was among as many or more still is
pub record Sifts (old new : OpenList) : Type 0 where
  pub fewer : new.count ≤ old.count
  pub size : length new.list ≡ length old.list
  pub kept : (count x : ℕ) → old.count ≤ count → count ≤ length old.list → IsAmong count old.list x → IsAmong count new.list x

-- the one at a place of the first ones was left out, and no other
pub record Leaves (i : ℕ) (old new : OpenList) : Type 0 where
  pub sifts : Sifts old new
  pub one : old.count ≡ new.count + 1
  pub others : (x : ℕ) → IsAmong old.count old.list x → (x ≡ slice_index_or old.list i 0 → ⊥) → IsAmong new.count new.list x
  pub below : (n : ℕ) → All (λ x. x < n) old.list → All (λ x. x < n) new.list
