-- The same items in another order.
use Rattle.std.specs.Prelude.{◌≡◌, ℕ, ◌<◌, List, length, slice_index_or}

-- where the item at a place of the second list stands in the first, and back
pub record IsReordered {X : Type 0} (xs ys : List X) : Type 0 where
  pub size : length ys ≡ length xs
  pub to : ℕ → ℕ
  pub back : ℕ → ℕ
  pub low : (k : ℕ) → k < length ys → to k < length xs
  pub at : (k : ℕ) (d : X) → k < length ys → slice_index_or ys k d ≡ slice_index_or xs (to k) d
  pub there : (j : ℕ) → j < length xs → back j < length ys
  pub found : (j : ℕ) → j < length xs → to (back j) ≡ j
  pub same : (k : ℕ) → k < length ys → back (to k) ≡ k
