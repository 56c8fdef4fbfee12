-- Lists of numbers that grow by one number at some places.
use Rattle.std.specs.Prelude.{◌≡◌, ℕ, ◌<◌, Bool, IsTrue, List, [], All, slice_index_or, nat_eq}
use Rattle.std.specs.List.{list_any}
use Rattle.iqueue.specs.code.Queue.{is_in}
use Rattle.region.specs.declared.types.CellName.{CellName}
use Rattle.engine.specs.code.Watching.{Watching, watchers_of}

abbrev pub noted_at : List (List ℕ) → ℕ → List ℕ
noted_at lists n = slice_index_or lists n []

-- the lists are the same, but for empty ones at the end
abbrev pub IsPadded : List (List ℕ) → List (List ℕ) → Type 0
IsPadded old new = (n : ℕ) → noted_at new n ≡ noted_at old n

-- each number in the lists is below a bound
abbrev pub AreAllBelow : ℕ → List (List ℕ) → Type 0
AreAllBelow n lists = (i : ℕ) → All (λ k. k < n) (noted_at lists i)

-- k was noted at the place of each of these
pub record Noted {X : Type 0} (k : ℕ) (place : X → ℕ) (xs : List X) (old new : List (List ℕ)) : Type 0 where
  pub kept : (i j : ℕ) → IsTrue (is_in j (noted_at old i)) → IsTrue (is_in j (noted_at new i))
  pub noted : (i : ℕ) → IsTrue (list_any (λ x. nat_eq i (place x)) xs) → IsTrue (is_in k (noted_at new i))
  pub below : (n : ℕ) → k < n → AreAllBelow n old → AreAllBelow n new

-- each number in any list is below a bound
pub record AreBelow (n : ℕ) (w : Watching) : Type 0 where
  pub by_presence : AreAllBelow n w.by_presence
  pub by_bound : AreAllBelow n w.by_bound
  pub by_sequence : AreAllBelow n w.by_sequence
  pub by_best : All (λ k. k < n) w.by_best

-- of the numbers below n whoever watches is listed, and no other number is
pub record AreListed (n : ℕ) (watching : ℕ → CellName → Bool) (watching_best : ℕ → Bool) (w : Watching) : Type 0 where
  pub cells : (k : ℕ) (c : CellName) → k < n → IsTrue (watching k c) → IsTrue (is_in k (watchers_of w c))
  pub best : (k : ℕ) → k < n → IsTrue (watching_best k) → IsTrue (is_in k w.by_best)
  pub below : AreBelow n w
