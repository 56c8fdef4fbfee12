-- The tasks of a tree, their colours, and the earliest completion times of sets of them.
use Rattle.std.specs.Prelude.{◌≡◌, ◌≢◌, ◌⊎◌, ℕ, ◌<◌, ◌≤◌, ℤ, pos, neg_ℤ, ◌+ℤ◌, ◌≤ℤ◌, Bool, true, false, nat_eq, List, [], ◌∷◌, length, slice_index_or, Option, None, Some}
use Rattle.std.specs.List.{list_any}
use Rattle.std.specs.Int.{int_min}
use Rattle.sched_base.specs.declared.ids.TheConstants.{H}
use Rattle.thetatree.specs.declared.leaves.Task.{Task}
use Rattle.thetatree.specs.declared.leaves.Colour.{Colour}
use Rattle.thetatree.specs.declared.leaves.Colour.TheVariants.{Out, White, Gray}

-- a task and a colour for each place
pub record Leaves : Type 0 where
  pub tasks : List Task
  pub colours : List Colour

-- what stands at a place; where there is no such place, a task that is in no set
abbrev pub task_in : List Task → ℕ → Task
task_in ts k = slice_index_or ts k (record { est = pos 0; p = pos 0 })

abbrev pub task_at : Leaves → ℕ → Task
task_at t k = task_in t.tasks k

abbrev pub colour_at : Leaves → ℕ → Colour
colour_at t k = slice_index_or t.colours k Out

-- a task whose moments and size fit a model's bound on moments
pub record IsSmallTask (a : Task) : Type 0 where
  pub est_from : neg_ℤ H ≤ℤ a.est
  pub est_to : a.est ≤ℤ H
  pub p_from : pos 0 ≤ℤ a.p
  pub p_to : a.p ≤ℤ (H +ℤ H)

-- the tasks that a tree takes: at most 500, small, and in the order of their earliest starts
pub record AreTasks (ts : List Task) : Type 0 where
  pub few : length ts ≤ 500
  pub small : (k : ℕ) → k < length ts → IsSmallTask (task_in ts k)
  pub in_order : (j k : ℕ) → j ≤ k → k < length ts → (task_in ts j).est ≤ℤ (task_in ts k).est

-- a set is the list of its places, in any order

abbrev pub has : List ℕ → ℕ → Bool
has ks k = list_any (λ j. nat_eq j k) ks

-- no place stands twice
abbrev pub IsOnce : List ℕ → Type 0
IsOnce [] = Unit {0}
IsOnce (k ∷ ks) = (has ks k ≡ false) × IsOnce ks

-- the least earliest start in the set of k and ks
abbrev pub least_est : Leaves → ℕ → List ℕ → ℤ
least_est t k [] = (task_at t k).est
least_est t k (j ∷ ks) = int_min (task_at t k).est (least_est t j ks)

-- how long the tasks take together
abbrev pub sum_of : Leaves → List ℕ → ℤ
sum_of t [] = pos 0
sum_of t (k ∷ ks) = (task_at t k).p +ℤ sum_of t ks

-- no schedule completes the set of k and ks before this moment
abbrev pub end_of : Leaves → ℕ → List ℕ → ℤ
end_of t k ks = least_est t k ks +ℤ sum_of t (k ∷ ks)

-- the gray place of a set is in it, where it has one
abbrev pub HasGray : Leaves → Option ℕ → List ℕ → Type 0
HasGray t None ks = Unit {0}
HasGray t (Some g) ks = (has ks g ≡ true) × (colour_at t g ≡ Gray)

-- a set of white places, and of the gray place where one is given
pub record IsChosen (t : Leaves) (gray : Option ℕ) (ks : List ℕ) : Type 0 where
  pub once : IsOnce ks
  pub white : (k : ℕ) → has ks k ≡ true → (colour_at t k ≡ White) ⊎ (gray ≡ Some k)
  pub gray_in : HasGray t gray ks

-- the earliest completion time over the sets of white places
pub record IsEct (t : Leaves) (z : ℤ) : Type 0 where
  pub reached : (k : ℕ) × (ks : List ℕ) × IsChosen t None (k ∷ ks) × (end_of t k ks ≡ z)
  pub greatest : (k : ℕ) (ks : List ℕ) → IsChosen t None (k ∷ ks) → end_of t k ks ≤ℤ z

-- the same over the sets of white places and at most one gray place, and the gray place of a set that
-- reaches it, where that set has one
pub record IsEctGray (t : Leaves) (z : ℤ) (gray : Option ℕ) : Type 0 where
  pub reached : (k : ℕ) × (ks : List ℕ) × IsChosen t gray (k ∷ ks) × (end_of t k ks ≡ z)
  pub greatest : (any : Option ℕ) (k : ℕ) (ks : List ℕ) → IsChosen t any (k ∷ ks) → end_of t k ks ≤ℤ z

abbrev pub GivesEct : Leaves → Option ℤ → Type 0
GivesEct t None = (k : ℕ) → colour_at t k ≢ White
GivesEct t (Some z) = IsEct t z

abbrev pub GivesEctGray : Leaves → Option (ℤ × Option ℕ) → Type 0
GivesEctGray t None = (k : ℕ) → colour_at t k ≡ Out
GivesEctGray t (Some r) = IsEctGray t r.0 r.1
