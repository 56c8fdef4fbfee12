-- What a node says of the bars from one place to another: the reach of those that are on from one of them
-- on. No set is named yet.
use Rattle.std.proofs.Common.{◌≡◌, ℕ, ◌<◌, ◌≤◌, ℤ, pos, ◌+ℤ◌, ◌-ℤ◌, ◌*ℤ◌, ◌≤ℤ◌, Bool, true, false, Option, None, Some, IfSome}
use Rattle.envelope.specs.declared.node.Node.{Node}
use Rattle.envelope.specs.code.Bars.{Bars, bar_at, is_on}
use Rattle.thetatree.proofs.Parts.{sum_below}

abbrev pub IsAtMost : ℤ → Option ℤ → Type 0
IsAtMost z None = ⊥
IsAtMost z (Some a) = z ≤ℤ a

abbrev pub weight : Bool → ℤ → ℤ
weight false p = pos 0
weight true p = p

abbrev pub energy_at : Bars → ℕ → ℤ
energy_at t k = weight (is_on t k) (bar_at t k).energy

-- the energy of the bars that are on from one place up to another
abbrev pub row_sum : Bars → ℕ → ℕ → ℤ
row_sum t lo hi = sum_below (energy_at t) hi -ℤ sum_below (energy_at t) lo

abbrev pub start_at : Bars → ℕ → ℤ
start_at t k = t.capacity *ℤ (bar_at t k).est

-- the reach of the bars that are on from j on
abbrev pub reach_from : Bars → ℕ → ℕ → ℤ
reach_from t j hi = start_at t j +ℤ row_sum t j hi

pub record Reaches (t : Bars) (lo hi : ℕ) (z : ℤ) : Type 0 where
  pub first : ℕ
  pub from : lo ≤ first
  pub to : first < hi
  pub on : is_on t first ≡ true
  pub is : z ≡ reach_from t first hi

pub record HoldsPart (t : Bars) (lo hi : ℕ) (n : Node) : Type 0 where
  pub sum : n.sum ≡ row_sum t lo hi
  pub reached : IfSome n.env (Reaches t lo hi)
  pub greatest : (j : ℕ) → lo ≤ j → j < hi → is_on t j ≡ true → IsAtMost (reach_from t j hi) n.env
