-- What a node says of the tasks from one place to another: completion times of the white places from
-- one of them on, with at most one gray place. No set is named yet.
use Rattle.std.proofs.Common.{◌≡◌, ℕ, zero, suc, ◌<◌, ◌≤◌, ℤ, pos, ◌+ℤ◌, ◌-ℤ◌, ◌≤ℤ◌, Option, None, Some, IfSome, ◌⊎◌}
use Rattle.thetatree.specs.declared.leaves.Colour.{Colour}
use Rattle.thetatree.specs.declared.leaves.Colour.TheVariants.{Out, White, Gray}
use Rattle.thetatree.specs.declared.node.Best.{Best}
use Rattle.thetatree.specs.declared.node.Node.{Node}
use Rattle.thetatree.specs.code.Leaves.{Leaves, task_at, colour_at}

abbrev pub IsAtMost : ℤ → Option ℤ → Type 0
IsAtMost z None = ⊥
IsAtMost z (Some a) = z ≤ℤ a

abbrev pub weight : Colour → ℤ → ℤ
weight Out p = pos 0
weight White p = p
weight Gray p = pos 0

-- the sum of the first numbers of a row
abbrev pub sum_below : (ℕ → ℤ) → ℕ → ℤ
sum_below w zero = pos 0
sum_below w (suc k) = sum_below w k +ℤ w k

abbrev pub white_at : Leaves → ℕ → ℤ
white_at t k = weight (colour_at t k) (task_at t k).p

-- the white tasks from one place up to another
abbrev pub white_sum : Leaves → ℕ → ℕ → ℤ
white_sum t lo hi = sum_below (white_at t) hi -ℤ sum_below (white_at t) lo

-- what the gray place adds
abbrev pub extra : Leaves → Option ℕ → ℤ
extra t None = pos 0
extra t (Some g) = (task_at t g).p

-- the white places up to hi, with this gray place, have j as their first one
abbrev pub Begins : Leaves → ℕ → ℕ → Option ℕ → Type 0
Begins t j hi None = colour_at t j ≡ White
Begins t j hi (Some g) = (j ≤ g) × (g < hi) × (colour_at t g ≡ Gray) × ((colour_at t j ≡ White) ⊎ (j ≡ g))

-- the gray place lies in the part
abbrev pub Within : Leaves → ℕ → ℕ → Option ℕ → Type 0
Within t lo hi None = Unit {0}
Within t lo hi (Some g) = (lo ≤ g) × (g < hi) × (colour_at t g ≡ Gray)

-- when the white places from j on, with the gray place, are complete
abbrev pub end_from : Leaves → ℕ → ℕ → Option ℕ → ℤ
end_from t j hi gray = (task_at t j).est +ℤ (white_sum t j hi +ℤ extra t gray)

pub record Reaches (t : Leaves) (lo hi : ℕ) (z : ℤ) (gray : Option ℕ) : Type 0 where
  pub first : ℕ
  pub from : lo ≤ first
  pub to : first < hi
  pub begins : Begins t first hi gray
  pub is : z ≡ end_from t first hi gray

abbrev pub AtMostBest : ℤ → Option Best → Type 0
AtMostBest z None = ⊥
AtMostBest z (Some b) = z ≤ℤ b.value

pub record HoldsPart (t : Leaves) (lo hi : ℕ) (n : Node) : Type 0 where
  pub sum : n.sum ≡ white_sum t lo hi
  pub ect_reached : IfSome n.ect (λ z. Reaches t lo hi z None)
  pub ect_greatest : (j : ℕ) → lo ≤ j → j < hi → Begins t j hi None → IsAtMost (end_from t j hi None) n.ect
  pub gray_sum_within : Within t lo hi n.gray_sum.leaf
  pub gray_sum_is : n.gray_sum.value ≡ white_sum t lo hi +ℤ extra t n.gray_sum.leaf
  pub gray_sum_greatest : (gray : Option ℕ) → Within t lo hi gray → (white_sum t lo hi +ℤ extra t gray) ≤ℤ n.gray_sum.value
  pub gray_ect_reached : IfSome n.gray_ect (λ b. Reaches t lo hi b.value b.leaf)
  pub gray_ect_greatest : (gray : Option ℕ) (j : ℕ) → lo ≤ j → j < hi → Begins t j hi gray → AtMostBest (end_from t j hi gray) n.gray_ect
