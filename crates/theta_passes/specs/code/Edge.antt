-- The pass of EDGE: the cuts of the present members, and the candidates that a cut finds.
use Rattle.std.specs.Prelude.{Bool, List, None, Option, Some, [], false, int_le, int_lt, length, nat_lt, slice_index_or, suc, true, ◌&&◌, ℕ, ℤ, ◌+ℤ◌, ◌<ℤ◌, ◌<◌, ◌∷◌, ◌≡◌, ◌≢◌, ◌≤ℤ◌, ◌≤◌, ◌⊎◌}
use Rattle.std.specs.Int.{int_max}
use Rattle.task_sets.specs.Times.{IsEct, IsEdgeCut, in_cut, overload_row, with_one}
use Rattle.thetatree.specs.code.Leaves.{Leaves, colour_at}
use Rattle.thetatree.specs.declared.leaves.Colour.{Colour}
use Rattle.thetatree.specs.declared.leaves.Colour.TheVariants.{Gray, Out, White}
use Rattle.theta_passes.specs.code.Rows.{is_candidate, is_present, lct_in, row_at, times_at}
use Rattle.theta_passes.specs.declared.parts.Top.{Top}
use Rattle.theta_passes.specs.declared.rows.Presence.{Presence}
use Rattle.theta_passes.specs.declared.rows.Presence.TheVariants as is
use Rattle.theta_passes.specs.declared.rows.Row.{Row}
use Rattle.thetatree.specs.code.Leaves as leaves

abbrev pub cut_of : List Row → ℤ → ℕ → Bool
cut_of rows level = in_cut (times_at rows) (is_present rows) level

abbrev pub NoOverload : List Row → Type 0
NoOverload rows = (s : List ℕ) → overload_row (times_at rows) (is_present rows) s ≡ true → ⊥

-- a finding: a cut finds it
abbrev pub IsFound : List Row → ℕ → Type 0
IsFound rows k = (is_candidate rows k ≡ true) × (end : ℤ) × (z : ℤ) × (u : ℤ) × IsEdgeCut (times_at rows) (is_present rows) k end z u

-- whether the cut at a moment starts a member too late that may end after it
abbrev pub is_pushed : Row → ℤ → Option Top → Bool
is_pushed r level None = false
is_pushed r level (Some v) = int_lt level r.lct && int_lt r.lst v.value

abbrev pub is_pushed_at : List Row → ℤ → Option Top → ℕ → Bool
is_pushed_at rows level pushing k = nat_lt k (length rows) && is_pushed (row_at rows k) level pushing

-- whether its numbers tell that the cut with the member is over by then
abbrev pub is_over_with : Row → ℤ → Option Top → Bool
is_over_with r level None = false
is_over_with r level (Some v) = int_le (int_max r.est v.value +ℤ r.p) level

-- a moment by which each cut is over with a member in it, where this is when all that are present complete
abbrev pub end_with : Presence → Row → ℤ → ℤ
end_with is.Maybe r whole = int_max r.est whole +ℤ r.p
end_with _ r whole = whole

-- each cut is over by a moment with any of the first members in it
abbrev pub AreOver : List Row → ℕ → ℤ → Type 0
AreOver rows n last = (k : ℕ) (level z : ℤ) → k < n → is_candidate rows k ≡ true → IsEct (times_at rows) (with_one k (cut_of rows level)) z → z ≤ℤ last

-- whether the cut at a moment finds a member
abbrev pub FoundBy : List Row → ℤ → ℕ → Bool → Type 0
FoundBy rows level k true = IsFound rows k
FoundBy rows level k false = (z u : ℤ) → is_candidate rows k ≡ true → IsEdgeCut (times_at rows) (is_present rows) k level z u → ⊥

abbrev pub NoneAt : List Row → ℤ → Type 0
NoneAt rows level = (k : ℕ) (z u : ℤ) → is_candidate rows k ≡ true → IsEdgeCut (times_at rows) (is_present rows) k level z u → ⊥

abbrev pub FoundOrNone : List Row → ℤ → Option ℕ → Type 0
FoundOrNone rows level (Some k) = IsFound rows k
FoundOrNone rows level None = NoneAt rows level

-- what the cut finds that ends with a member: nothing where this isn't present
abbrev pub ByMember : List Row → ℕ → Option ℕ → Type 0
ByMember rows k (Some i) = IsFound rows i
ByMember rows k None = is_present rows k ≡ true → NoneAt rows (row_at rows k).lct

-- the present ones, by falling latest completion
pub record IsOrder (rows : List Row) (order : List ℕ) : Type 0 where
  pub present : (n : ℕ) → n < length order → is_present rows (slice_index_or order n 0) ≡ true
  pub falls : (m n : ℕ) → m < n → n < length order → (row_at rows (slice_index_or order n 0)).lct ≤ℤ (row_at rows (slice_index_or order m 0)).lct
  pub whole : (k : ℕ) → is_present rows k ≡ true → (n : ℕ) × (n < length order) × (slice_index_or order n 0 ≡ k)

-- the pass: a finding, or no cut finds any
abbrev pub PassOrNone : List Row → Option ℕ → Type 0
PassOrNone rows (Some k) = IsFound rows k
PassOrNone rows None = (k : ℕ) (end z u : ℤ) → is_candidate rows k ≡ true → IsEdgeCut (times_at rows) (is_present rows) k end z u → ⊥

-- before the first cut: the members are white, and nobody else is in the tree
pub record IsStart (t : Leaves) (rows : List Row) (k : ℕ) : Type 0 where
  pub white : is_present rows k ≡ true → colour_at t k ≡ White
  pub whites : colour_at t k ≡ White → is_present rows k ≡ true
  pub grays : colour_at t k ≢ Gray

-- no cut at this moment or an earlier one finds k
abbrev pub IsDone : List Row → ℤ → ℕ → Type 0
IsDone rows level k = (end z u : ℤ) → end ≤ℤ level → IsEdgeCut (times_at rows) (is_present rows) k end z u → ⊥

-- the colours are those of the cut at a moment
pub record IsAt (t : Leaves) (rows : List Row) (level : ℤ) (k : ℕ) : Type 0 where
  pub white : is_present rows k ≡ true → (row_at rows k).lct ≤ℤ level → colour_at t k ≡ White
  pub above : is_candidate rows k ≡ true → level <ℤ (row_at rows k).lct → (colour_at t k ≡ Gray) ⊎ IsDone rows level k
  pub whites : colour_at t k ≡ White → (is_present rows k ≡ true) × ((row_at rows k).lct ≤ℤ level)
  pub grays : colour_at t k ≡ Gray → (is_candidate rows k ≡ true) × (level <ℤ (row_at rows k).lct)

abbrev pub IsLevel : Leaves → List Row → ℤ → Type 0
IsLevel t rows level = (k : ℕ) → IsAt t rows level k

-- a gray leaf that makes the cut too full, or that there is none
pub record IsLate (t : Leaves) (level : ℤ) (k : ℕ) : Type 0 where
  pub value : ℤ
  pub ect : leaves.IsEctGray t value (Some k)
  pub full : level <ℤ value

pub record IsEarly (t : Leaves) (level : ℤ) : Type 0 where
  pub value : ℤ
  pub gray : Option ℕ
  pub ect : leaves.IsEctGray t value gray
  pub why : (value ≤ℤ level) ⊎ (gray ≡ None)

abbrev pub LateOrNone : Leaves → ℤ → Option ℕ → Type 0
LateOrNone t level (Some k) = IsLate t level k
LateOrNone t level None = ((k : ℕ) → colour_at t k ≡ Out) ⊎ IsEarly t level

-- the places below one are at the lower moment, the others at the higher
pub record IsFallen (t : Leaves) (rows : List Row) (above level : ℤ) (done : ℕ) : Type 0 where
  pub below : (k : ℕ) → k < done → IsAt t rows level k
  pub rest : (k : ℕ) → (k < done → ⊥) → IsAt t rows above k

-- the moment is the latest completion of a member
pub record IsMember (rows : List Row) (level : ℤ) : Type 0 where
  pub place : ℕ
  pub on : is_present rows place ≡ true
  pub is : (row_at rows place).lct ≡ level

abbrev pub grays : List Colour → ℕ
grays [] = 0
grays (Gray ∷ cs) = suc (grays cs)
grays (White ∷ cs) = grays cs
grays (Out ∷ cs) = grays cs

-- the walk so far: it stands at a moment, and has met the cuts of the first members
pub record IsPassed (t : Leaves) (rows : List Row) (order : List ℕ) (above : ℤ) (done : ℕ) : Type 0 where
  pub at : IsLevel t rows above
  pub met : (n : ℕ) → n < done → NoneAt rows (lct_in rows order n)
  pub falls : (n : ℕ) → done ≤ n → n < length order → lct_in rows order n ≤ℤ above
