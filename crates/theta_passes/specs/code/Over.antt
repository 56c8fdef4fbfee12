-- The pass of OVERLOAD, with at most one optional member made present.
use Rattle.std.specs.Prelude.{Bool, List, None, Option, Some, false, int_lt, length, slice_index_or, true, ℕ, ℤ, ◌<◌, ◌≡◌, ◌≤ℤ◌, ◌≤◌}
use Rattle.task_sets.specs.Times.{IsTooFull, overload_row}
use Rattle.thetatree.specs.code.Leaves.{Leaves, colour_at}
use Rattle.thetatree.specs.declared.leaves.Colour.TheVariants.{Gray, White}
use Rattle.theta_passes.specs.code.Rows.{is_candidate, is_present, lct_in, row_at, times_at, with_candidate}
use Rattle.theta_passes.specs.declared.rows.Row.{Row}

-- the candidates, by falling latest completion
pub record IsFalling (rows : List Row) (order : List ℕ) : Type 0 where
  pub candidate : (n : ℕ) → n < length order → is_candidate rows (slice_index_or order n 0) ≡ true
  pub falls : (m n : ℕ) → m < n → n < length order → lct_in rows order n ≤ℤ lct_in rows order m
  pub whole : (k : ℕ) → is_candidate rows k ≡ true → (n : ℕ) × (n < length order) × (slice_index_or order n 0 ≡ k)

abbrev pub NoneOver : List Row → ℤ → Type 0
NoneOver rows level = (i : ℕ) (z : ℤ) → is_candidate rows i ≡ true → IsTooFull (times_at rows) (with_candidate rows i) level z → ⊥

-- an overload of present members, or of these and one more
abbrev pub Overfull : List Row → Option ℕ → Type 0
Overfull rows None = (s : List ℕ) × (overload_row (times_at rows) (is_present rows) s ≡ true)
Overfull rows (Some i) = (is_candidate rows i ≡ true) × (s : List ℕ) × (overload_row (times_at rows) (with_candidate rows i) s ≡ true)

abbrev pub OverAt : List Row → ℤ → Option (Option ℕ) → Type 0
OverAt rows level (Some o) = Overfull rows o
OverAt rows level None = NoneOver rows level

pub record NoOverloads (rows : List Row) : Type 0 where
  pub alone : (s : List ℕ) → overload_row (times_at rows) (is_present rows) s ≡ true → ⊥
  pub with_i : (i : ℕ) (s : List ℕ) → is_candidate rows i ≡ true → overload_row (times_at rows) (with_candidate rows i) s ≡ true → ⊥

abbrev pub OverPass : List Row → Option (Option ℕ) → Type 0
OverPass rows (Some o) = Overfull rows o
OverPass rows None = NoOverloads rows

-- white are the members of the cut, gray the optional ones that end by its moment
pub record IsFull (t : Leaves) (rows : List Row) (level : ℤ) (k : ℕ) : Type 0 where
  pub white : is_present rows k ≡ true → (row_at rows k).lct ≤ℤ level → colour_at t k ≡ White
  pub gray : is_present rows k ≡ false → is_candidate rows k ≡ true → (row_at rows k).lct ≤ℤ level → colour_at t k ≡ Gray
  pub whites : colour_at t k ≡ White → (is_present rows k ≡ true) × ((row_at rows k).lct ≤ℤ level)
  pub grays : colour_at t k ≡ Gray → (is_candidate rows k ≡ true) × ((row_at rows k).lct ≤ℤ level)

pub record IsFullFalling (t : Leaves) (rows : List Row) (above level : ℤ) (done : ℕ) : Type 0 where
  pub below : (k : ℕ) → k < done → IsFull t rows level k
  pub rest : (k : ℕ) → (k < done → ⊥) → IsFull t rows above k

pub record IsOverPassed (t : Leaves) (rows : List Row) (order : List ℕ) (above : ℤ) (done : ℕ) : Type 0 where
  pub at : (k : ℕ) → IsFull t rows above k
  pub met : (n : ℕ) → n < done → NoneOver rows (lct_in rows order n)
  pub falls : (n : ℕ) → done ≤ n → n < length order → lct_in rows order n ≤ℤ above

abbrev pub over_by : Bool → Option ℕ → Option (Option ℕ)
over_by true g = Some g
over_by false g = None

abbrev pub over_level : ℤ → Option (ℤ × Option ℕ) → Option (Option ℕ)
over_level level None = None
over_level level (Some r) = over_by (int_lt level r.0) r.1
