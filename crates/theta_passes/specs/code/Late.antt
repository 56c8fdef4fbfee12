-- The pass of NOTEND and DETECT: the members that must start before one can end.
use Rattle.std.specs.Prelude.{Bool, List, None, Option, Some, cond, false, int_le, int_lt, length, nat_eq, neg_ℤ, not, pos, slice_index_or, true, ℕ, ℤ, ◌&&◌, ◌||◌, ◌<ℤ◌, ◌<◌, ◌≡◌, ◌≤ℤ◌, ◌≤◌}
use Rattle.task_sets.specs.Times.{IsEct}
use Rattle.thetatree.specs.code.Leaves.{Leaves, colour_at}
use Rattle.thetatree.specs.declared.leaves.Colour.TheVariants.{White}
use Rattle.theta_passes.specs.code.Places.{has_place}
use Rattle.theta_passes.specs.code.Rows.{is_candidate, is_present, row_at, says_present, times_at}
use Rattle.theta_passes.specs.declared.rows.Row.{Row}
use Rattle.theta_passes.specs.declared.parts.Top.{Top}
use Rattle.theta_passes.specs.declared.scan.Lows.{Lows}

abbrev pub before_key : List Row → ℕ → ℕ → Bool
before_key rows i y = is_present rows y && not (nat_eq y i) && int_lt (row_at rows y).lst (row_at rows i).reach

pub record IsLateRow (rows : List Row) (i : ℕ) (z : ℤ) : Type 0 where
  pub ect : IsEct (times_at rows) (before_key rows i) z
  pub late : (row_at rows i).bar <ℤ z

-- the candidates, by rising earliest completion
pub record IsRising (rows : List Row) (order : List ℕ) : Type 0 where
  pub candidate : (n : ℕ) → n < length order → is_candidate rows (slice_index_or order n 0) ≡ true
  pub rises : (m n : ℕ) → m < n → n < length order → (row_at rows (slice_index_or order m 0)).reach ≤ℤ (row_at rows (slice_index_or order n 0)).reach
  pub whole : (k : ℕ) → is_candidate rows k ≡ true → (n : ℕ) × (n < length order) × (slice_index_or order n 0 ≡ k)

-- a moment before all that the rows of a look can name
abbrev pub lowest : ℤ
lowest = neg_ℤ (pos 4000000000)

pub record IsLow (rows : List Row) : Type 0 where
  pub lst : (k : ℕ) → lowest ≤ℤ (row_at rows k).lst
  pub reach : (k : ℕ) → lowest ≤ℤ (row_at rows k).reach

abbrev pub LatePass : List Row → Option ℕ → Type 0
LatePass rows (Some k) = (is_candidate rows k ≡ true) × (z : ℤ) × IsLateRow rows k z
LatePass rows None = (k : ℕ) (z : ℤ) → is_candidate rows k ≡ true → IsLateRow rows k z → ⊥

abbrev pub LateAt : List Row → ℕ → Bool → Type 0
LateAt rows k true = (z : ℤ) × IsLateRow rows k z
LateAt rows k false = (z : ℤ) → IsLateRow rows k z → ⊥

abbrev pub LateCandidate : List Row → ℕ → Bool → Type 0
LateCandidate rows k true = LatePass rows (Some k)
LateCandidate rows k false = (z : ℤ) → is_candidate rows k ≡ true → IsLateRow rows k z → ⊥

-- the scan so far
abbrev pub NoneScanned : List Row → ℕ → Type 0
NoneScanned rows n = (k : ℕ) → k < n → LateCandidate rows k false

abbrev pub late_by : ℤ → Option Top → Bool
late_by bar None = false
late_by bar (Some b) = int_lt bar b.value

-- the two least of the latest starts of those present among the first rows, and where the least stands
abbrev pub with_row : Lows → Row → ℕ → Lows
with_row l r k = cond (says_present r.presence) (cond (int_lt r.lst l.first) (record { place = k; first = r.lst; second = l.first }) (cond (int_lt r.lst l.second) (record { place = l.place; first = l.first; second = r.lst }) l)) l

pub record AreLows (rows : List Row) (n : ℕ) (l : Lows) : Type 0 where
  pub least : (y : ℕ) → y < n → is_present rows y ≡ true → l.first ≤ℤ (row_at rows y).lst
  pub next : (y : ℕ) → y < n → is_present rows y ≡ true → nat_eq y l.place ≡ false → l.second ≤ℤ (row_at rows y).lst

-- whether nobody else must start before a member can end
abbrev pub is_free : Lows → Row → ℕ → Bool
is_free l r k = cond (nat_eq k l.place) (int_le r.reach l.second) (int_le r.reach l.first)

-- whether it surely isn't late: nobody else must start before it can end, or all that are present complete by its bar
abbrev pub is_idle : Lows → Option Top → Row → ℕ → Bool
is_idle l whole r k = is_free l r k || not (late_by r.bar whole)

abbrev pub GivesLate : List Row → ℕ → Option ℤ → Type 0
GivesLate rows i None = (y : ℕ) → before_key rows i y ≡ true → ⊥
GivesLate rows i (Some z) = IsEct (times_at rows) (before_key rows i) z

abbrev pub starts_before : Row → ℤ → Bool
starts_before row key = says_present row.presence && int_lt row.lst key

abbrev pub is_above : ℤ → Option ℤ → Bool
is_above bar None = false
is_above bar (Some z) = int_lt bar z

abbrev pub key_in : List Row → List ℕ → ℕ → ℤ
key_in rows order n = (row_at rows (slice_index_or order n 0)).reach

-- white are those that must start before a moment
pub record IsFilled (t : Leaves) (rows : List Row) (key : ℤ) (k : ℕ) : Type 0 where
  pub white : is_present rows k ≡ true → (row_at rows k).lst <ℤ key → colour_at t k ≡ White
  pub whites : colour_at t k ≡ White → (is_present rows k ≡ true) × ((row_at rows k).lst <ℤ key)

pub record IsFilling (t : Leaves) (rows : List Row) (from key : ℤ) (done : ℕ) : Type 0 where
  pub below : (k : ℕ) → k < done → IsFilled t rows key k
  pub rest : (k : ℕ) → (k < done → ⊥) → IsFilled t rows from k

pub record IsLatePassed (t : Leaves) (rows : List Row) (order : List ℕ) (key : ℤ) (done : ℕ) : Type 0 where
  pub at : (k : ℕ) → IsFilled t rows key k
  pub met : (n : ℕ) → n < done → LateAt rows (slice_index_or order n 0) false
  pub rises : (n : ℕ) → done ≤ n → n < length order → key ≤ℤ key_in rows order n

-- whoever is at none of these places isn't late
pub record AreLeft (rows : List Row) (left : ℕ) : Type 0 where
  pub within : (k : ℕ) → has_place left k ≡ true → k < length rows
  pub rest : (k : ℕ) → has_place left k ≡ false → LateCandidate rows k false
