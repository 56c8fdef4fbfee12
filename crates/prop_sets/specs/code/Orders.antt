-- Places with what they are sorted by, and the order that sorting gives.
use Rattle.std.specs.Prelude.{◌≡◌, ℕ, ◌<◌, ◌≤◌, ℤ, neg_ℤ, pos, ◌≤ℤ◌, Bool, true, List, length, slice_index_or}
use Rattle.sched_base.specs.declared.ids.Itv.{Itv}
use Rattle.region.specs.Cells.{Region, bounds_of}
use Rattle.theta_passes.specs.declared.rows.Row.{Row}
use Rattle.theta_passes.specs.code.Rows.{row_at, is_present, is_candidate}
use Rattle.prop_sets.specs.declared.known.Numbers.{Numbers}
use Rattle.prop_sets.specs.declared.orders.Keyed.{Keyed}
use Rattle.prop_sets.specs.declared.orders.By.{By}
use Rattle.prop_sets.specs.declared.orders.By.TheVariants as by
use Rattle.prop_sets.specs.code.Rows.{seen, member_at, AreMoments}
use Rattle.prop_sets.specs.code.Known.{numbers_at, numbers_of}
use Rattle.prop_sets.specs.laws.Under.{IsMoment}

abbrev pub no_place : Keyed
no_place = record { key = pos 0; place = 0 }

abbrev pub keyed_at : List Keyed → ℕ → Keyed
keyed_at ks n = slice_index_or ks n no_place

-- no key is below one before it
abbrev pub AreRising : List Keyed → Type 0
AreRising ks = (m n : ℕ) → m < n → n < length ks → (keyed_at ks m).key ≤ℤ (keyed_at ks n).key

-- each place of a test once, by its key
pub record AreKeyed (on : ℕ → Bool) (key : ℕ → ℤ) (n : ℕ) (ks : List Keyed) : Type 0 where
  pub each : (i : ℕ) → i < length ks → on (keyed_at ks i).place ≡ true
  pub keys : (i : ℕ) → i < length ks → (keyed_at ks i).key ≡ key (keyed_at ks i).place
  pub whole : (k : ℕ) → k < n → on k ≡ true → (i : ℕ) × (i < length ks) × ((keyed_at ks i).place ≡ k)

-- the places alone
pub record ArePlaces (ks : List Keyed) (n : ℕ) (order : List ℕ) : Type 0 where
  pub size : length order ≡ n
  pub each : (i : ℕ) → i < n → slice_index_or order i 0 ≡ (keyed_at ks i).place

-- the members at the places
pub record AreNamed (xs : List Itv) (ks : List Keyed) (n : ℕ) (ys : List Itv) : Type 0 where
  pub size : length ys ≡ n
  pub each : (i : ℕ) → i < n → member_at ys i ≡ member_at xs (keyed_at ks i).place

-- numbers, in which those of members stand at the places
pub record ArePlacedNumbers (r : Region) (xs : List Itv) (ks : List Keyed) (ns : List Numbers) : Type 0 where
  pub size : length ks ≡ length xs
  pub low : (i : ℕ) → i < length xs → (keyed_at ks i).place < length ns
  pub each : (i : ℕ) → i < length xs → numbers_at ns (keyed_at ks i).place ≡ numbers_of (bounds_of r (member_at xs i))
  pub moments : (i : ℕ) → i < length xs → AreMoments (numbers_at ns (keyed_at ks i).place)

-- who is in an order, and by what it rises
abbrev pub on_by : By → List Row → ℕ → Bool
on_by by.Falling rows k = is_candidate rows k
on_by by.FallingPresent rows k = is_present rows k
on_by by.Rising rows k = is_candidate rows k

abbrev pub key_by : By → List Row → ℕ → ℤ
key_by by.Falling rows k = neg_ℤ (row_at rows k).lct
key_by by.FallingPresent rows k = neg_ℤ (row_at rows k).lct
key_by by.Rising rows k = (row_at rows k).reach

pub record IsOrderBy (b : By) (rows : List Row) (order : List ℕ) : Type 0 where
  pub on : (n : ℕ) → n < length order → on_by b rows (slice_index_or order n 0) ≡ true
  pub rises : (m n : ℕ) → m < n → n < length order → key_by b rows (slice_index_or order m 0) ≤ℤ key_by b rows (slice_index_or order n 0)
  pub whole : (k : ℕ) → on_by b rows k ≡ true → (n : ℕ) × (n < length order) × (slice_index_or order n 0 ≡ k)

-- no row ends at a moment that isn't one
abbrev pub AreSpanned : List Row → Type 0
AreSpanned rows = (k : ℕ) → IsMoment (row_at rows k).lct

-- one for each member, by its earliest start on a side
pub record AreStarts (side : ℕ) (r : Region) (xs : List Itv) (n : ℕ) (ks : List Keyed) : Type 0 where
  pub size : length ks ≡ n
  pub each : (i : ℕ) → i < n → keyed_at ks i ≡ record { key = (seen side (bounds_of r (member_at xs i))).est; place = i }

-- members in the order of their earliest starts on a side
abbrev pub IsByStart : ℕ → Region → List Itv → Type 0
IsByStart side r xs = (j k : ℕ) → j ≤ k → k < length xs → (seen side (bounds_of r (member_at xs j))).est ≤ℤ (seen side (bounds_of r (member_at xs k))).est
