-- Parts of the members, and the sets of a part that complete latest.
use Rattle.std.specs.Prelude.{◌≡◌, ℕ, ◌-◌, ◌*◌, ◌<◌, ◌≤◌, ℤ, pos, ◌+ℤ◌, ◌≤ℤ◌, Bool, true, not, ◌&&◌, ◌||◌, nat_eq, int_lt, int_le, cond, List, length, Option, Some, None}
use Rattle.task_sets.specs.laws.Sums.{load}
use Rattle.task_sets.specs.laws.Ects.{up_from}
use Rattle.theta_passes.specs.declared.rows.Row.{Row}
use Rattle.theta_passes.specs.declared.parts.Part.{Part}
use Rattle.theta_passes.specs.declared.parts.Part.TheVariants.{Whole, Cut, CutAnd, Before}
use Rattle.theta_passes.specs.declared.parts.Top.{Top}
use Rattle.theta_passes.specs.declared.parts.Scan.{Scan}
use Rattle.theta_passes.specs.code.Rows.{row_at, is_present}

abbrev pub members_with : Bool → Option ℕ → ℕ → Bool
members_with present None k = present
members_with present (Some one) k = nat_eq k one || present

abbrev pub cut_has : Bool → Row → ℤ → Bool
cut_has member row end = member && int_le row.lct end

-- whether a place is in a part
abbrev pub part_has : List Row → Part → ℕ → Bool
part_has rows Whole k = is_present rows k
part_has rows (Cut with end) k = cut_has (members_with (is_present rows k) with k) (row_at rows k) end
part_has rows (CutAnd end one) k = nat_eq k one || cut_has (is_present rows k) (row_at rows k) end
part_has rows (Before i key) k = is_present rows k && not (nat_eq k i) && int_lt (row_at rows k).lst key

-- when those of a part that stand at a place and behind it complete at the earliest
abbrev pub ends_from : List Row → (ℕ → Bool) → ℕ → ℤ
ends_from rows t x = (row_at rows x).est +ℤ load (λ y. (row_at rows y).p) t (up_from x (length rows - x))

-- of those at a place and behind it, one from which on they complete latest
pub record IsTop (rows : List Row) (t : ℕ → Bool) (k : ℕ) (b : Top) : Type 0 where
  pub on : t b.place ≡ true
  pub within : b.place < length rows
  pub value : b.value ≡ ends_from rows t b.place
  pub most : (y : ℕ) → k ≤ y → y < length rows → t y ≡ true → ends_from rows t y ≤ℤ b.value

abbrev pub GivesTop : List Row → (ℕ → Bool) → ℕ → Option Top → Type 0
GivesTop rows t k None = (y : ℕ) → k ≤ y → y < length rows → t y ≡ true → ⊥
GivesTop rows t k (Some b) = IsTop rows t k b

abbrev pub better_top : Option Top → ℕ → ℤ → Option Top
better_top None place value = Some (record { place = place; value = value })
better_top (Some b) place value = cond (int_le value b.value) (Some b) (Some (record { place = place; value = value }))

abbrev pub scan_with : Scan → Row → ℕ → Scan
scan_with s r k = record { sum = s.sum +ℤ r.p; top = better_top s.top k (r.est +ℤ (s.sum +ℤ r.p)) }

-- the scan has come down to a place
pub record IsScanned (rows : List Row) (t : ℕ → Bool) (k : ℕ) (s : Scan) : Type 0 where
  pub sum : s.sum ≡ load (λ y. (row_at rows y).p) t (up_from k (length rows - k))
  pub low : pos 0 ≤ℤ s.sum
  pub high : s.sum ≤ℤ pos (2000000000 * (length rows - k))
  pub top : GivesTop rows t k s.top
