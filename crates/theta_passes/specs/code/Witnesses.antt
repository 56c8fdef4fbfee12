-- The sets that a finding is shown by, as places.
use Rattle.std.specs.Prelude.{◌≡◌, ℕ, ◌-◌, ◌<◌, ℤ, ◌≤ℤ◌, Bool, true, false, ◌&&◌, int_le, int_lt, List, length, Option, Some, None, cond}
use Rattle.task_sets.specs.Times.{Times, IsWithin, ends_at, IsEct, IsEdgeCut, overload_row, edge_row, detect_row, not_end_row}
use Rattle.task_sets.specs.laws.Ects.{up_from, keep}
use Rattle.theta_passes.specs.declared.rows.Row.{Row}
use Rattle.theta_passes.specs.declared.parts.Part.{Part}
use Rattle.theta_passes.specs.declared.parts.Part.TheVariants.{Cut}
use Rattle.theta_passes.specs.declared.parts.Top.{Top}
use Rattle.theta_passes.specs.declared.witnesses.Ended.{Ended}
use Rattle.theta_passes.specs.code.Rows.{row_at, is_present, times_at, with_candidate, lct_in}
use Rattle.theta_passes.specs.code.Parts.{members_with, part_has}
use Rattle.theta_passes.specs.code.Quiet.{IsEdgeLook, IsLateLook}

-- the present members, and one more where one is given
abbrev pub members_of : List Row → Option ℕ → ℕ → Bool
members_of rows with k = members_with (is_present rows k) with k

-- the places of a part from one on
abbrev pub part_from : List Row → Part → ℕ → List ℕ
part_from rows part x = keep (part_has rows part) (up_from x (length rows - x))

abbrev pub full_by : ℤ → Option Top → Option ℕ
full_by end None = None
full_by end (Some b) = cond (int_lt end b.value) (Some b.place) None

-- each set of a cut is over by a moment, which may tell of another cut
abbrev pub told_by : ℤ → Option Top → Option Ended
told_by end None = None
told_by end (Some b) = Some (record { end = end; value = b.value })

abbrev pub is_told : Option Ended → ℤ → Bool
is_told None end = false
is_told (Some c) end = int_le end c.end && int_le c.value end

abbrev pub AreEnded : List Row → Option ℕ → Option Ended → Type 0
AreEnded rows with None = Unit {0}
AreEnded rows with (Some c) = (x : ℕ) (xs : List ℕ) → IsWithin (part_has rows (Cut with c.end)) x xs → ends_at (times_at rows) x xs ≤ℤ c.value

-- a set of the cut at a moment overloads, or the cut completes by then
abbrev pub FullAt : List Row → Option ℕ → ℤ → Option ℕ → Type 0
FullAt rows with end (Some x) = (x < length rows) × (overload_row (times_at rows) (members_of rows with) (part_from rows (Cut with end) x) ≡ true)
FullAt rows with end None = (z : ℤ) → IsEct (times_at rows) (part_has rows (Cut with end)) z → z ≤ℤ end

abbrev pub FullCut : List Row → Option ℕ → Option (ℤ × ℕ) → Type 0
FullCut rows with (Some r) = FullAt rows with r.0 (Some r.1)
FullCut rows with None = (m : ℕ) → m < length rows → FullAt rows with (row_at rows m).lct None

-- a set by which i starts too late, under each guess that the row of i is about
abbrev pub IsLateSet : List Row → ℕ → List ℕ → Type 0
IsLateSet rows i s = (e : ℕ → Times) → IsLateLook rows i e → (detect_row e (with_candidate rows i) i s ≡ true) × (not_end_row e (with_candidate rows i) i s ≡ true)

-- sets by which i can't end before all of s do, under each guess that the row of i is about
abbrev pub IsEdgeSets : List Row → ℕ → List ℕ → List ℕ → List ℕ → Type 0
IsEdgeSets rows i s u v = (e : ℕ → Times) → IsEdgeLook rows i e → edge_row e (with_candidate rows i) i s u v ≡ true

-- the places from which on the cut with i completes after its moment, and the cut starts i too late
abbrev pub edge_by : Row → ℤ → Option Top → Option Top → Option (ℕ × ℕ)
edge_by r end None v = None
edge_by r end (Some w) None = None
edge_by r end (Some w) (Some v) = cond (int_lt end r.lct && int_lt end w.value && int_lt r.lst v.value) (Some (w.place, v.place)) None

abbrev pub EdgeAt : List Row → ℕ → ℤ → Option (ℕ × ℕ) → Type 0
EdgeAt rows i end (Some r) = (r.0 < length rows) × (r.1 < length rows) × IsEdgeSets rows i (part_from rows (Cut None end) 0) (part_from rows (Cut None end) r.0) (part_from rows (Cut None end) r.1)
EdgeAt rows i end None = (z u : ℤ) → IsEdgeCut (times_at rows) (is_present rows) i end z u → ⊥

abbrev pub EdgeCut : List Row → List ℕ → ℕ → Option (ℤ × ℕ × ℕ) → Type 0
EdgeCut rows order i (Some r) = EdgeAt rows i r.0 (Some (r.1, r.2))
EdgeCut rows order i None = (n : ℕ) → n < length order → EdgeAt rows i (lct_in rows order n) None
