-- How many parts are what the rows of a constraint ask, and what these numbers tell of the rows.
use Rattle.std.specs.Prelude.{ℕ, ◌+◌, ◌-◌, ℤ, pos, Bool, true, false, not, ◌||◌, if◌then◌else◌, List, nat_lt, int_lt, cond}
use Rattle.std.specs.List.{count_by}
use Rattle.sched_base.specs.declared.ids.Itv.{Itv}
use Rattle.region.specs.declared.types.Presence.{Presence}
use Rattle.region.specs.declared.types.Presence.TheVariants.{Absent, Present, Maybe}
use Rattle.region.specs.declared.types.Bounds.{Bounds}
use Rattle.region.specs.Cells.{Region}
use Rattle.refute_hier.specs.declared.parts.Role.{Role}
use Rattle.refute_hier.specs.declared.parts.Role.TheVariants.{IsThere, StartsBefore, EndsAfter, Clashes, MayStart, MayEnd, MayMatch}
use Rattle.refute_hier.specs.Parts.{plays, plays_in}
use Rattle.refute_hier.specs.declared.family.Kind.{Kind}
use Rattle.refute_hier.specs.declared.family.Kind.TheVariants.{Span, Alternative, Synchronize}
use Rattle.prop_hier.specs.declared.counts.Counts.{Counts}

-- the rows of a kind ask whether a part is that
abbrev pub asks : Kind → Role → Bool
asks Span Clashes = false
asks Span MayMatch = false
asks Span _ = true
asks (Alternative n) IsThere = true
asks (Alternative n) Clashes = true
asks (Alternative n) MayMatch = true
asks (Alternative n) _ = false
asks Synchronize Clashes = true
asks Synchronize _ = false

-- how many parts are that, and 0 where no row asks
abbrev pub counted : Kind → Role → Region → Itv → List Itv → ℕ
counted kind role r a bs = if asks kind role then count_by (plays_in r role a) bs else 0

abbrev pub counts_of : Kind → Region → Itv → List Itv → Counts
counts_of kind r a bs = record {
  there = counted kind IsThere r a bs;
  starts_before = counted kind StartsBefore r a bs;
  ends_after = counted kind EndsAfter r a bs;
  clashes = counted kind Clashes r a bs;
  may_start = counted kind MayStart r a bs;
  may_end = counted kind MayEnd r a bs;
  may_match = counted kind MayMatch r a bs;
}

-- the same with one more part
abbrev pub one_if : Bool → ℕ
one_if b = cond b 1 0

abbrev pub counted_with : Kind → Role → Bounds → Bounds → ℕ → ℕ
counted_with kind role a b n = if asks kind role then n + one_if (plays role a b) else 0

abbrev pub counts_with : Kind → Bounds → Bounds → Counts → Counts
counts_with kind a b n = record {
  there = counted_with kind IsThere a b n.there;
  starts_before = counted_with kind StartsBefore a b n.starts_before;
  ends_after = counted_with kind EndsAfter a b n.ends_after;
  clashes = counted_with kind Clashes a b n.clashes;
  may_start = counted_with kind MayStart a b n.may_start;
  may_end = counted_with kind MayEnd a b n.may_end;
  may_match = counted_with kind MayMatch a b n.may_match;
}

-- and where one part has other bounds

abbrev pub recounted : Kind → Role → Bounds → Bounds → Bounds → ℕ → ℕ
recounted kind role a old new n = if asks kind role then (n - one_if (plays role a old)) + one_if (plays role a new) else 0

abbrev pub counts_after : Kind → Bounds → Bounds → Bounds → Counts → Counts
counts_after kind a old new n = record {
  there = recounted kind IsThere a old new n.there;
  starts_before = recounted kind StartsBefore a old new n.starts_before;
  ends_after = recounted kind EndsAfter a old new n.ends_after;
  clashes = recounted kind Clashes a old new n.clashes;
  may_start = recounted kind MayStart a old new n.may_start;
  may_end = recounted kind MayEnd a old new n.may_end;
  may_match = recounted kind MayMatch a old new n.may_match;
}

-- more parts are present than the count, and fewer may match the interval
abbrev pub is_above : ℤ → Counts → Bool
is_above count n = int_lt count (pos n.there)

abbrev pub is_below : ℤ → Counts → Bool
is_below count n = int_lt (pos n.may_match) count

-- whether some row refutes, by whether the interval is present
abbrev pub counts_refute : Kind → Presence → Counts → Bool
counts_refute Span Absent n = nat_lt 0 n.there
counts_refute Span Present n = not (nat_lt 0 n.may_start) || not (nat_lt 0 n.may_end) || nat_lt 0 n.starts_before || nat_lt 0 n.ends_after
counts_refute Span Maybe n = nat_lt 0 n.starts_before || nat_lt 0 n.ends_after
counts_refute (Alternative count) Absent n = nat_lt 0 n.there || is_above count n
counts_refute (Alternative count) Present n = is_above count n || is_below count n || nat_lt 0 n.clashes
counts_refute (Alternative count) Maybe n = is_above count n || nat_lt 0 n.clashes
counts_refute Synchronize Present n = nat_lt 0 n.clashes
counts_refute Synchronize _ n = false
