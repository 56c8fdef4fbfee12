-- The numbers of members by which sets are looked for, one row for each member.
use Rattle.std.specs.Prelude.{◌≡◌, ℕ, zero, suc, ◌<◌, ◌+ℤ◌, ◌-ℤ◌, Bool, true, false, List, length, slice_index_or, IsTrue}
use Rattle.std.specs.Int.{int_max, int_min}
use Rattle.sched_base.specs.declared.ids.Itv.{Itv}
use Rattle.sched_model.specs.Valid.{is_moment}
use Rattle.region.specs.declared.types.Presence.{Presence}
use Rattle.region.specs.declared.types.Presence.TheVariants as presence
use Rattle.region.specs.declared.types.Bounds.{Bounds}
use Rattle.region.specs.declared.types.Claim.{Claim}
use Rattle.region.specs.declared.types.Claim.TheVariants.{StartLe, EndGe}
use Rattle.region.specs.Cells.{Region, bounds_of}
use Rattle.region.specs.Claims.{guessed}
use Rattle.region.specs.Looks.{is_shifted}
use Rattle.task_sets.specs.Times.{Times, seen_in}
use Rattle.refute_seq.specs.Sets.{times_in}
use Rattle.theta_passes.specs.declared.rows.Row.{Row}
use Rattle.theta_passes.specs.declared.rows.Presence.{Presence as RowPresence}
use Rattle.theta_passes.specs.declared.rows.Presence.TheVariants as is
use Rattle.theta_passes.specs.code.Rows.{row_at}
use Rattle.prop_sets.specs.declared.known.Numbers.{Numbers}

-- the guess that an interval starts as early as it can, or that it ends as late
abbrev pub end_claim : Bool → Bounds → Claim
end_claim true c = StartLe c.smin
end_claim false c = EndGe c.emax

abbrev pub asked_bounds : Bool → Bounds → Bounds
asked_bounds early c = guessed (end_claim early c) c

-- which of the two EDGE and DETECT ask of a member, by their side, and which NOTEND
abbrev pub asks_early : ℕ → Bool
asks_early zero = true
asks_early (suc n) = false

abbrev pub asks_late : ℕ → Bool
asks_late zero = false
asks_late (suc n) = true

-- the numbers of an interval, on a side
abbrev pub seen : ℕ → Bounds → Times
seen side c = seen_in side (times_in c)

abbrev pub row_presence : Presence → RowPresence
row_presence presence.Absent = is.Absent
row_presence presence.Present = is.Present
row_presence presence.Maybe = is.Maybe

abbrev pub row_of : Presence → Times → Times → Row
row_of h t a = record { est = t.est; p = t.p; lst = t.lst; ect = t.ect; lct = t.lct; presence = row_presence h; bar = a.lst; reach = a.ect }

-- the numbers as they are, with those under the guess beside them; and those under the guess alone
abbrev pub plain_row : ℕ → Bool → Bounds → Row
plain_row side early c = row_of c.presence (seen side c) (seen side (asked_bounds early c))

abbrev pub asked_row : ℕ → Bool → Bounds → Row
asked_row side early c = row_of c.presence (seen side (asked_bounds early c)) (seen side (asked_bounds early c))

abbrev pub chosen_row : Bool → ℕ → Bool → Bounds → Row
chosen_row true side early c = asked_row side early c
chosen_row false side early c = plain_row side early c

-- the same row, from the numbers of the interval alone, which tell those under the guess too
abbrev pub asked_numbers : Bool → Numbers → Numbers
asked_numbers true n = record n { lst = int_min n.est (n.lct -ℤ n.p) }
asked_numbers false n = record n { ect = int_max n.lct (n.est +ℤ n.p) }

abbrev pub times_from : ℕ → Numbers → Times
times_from side n = seen_in side (record { est = n.est; lct = n.lct; lst = n.lst; ect = n.ect; p = n.p })

abbrev pub row_with : RowPresence → Times → Times → Row
row_with h t a = record { est = t.est; p = t.p; lst = t.lst; ect = t.ect; lct = t.lct; presence = h; bar = a.lst; reach = a.ect }

abbrev pub row_by : ℕ → Numbers → Numbers → Row
row_by side n a = row_with n.presence (times_from side n) (times_from side a)

abbrev pub row_from : Bool → ℕ → Bool → Numbers → Row
row_from true side early n = row_by side (asked_numbers early n) (asked_numbers early n)
row_from false side early n = row_by side n (asked_numbers early n)

-- moments, and the sum or the difference of a moment and a length
pub record AreMoments (n : Numbers) : Type 0 where
  pub est : IsTrue (is_moment n.est)
  pub lct : IsTrue (is_moment n.lct)
  pub p : IsTrue (is_moment n.p)
  pub lst : IsTrue (is_shifted n.lst)
  pub ect : IsTrue (is_shifted n.ect)

-- the member at a place
abbrev pub member_at : List Itv → ℕ → Itv
member_at xs k = slice_index_or xs k (record { 0 = 0 })

-- one row for each member, at its place
pub record AreRows (make : Bounds → Row) (r : Region) (xs : List Itv) (rows : List Row) : Type 0 where
  pub size : length rows ≡ length xs
  pub each : (k : ℕ) → k < length xs → row_at rows k ≡ make (bounds_of r (member_at xs k))

-- the side of a row: 0, or 1 where time is turned round
abbrev pub side_of : Bool → ℕ
side_of false = 0
side_of true = 1
