-- Rows, in the order of their earliest starts, and the tree over them.
use Rattle.std.specs.Prelude.{Bool, List, false, int_le, int_lt, length, neg_ℤ, not, pos, slice_index_or, true, ℕ, ℤ, ◌&&◌, ◌+ℤ◌, ◌≡◌, ◌≤ℤ◌, ◌<◌, ◌≤◌}
use Rattle.sched_base.specs.declared.ids.TheConstants.{H}
use Rattle.task_sets.specs.Times.{Times, with_one}
use Rattle.thetatree.specs.code.Leaves.{Leaves, task_at}
use Rattle.thetatree.specs.declared.leaves.Task.{Task}
use Rattle.thetatree.specs.declared.leaves.Colour.{Colour}
use Rattle.thetatree.specs.declared.leaves.Colour.TheVariants.{Out}
use Rattle.theta_passes.specs.declared.rows.Presence.{Presence}
use Rattle.theta_passes.specs.declared.rows.Row.{Row}
use Rattle.theta_passes.specs.declared.rows.Presence.TheVariants as is

abbrev pub row_at : List Row → ℕ → Row
row_at rows k = slice_index_or rows k (record { est = pos 0; p = pos 0; lst = pos 0; ect = pos 0; lct = pos 0; presence = is.Absent; bar = pos 0; reach = pos 0 })

abbrev pub says_present : Presence → Bool
says_present is.Present = true
says_present _ = false

abbrev pub says_absent : Presence → Bool
says_absent is.Absent = true
says_absent _ = false

abbrev pub is_present : List Row → ℕ → Bool
is_present rows k = says_present (row_at rows k).presence

-- who may be moved: who isn't absent
abbrev pub is_candidate : List Row → ℕ → Bool
is_candidate rows k = not (says_absent (row_at rows k).presence)

abbrev pub times_of : Row → Times
times_of r = record { est = r.est; lct = r.lct; lst = r.lst; ect = r.ect; p = r.p }

abbrev pub times_at : List Row → ℕ → Times
times_at rows k = times_of (row_at rows k)

pub record IsNearRow (r : Row) : Type 0 where
  pub est_from : neg_ℤ H ≤ℤ r.est
  pub est_to : r.est ≤ℤ H
  pub p_from : pos 0 ≤ℤ r.p
  pub p_to : r.p ≤ℤ (H +ℤ H)

-- the earliest starts rise
abbrev pub IsByEst : List Row → Type 0
IsByEst rows = (j k : ℕ) → j ≤ k → k < length rows → (row_at rows j).est ≤ℤ (row_at rows k).est

abbrev pub task_of : Row → Task
task_of r = record { est = r.est; p = r.p }

-- the tree's tasks are the rows
pub record Fits (t : Leaves) (rows : List Row) : Type 0 where
  pub size : length t.tasks ≡ length rows
  pub room : length t.colours ≡ length rows
  pub each : (k : ℕ) → task_at t k ≡ task_of (row_at rows k)

-- a colour for those present and one for the optional ones
abbrev pub colour_by : Colour → Colour → Presence → Colour
colour_by present maybe is.Present = present
colour_by present maybe is.Maybe = maybe
colour_by present maybe is.Absent = Out

abbrev pub with_candidate : List Row → ℕ → ℕ → Bool
with_candidate rows i = with_one i (is_present rows)

abbrev pub lct_in : List Row → List ℕ → ℕ → ℤ
lct_in rows order n = (row_at rows (slice_index_or order n 0)).lct

abbrev pub IsBounded : List Row → Type 0
IsBounded rows = (k : ℕ) → (row_at rows k).lct ≤ℤ H

abbrev pub is_between : Row → ℤ → ℤ → Bool
is_between row above level = not (says_absent row.presence) && (int_lt level row.lct && int_le row.lct above)
