-- The walk for the start of a cut, from the last start on backwards.
use Rattle.std.specs.Prelude.{◌≡◌, ℕ, ◌-◌, ◌*◌, ◌<◌, ◌≤◌, ℤ, pos, ◌-ℤ◌, ◌*ℤ◌, ◌≤ℤ◌, Bool, false, ◌&&◌, if◌then◌else◌, List, drop, length, map, int_le, int_lt}
use Rattle.sched_model.specs.Words.{total}
use Rattle.energy_pass.specs.declared.rows.Row.{Row}
use Rattle.energy_pass.specs.code.Rows.{row_at}

-- the energy of the rows that complete by a moment
abbrev pub energy_by : ℤ → Row → ℤ
energy_by end r = if int_le r.lct end then r.energy else pos 0

abbrev pub load_by : List Row → ℤ → ℤ
load_by rows end = total (map (energy_by end) rows)

-- a row is one of those, and from its start on a capacity offers less than a sum
abbrev pub starts : ℤ → ℤ → ℤ → Row → Bool
starts c end sum r = int_le r.lct end && int_lt (c *ℤ (end -ℤ r.est)) sum

-- the rows from the place k on are summed up, and at none of them a cut starts
pub record Summed (rows : List Row) (c end : ℤ) (k : ℕ) (sum : ℤ) : Type 0 where
  pub within : k ≤ length rows
  pub load : sum ≡ load_by (drop k rows) end
  pub none : (j : ℕ) → k ≤ j → j < length rows → starts c end (load_by (drop j rows) end) (row_at rows j) ≡ false
  pub low : pos 0 ≤ℤ sum
  pub high : sum ≤ℤ pos (1000000000000000 * (length rows - k))
