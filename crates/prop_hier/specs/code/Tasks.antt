-- Which witnesses each propagator looks after, what it watches, and when it is quiet.
use Rattle.std.specs.Prelude.{ℕ, ℤ, Bool, true, false, List, [], length, Option, slice_get, nat_eq}
use Rattle.sched_base.specs.declared.ids.Itv.{Itv}
use Rattle.sched_model.specs.Data.{Data}
use Rattle.region.specs.declared.types.CellName.{CellName}
use Rattle.region.specs.declared.types.CellName.TheVariants as cell
use Rattle.region.specs.Cells.{Region}
use Rattle.findings.specs.Found.{IsQuiet}
use Rattle.findings.specs.code.Reads.{reads_cell}
use Rattle.refute_hier.specs.declared.witness.HierWitness.{HierWitness}
use Rattle.refute_hier.specs.Witness.{constraint_of}
use Rattle.refute_hier.specs.Hier.{refutes}
use Rattle.refute_hier.specs.Listed.{lists}
use Rattle.prop_hier.specs.code.Tables.{watch_of, watches}

-- one for each constraint
abbrev pub size_of : Data → ℕ
size_of m = length m.constraints

-- each looks after the witnesses that name its constraint
abbrev pub looks_after : Data → ℕ → HierWitness → Bool
looks_after m k w = nat_eq k (constraint_of w)

-- these read the interval of the constraint and its parts, or the presence of members and the orders of their sequence
abbrev pub watching : Data → ℕ → CellName → Bool
watching m k cell = watches (watch_of m (slice_get m.constraints k)) cell

-- a bound of an interval
abbrev pub is_bound : CellName → Bool
is_bound (cell.Presence x) = false
is_bound (cell.Order p x y) = false
is_bound _ = true

-- a cell of one of these intervals
abbrev pub is_cell_of : List Itv → CellName → Bool
is_cell_of xs cell = reads_cell (record { intervals = xs; pairs = []; best = false }) cell

abbrev pub watching_best : Data → ℕ → Bool
watching_best m k = false

abbrev pub quiet : Data → ℕ → Region → Option ℤ → Type 0
quiet m k r best = IsQuiet refutes lists (λ n w. looks_after n k w) m r best
