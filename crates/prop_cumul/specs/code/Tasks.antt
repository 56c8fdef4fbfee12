-- Which witnesses each propagator looks after, what it watches, and when it is quiet.
use Rattle.std.specs.Prelude.{ℕ, ℤ, Bool, false, List, [], length, Option, slice_get, nat_eq}
use Rattle.sched_base.specs.declared.ids.Itv.{Itv}
use Rattle.sched_model.specs.Data.{Data}
use Rattle.region.specs.declared.types.CellName.{CellName}
use Rattle.region.specs.Cells.{Region}
use Rattle.findings.specs.Found.{IsQuiet}
use Rattle.findings.specs.code.Reads.{Reads, reads_cell}
use Rattle.refute_cumul.specs.declared.witness.CumulWitness.{CumulWitness}
use Rattle.refute_cumul.specs.Witness.{constraint_of}
use Rattle.refute_cumul.specs.OnCumul.{refutes}
use Rattle.refute_cumul.specs.Listed.{names_of, lists}

-- one for each constraint
abbrev pub size_of : Data → ℕ
size_of m = length m.constraints

-- each looks after the witnesses that name its constraint
abbrev pub looks_after : Data → ℕ → CumulWitness → Bool
looks_after m k w = nat_eq k (constraint_of w)

-- these read the intervals of its function and of its window
abbrev pub reads_of : Data → ℕ → Reads
reads_of m k = record { intervals = names_of m (slice_get m.constraints k); pairs = []; best = false }

abbrev pub watching : Data → ℕ → CellName → Bool
watching m k cell = reads_cell (reads_of m k) cell

-- a cell of one of these intervals
abbrev pub is_cell_of : List Itv → CellName → Bool
is_cell_of xs cell = reads_cell (record { intervals = xs; pairs = []; best = false }) cell

abbrev pub watching_best : Data → ℕ → Bool
watching_best m k = false

abbrev pub quiet : Data → ℕ → Region → Option ℤ → Type 0
quiet m k r best = IsQuiet refutes lists (λ n w. looks_after n k w) m r best
