-- Which witnesses each propagator looks after, what it watches, and when it is quiet.
use Rattle.std.specs.Prelude.{◌≡◌, ℕ, zero, suc, ◌+◌, ℤ, Bool, true, false, ◌&&◌, List, [], length, Option, IsTrue, slice_get, nat_eq, nat_lt}
use Rattle.sched_base.specs.declared.ids.Itv.{Itv}
use Rattle.sched_base.specs.declared.ids.Seq.{Seq}
use Rattle.std.specs.List.{list_any}
use Rattle.sched_model.specs.declared.types.IntervalDef.{IntervalDef}
use Rattle.sched_model.specs.Words.{passes}
use Rattle.sched_model.specs.Data.{Data}
use Rattle.region.specs.declared.types.CellName.{CellName}
use Rattle.region.specs.declared.types.CellName.TheVariants as cell
use Rattle.region.specs.declared.types.Guess.{Guess}
use Rattle.region.specs.Cells.{Region}
use Rattle.region.specs.Looks.{seen_at}
use Rattle.findings.specs.Ends.{is_asked}
use Rattle.findings.specs.Found.{IsQuiet}
use Rattle.findings.specs.code.Reads.{Reads, reads_cell}
use Rattle.refute_basic.specs.declared.witness.BasicWitness.{BasicWitness}
use Rattle.refute_basic.specs.declared.witness.BasicWitness.TheVariants.{Arc, Cycle}
use Rattle.refute_basic.specs.Standing.{is_disjunctive}
use Rattle.refute_basic.specs.Basic.{refutes}
use Rattle.refute_basic.specs.Listed.{lists}
use Rattle.refute_basic.specs.laws.Arc.{ends_of}

-- one for all walks, and one for each constraint
abbrev pub size_of : Data → ℕ
size_of m = 1 + length m.constraints

-- the kinds of witnesses that this crate derives by
abbrev pub is_temporal : BasicWitness → Bool
is_temporal (Arc c d) = true
is_temporal (Cycle arcs) = true
is_temporal _ = false

-- 0 looks after each CYCLE, and then come both ARC of each constraint
abbrev pub looks_after : Data → ℕ → BasicWitness → Bool
looks_after m k (Arc c d) = nat_lt c (length m.constraints) && nat_eq k (1 + c)
looks_after m k (Cycle arcs) = nat_eq k 0
looks_after m k _ = false

-- what the propagator of a constraint reads: the bounds of the two intervals of a precedence
abbrev pub reads_of : Data → ℕ → Reads
reads_of m c = record { intervals = ends_of (slice_get m.constraints c); pairs = []; best = false }

-- the presence of an optional interval of the model: that of another never changes
abbrev pub is_optional : List IntervalDef → Itv → Bool
is_optional ds x = passes (λ d. d.optional) (slice_get ds x.0)

-- what walks hang on: these presences, and the orders of the sequences without overlap
abbrev pub is_of_walks : Data → CellName → Bool
is_of_walks m (cell.Presence x) = nat_lt x.0 (length m.intervals) && is_optional m.intervals x
is_of_walks m (cell.Order p x y) = is_disjunctive m p
is_of_walks m _ = false

-- a bound of an interval
abbrev pub is_bound : CellName → Bool
is_bound (cell.Presence x) = false
is_bound (cell.Order p x y) = false
is_bound _ = true

-- what a propagator watches
abbrev pub watching : Data → ℕ → CellName → Bool
watching m zero cell = is_of_walks m cell
watching m (suc c) cell = reads_cell (reads_of m c) cell

abbrev pub watching_best : Data → ℕ → Bool
watching_best m k = false

abbrev pub quiet : Data → ℕ → Region → Option ℤ → Type 0
quiet m k r best = IsQuiet refutes lists (λ n w. looks_after n k w) m r best

-- the same of one witness: it refutes neither the region nor under an open end guess that its row lists
abbrev pub IsSilent : Data → Region → Option ℤ → BasicWitness → Type 0
IsSilent m r best w = (guess : Option Guess) → IsTrue (is_asked (lists m w) r guess) → refutes m (seen_at r best guess) w ≡ false

-- a cell of one of these intervals
abbrev pub is_cell_of : List Itv → CellName → Bool
is_cell_of xs cell = reads_cell (record { intervals = xs; pairs = []; best = false }) cell

-- the sequence is one of these
abbrev pub has_sequence : List Seq → Seq → Bool
has_sequence ps p = list_any (λ q. nat_eq p.0 q.0) ps
