-- Which witnesses each propagator looks after, what they read, and when it is quiet.
-- Each constraint has two: a Bool tells whether it is the later one, which asks for what costs more.
use Rattle.std.specs.Prelude.{◌≡◌, ℕ, ℤ, Bool, true, false, not, ◌&&◌, List, [], length, Option, Some, None, IsTrue, slice_get, nat_eq}
use Rattle.sched_base.specs.declared.ids.Itv.{Itv}
use Rattle.sched_base.specs.declared.ids.Seq.{Seq}
use Rattle.sched_model.specs.declared.types.Constraint.{Constraint}
use Rattle.sched_model.specs.declared.types.Constraint.TheVariants.{NoOverlap}
use Rattle.sched_model.specs.Data.{Data}
use Rattle.region.specs.declared.types.CellName.{CellName}
use Rattle.region.specs.declared.types.CellName.TheVariants as cell
use Rattle.region.specs.declared.types.Guess.{Guess}
use Rattle.region.specs.Cells.{Region}
use Rattle.region.specs.Looks.{seen_at}
use Rattle.findings.specs.Ends.{is_asked}
use Rattle.findings.specs.Found.{IsQuiet}
use Rattle.findings.specs.code.Reads.{Reads, reads_cell}
use Rattle.findings.specs.code.Tables.{members_in}
use Rattle.refute_seq.specs.declared.witness.SeqWitness.{SeqWitness}
use Rattle.refute_seq.specs.declared.witness.SeqWitness.TheVariants.{Pair, Triple, Overload, Edge, NotEnd, Detect}
use Rattle.refute_seq.specs.OnSequence.{refutes}
use Rattle.refute_seq.specs.Listed.{lists}

-- one of each round for each constraint
abbrev pub size_of : Data → ℕ
size_of m = length m.constraints

-- the kinds of witnesses that a round derives by: both by OVERLOAD, since EDGE is asked only where there is none
abbrev pub is_own : Bool → SeqWitness → Bool
is_own later (Pair c a b k) = false
is_own later (Triple p x y z) = false
is_own later (Overload c s) = true
is_own later (Edge c side i s u v) = later
is_own later (NotEnd c side i s) = later
is_own later (Detect c side i s) = not later

-- the constraint whose members a set is of, where the round derives by it
abbrev pub is_of : Bool → ℕ → SeqWitness → Bool
is_of later k (Pair c a b n) = false
is_of later k (Triple p x y z) = false
is_of later k (Overload c s) = nat_eq k c
is_of later k (Edge c side i s u v) = later && nat_eq k c
is_of later k (NotEnd c side i s) = later && nat_eq k c
is_of later k (Detect c side i s) = not later && nat_eq k c

-- each set of members of its constraint
abbrev pub looks_after : Bool → Data → ℕ → SeqWitness → Bool
looks_after later m k w = is_of later k w

-- the sequence of a constraint without overlap
abbrev pub sequence_in : Option Constraint → Option Seq
sequence_in (Some (NoOverlap p matrix direct)) = Some p
sequence_in _ = None

abbrev pub sequence_at : Data → ℕ → Option Seq
sequence_at m k = sequence_in (slice_get m.constraints k)

abbrev pub members_at : Data → ℕ → List Itv
members_at m k = members_in m (sequence_at m k)

-- rows of sets read the members alone, and no order
abbrev pub reads_all : List Itv → Reads
reads_all xs = record { intervals = xs; pairs = []; best = false }

-- what a propagator watches
abbrev pub watching : Data → ℕ → CellName → Bool
watching m k cell = reads_cell (reads_all (members_at m k)) cell

abbrev pub watching_best : Data → ℕ → Bool
watching_best m k = false

abbrev pub quiet : Bool → Data → ℕ → Region → Option ℤ → Type 0
quiet later m k r best = IsQuiet refutes lists (λ n w. looks_after later n k w) m r best

-- the same of one witness: it refutes neither the region nor under an open end guess that its row lists
abbrev pub IsSilent : Data → Region → Option ℤ → SeqWitness → Type 0
IsSilent m r best w = (guess : Option Guess) → IsTrue (is_asked (lists m w) r guess) → refutes m (seen_at r best guess) w ≡ false

-- a bound, and one of one of these intervals
abbrev pub is_bound : CellName → Bool
is_bound (cell.Presence x) = false
is_bound (cell.Order p x y) = false
is_bound _ = true

abbrev pub is_bound_of : List Itv → CellName → Bool
is_bound_of xs c = is_bound c && reads_cell (reads_all xs) c
