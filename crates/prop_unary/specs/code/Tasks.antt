-- Which witnesses each propagator looks after, what they read, and when it is quiet.
use Rattle.std.specs.Prelude.{◌≡◌, ℕ, ◌+◌, ◌-◌, ℤ, Bool, true, false, ◌&&◌, List, [], ◌∷◌, ◌++◌, map, length, Option, Some, None, IsTrue, slice_get, nat_eq, nat_lt, if◌then◌else◌}
use Rattle.sched_base.specs.declared.ids.Itv.{Itv}
use Rattle.sched_base.specs.declared.ids.Seq.{Seq}
use Rattle.sched_model.specs.declared.types.Constraint.{Constraint}
use Rattle.sched_model.specs.declared.types.Constraint.TheVariants.{NoOverlap}
use Rattle.sched_model.specs.Data.{Data, members_of}
use Rattle.region.specs.declared.types.CellName.{CellName}
use Rattle.region.specs.declared.types.CellName.TheVariants as cell
use Rattle.region.specs.declared.types.Guess.{Guess}
use Rattle.region.specs.Cells.{Region}
use Rattle.region.specs.Looks.{seen_at}
use Rattle.findings.specs.declared.finding.Pair.{Pair as PairOf}
use Rattle.findings.specs.Ends.{is_asked}
use Rattle.findings.specs.Found.{IsQuiet}
use Rattle.findings.specs.code.Reads.{Reads, reads_cell}
use Rattle.refute_seq.specs.declared.witness.SeqWitness.{SeqWitness}
use Rattle.refute_seq.specs.declared.witness.SeqWitness.TheVariants.{Pair, Triple}
use Rattle.refute_seq.specs.OnSequence.{refutes}
use Rattle.refute_seq.specs.Listed.{lists}

-- one for each constraint, and one for each sequence
abbrev pub size_of : Data → ℕ
size_of m = length m.constraints + length m.sequences

-- the kinds of witnesses that this crate derives by
abbrev pub is_own : SeqWitness → Bool
is_own (Pair c a b k) = true
is_own (Triple p x y z) = true
is_own w = false

-- first each PAIR of each constraint, and then each TRIPLE of each sequence
abbrev pub looks_after : Data → ℕ → SeqWitness → Bool
looks_after m k (Pair c a b n) = nat_lt c (length m.constraints) && nat_eq k c
looks_after m k (Triple p x y z) = nat_lt p (length m.sequences) && nat_eq k (length m.constraints + p)
looks_after m k w = false

-- the sequence of a constraint without overlap, and that of a propagator
abbrev pub sequence_in : Option Constraint → Option Seq
sequence_in (Some (NoOverlap p matrix direct)) = Some p
sequence_in _ = None

abbrev pub sequence_at : Data → ℕ → Option Seq
sequence_at m k = if nat_lt k (length m.constraints) then sequence_in (slice_get m.constraints k) else Some (record { 0 = k - length m.constraints })

-- the pairs of a member of some with one of others
abbrev pub pairs_with : Seq → Itv → List Itv → List PairOf
pairs_with p x ys = map (λ y. record { sequence = p; first = x; second = y }) ys

abbrev pub pairs_between : Seq → List Itv → List Itv → List PairOf
pairs_between p [] ys = []
pairs_between p (x ∷ xs) ys = pairs_with p x ys ++ pairs_between p xs ys

abbrev pub pairs_of : Data → Seq → List PairOf
pairs_of m p = pairs_between p (members_of m p) (members_of m p)

-- PAIR reads the members of the sequence and their orders, TRIPLE only who is present and the orders
abbrev pub reads_pair : Data → Option Seq → Reads
reads_pair m None = record { intervals = []; pairs = []; best = false }
reads_pair m (Some p) = record { intervals = members_of m p; pairs = pairs_of m p; best = false }

abbrev pub reads_triple : Data → Seq → Reads
reads_triple m p = record { intervals = []; pairs = pairs_of m p; best = false }

abbrev pub reads_of : Data → SeqWitness → Reads
reads_of m (Pair c a b k) = reads_pair m (sequence_in (slice_get m.constraints c))
reads_of m (Triple p x y z) = reads_triple m (record { 0 = p })
reads_of m w = record { intervals = []; pairs = []; best = false }

abbrev pub reads_at : Data → ℕ → Reads
reads_at m k = if nat_lt k (length m.constraints) then reads_pair m (sequence_in (slice_get m.constraints k)) else reads_triple m (record { 0 = k - length m.constraints })

-- what a propagator watches
abbrev pub watching : Data → ℕ → CellName → Bool
watching m k cell = reads_cell (reads_at m k) cell

abbrev pub watching_best : Data → ℕ → Bool
watching_best m k = false

abbrev pub quiet : Data → ℕ → Region → Option ℤ → Type 0
quiet m k r best = IsQuiet refutes lists (λ n w. looks_after n k w) m r best

-- the same of one witness: it refutes neither the region nor under an open end guess that its row lists
abbrev pub IsSilent : Data → Region → Option ℤ → SeqWitness → Type 0
IsSilent m r best w = (guess : Option Guess) → IsTrue (is_asked (lists m w) r guess) → refutes m (seen_at r best guess) w ≡ false

-- a bound, and one of one of these intervals
abbrev pub is_bound : CellName → Bool
is_bound (cell.Presence x) = false
is_bound (cell.Order p x y) = false
is_bound _ = true

abbrev pub is_bound_of : List Itv → CellName → Bool
is_bound_of xs c = is_bound c && reads_cell (record { intervals = xs; pairs = []; best = false }) c
