-- Which witnesses each propagator looks after, what they read, and when it is quiet.
use Rattle.std.specs.Prelude.{◌≡◌, ℕ, ℤ, Bool, true, false, ◌&&◌, List, [], ◌∷◌, ◌++◌, length, Option, Some, None, IsTrue}
use Rattle.sched_base.specs.declared.ids.Itv.{Itv}
use Rattle.sched_model.specs.Data.{Data}
use Rattle.region.specs.declared.types.CellName.{CellName}
use Rattle.region.specs.declared.types.CellName.TheVariants as cell
use Rattle.region.specs.declared.types.Guess.{Guess}
use Rattle.region.specs.Cells.{Region}
use Rattle.region.specs.Looks.{seen_at}
use Rattle.findings.specs.Ends.{is_asked}
use Rattle.findings.specs.Found.{IsQuiet}
use Rattle.findings.specs.code.Reads.{Reads, reads_cell}
use Rattle.refute_state.specs.declared.demand.Demand.{Demand}
use Rattle.refute_state.specs.declared.witness.StateWitness.{StateWitness}
use Rattle.refute_state.specs.declared.witness.StateWitness.TheVariants.{State, State3}
use Rattle.refute_state.specs.Demands.{demand_at}
use Rattle.refute_state.specs.code.Gathered.{demands_at, demands_of}
use Rattle.refute_state.specs.OnState.{refutes}
use Rattle.refute_state.specs.Listed.{lists}

-- one for each state function
abbrev pub size_of : Data → ℕ
size_of m = length m.states

-- the kinds of witnesses that this crate derives by
abbrev pub is_own : StateWitness → Bool
is_own (State c1 c2) = true
is_own (State3 c1 c2 c3) = true

-- each STATE and each STATE3 of demands of its state function
abbrev pub looks_after : Data → ℕ → StateWitness → Bool
looks_after m k (State c1 c2) = demands_at m k c1 && demands_at m k c2
looks_after m k (State3 c1 c2 c3) = demands_at m k c1 && demands_at m k c2 && demands_at m k c3

-- the interval of a demand, and those of the demands of some constraints
abbrev pub interval_in : Option Demand → List Itv
interval_in None = []
interval_in (Some d) = d.x ∷ []

abbrev pub intervals_at : Data → List ℕ → List Itv
intervals_at m [] = []
intervals_at m (c ∷ cs) = interval_in (demand_at m c) ++ intervals_at m cs

abbrev pub constraints_of : StateWitness → List ℕ
constraints_of (State c1 c2) = c1 ∷ c2 ∷ []
constraints_of (State3 c1 c2 c3) = c1 ∷ c2 ∷ c3 ∷ []

-- a witness reads the intervals of its demands
abbrev pub reads_all : List Itv → Reads
reads_all xs = record { intervals = xs; pairs = []; best = false }

abbrev pub reads_of : Data → StateWitness → Reads
reads_of m w = reads_all (intervals_at m (constraints_of w))

abbrev pub reads_at : Data → ℕ → Reads
reads_at m k = reads_all (intervals_at m (demands_of m k))

-- what a propagator watches
abbrev pub watching : Data → ℕ → CellName → Bool
watching m k cell = reads_cell (reads_at m k) cell

abbrev pub watching_best : Data → ℕ → Bool
watching_best m k = false

abbrev pub quiet : Data → ℕ → Region → Option ℤ → Type 0
quiet m k r best = IsQuiet refutes lists (λ n w. looks_after n k w) m r best

-- the same of one witness: it refutes neither the region nor under an open end guess that its row lists
abbrev pub IsSilent : Data → Region → Option ℤ → StateWitness → Type 0
IsSilent m r best w = (guess : Option Guess) → IsTrue (is_asked (lists m w) r guess) → refutes m (seen_at r best guess) w ≡ false

-- a bound, and one of one of these intervals
abbrev pub is_bound : CellName → Bool
is_bound (cell.Presence x) = false
is_bound (cell.Order p x y) = false
is_bound _ = true

abbrev pub is_bound_of : List Itv → CellName → Bool
is_bound_of xs c = is_bound c && reads_cell (reads_all xs) c
