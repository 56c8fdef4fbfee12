-- Which witnesses each propagator looks after, what they read, and when it is quiet.
use Rattle.std.specs.Prelude.{◌≡◌, ℕ, zero, suc, ◌+◌, ◌-◌, ℤ, Bool, true, false, ◌&&◌, List, [], ◌∷◌, length, Option, Some, None, IsTrue, slice_get, nat_eq, nat_lt, cond}
use Rattle.sched_base.specs.declared.ids.Itv.{Itv}
use Rattle.sched_model.specs.declared.types.Constraint.{Constraint}
use Rattle.sched_model.specs.declared.types.Constraint.TheVariants.{Logic}
use Rattle.sched_model.specs.declared.types.Expr.{Expr}
use Rattle.sched_model.specs.declared.types.Objective.{Objective}
use Rattle.sched_model.specs.Data.{Data}
use Rattle.region.specs.declared.types.CellName.{CellName}
use Rattle.region.specs.declared.types.Guess.{Guess}
use Rattle.region.specs.Cells.{Region}
use Rattle.region.specs.Looks.{seen_at}
use Rattle.findings.specs.Ends.{is_asked}
use Rattle.findings.specs.Found.{IsQuiet}
use Rattle.findings.specs.code.Reads.{Reads, reads_cell}
use Rattle.refute_basic.specs.declared.witness.BasicWitness.{BasicWitness}
use Rattle.refute_basic.specs.declared.witness.BasicWitness.TheVariants as basic
use Rattle.refute_basic.specs.Basic.{refutes}
use Rattle.refute_basic.specs.Listed.{lists}
use Rattle.refute_basic.specs.laws.Hulls.{logic_names, objective_names}

-- one for the objective, one for each interval, and one for each constraint
abbrev pub size_of : Data → ℕ
size_of m = 1 + (length m.intervals + length m.constraints)

-- the kinds that this crate derives by
abbrev pub is_own : BasicWitness → Bool
is_own (basic.Size x) = true
is_own (basic.Expr c) = true
is_own basic.Obj = true
is_own w = false

-- 0 looks after OBJ, then come SIZE of each interval and EXPR of each constraint
abbrev pub looks_after : Data → ℕ → BasicWitness → Bool
looks_after m k basic.Obj = nat_eq k 0
looks_after m k (basic.Size x) = nat_lt x (length m.intervals) && nat_eq k (1 + x)
looks_after m k (basic.Expr c) = nat_lt c (length m.constraints) && nat_eq k (1 + (length m.intervals + c))
looks_after m k w = false

-- the one witness of a propagator
abbrev pub witness_at : Data → ℕ → BasicWitness
witness_at m zero = basic.Obj
witness_at m (suc i) = cond (nat_lt i (length m.intervals)) (basic.Size i) (basic.Expr (i - length m.intervals))

-- what it reads
abbrev pub reads_of : Data → BasicWitness → Reads
reads_of m (basic.Size x) = record { intervals = record { 0 = x } ∷ []; pairs = []; best = false }
reads_of m (basic.Expr c) = record { intervals = logic_names (slice_get m.constraints c); pairs = []; best = false }
reads_of m basic.Obj = record { intervals = objective_names m.objective; pairs = []; best = true }
reads_of m w = record { intervals = []; pairs = []; best = false }

-- what a propagator watches
abbrev pub watching : Data → ℕ → CellName → Bool
watching m k cell = reads_cell (reads_of m (witness_at m k)) cell

-- a cell of one of these intervals
abbrev pub is_cell_of : List Itv → CellName → Bool
is_cell_of xs cell = reads_cell (record { intervals = xs; pairs = []; best = false }) cell

abbrev pub watching_best : Data → ℕ → Bool
watching_best m k = nat_eq k 0

abbrev pub quiet : Data → ℕ → Region → Option ℤ → Type 0
quiet m k r best = IsQuiet refutes lists (λ n w. looks_after n k w) m r best

-- the same of one witness: it refutes neither the region nor under an open end guess that its row lists
abbrev pub IsSilent : Data → Region → Option ℤ → BasicWitness → Type 0
IsSilent m r best w = (guess : Option Guess) → IsTrue (is_asked (lists m w) r guess) → refutes m (seen_at r best guess) w ≡ false

-- the expression of a constraint
abbrev pub logic_of : Option Constraint → Option Expr
logic_of (Some (Logic e)) = Some e
logic_of _ = None

abbrev pub objective_of : Option Objective → Option Expr
objective_of None = None
objective_of (Some o) = Some o.expr
