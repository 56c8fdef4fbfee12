-- What stands behind some statements of a text: the model of them and, since no model has step functions, these beside it.
use Rattle.std.specs.Prelude.{ℕ, Bool, ◌||◌, List, [], ◌∷◌, ◌++◌, map, Option, Some, None, is_some, unwrap_or}
use Rattle.std.specs.Str.{bytes_eq}
use Rattle.std.specs.Map.{lookup}
use Rattle.sched_model.specs.Data.{Data, empty_model}
use Rattle.sched_model.specs.declared.types.Constraint.{Constraint}
use Rattle.calendar.specs.declared.step.Pair.{Pair}
use Rattle.calendar.specs.declared.rules.Demand.{Demand}
use Rattle.calendar.specs.declared.rules.Demand.TheVariants as demand
use Rattle.calendar.specs.Rules.{rules_of, with_constraints}
use Rattle.cpo_text.specs.declared.tree.StepPair.{StepPair}
use Rattle.cpo_text.specs.declared.tree.Definition.TheVariants.{StepFunction}
use Rattle.cpo_text.specs.declared.tree.Forbidden.{Forbidden}
use Rattle.cpo_text.specs.declared.tree.Forbidden.TheVariants.{Start, Extent}
use Rattle.cpo_text.specs.declared.tree.Statement.{Statement}
use Rattle.cpo_text.specs.declared.tree.Statement.TheVariants.{Define, Forbid}
use Rattle.cpo_elab.specs.Literals.{int_of}
use Rattle.cpo_elab.specs.Named.{is_defined, itv_of}
use Rattle.cpo_elab.specs.Elaborated.{after}

-- each step function is its name and its pairs
pub record Stage : Type 0 where
  pub model : Data
  pub steps : List (List ℕ × List Pair)

-- without step functions
abbrev pub plain : Data → Stage
plain m = record { model = m; steps = [] }

abbrev pub empty_stage : Stage
empty_stage = plain empty_model

-- the pairs of the step function of this name
abbrev pub pairs_named : Stage → List ℕ → Option (List Pair)
pairs_named st n = lookup (bytes_eq n) st.steps

abbrev pub is_function : Stage → List ℕ → Bool
is_function st n = is_some (pairs_named st n)

-- a name has one meaning in a text, of whatever sort
abbrev pub is_known : Stage → List ℕ → Bool
is_known st n = is_function st n || is_defined st.model n

abbrev pub function_of : Stage → List ℕ → List Pair
function_of st n = unwrap_or (pairs_named st n) []

-- the pairs of a step function as they are written, and their values
abbrev pub steps_in : Statement → List StepPair
steps_in (Define n (StepFunction ps)) = ps
steps_in _ = []

abbrev pub pairs_of : List StepPair → List Pair
pairs_of ps = map (λ p. record { t = int_of p.moment; v = int_of p.value }) ps

-- the step function that a statement uses
abbrev pub function_in : Statement → Option (List ℕ)
function_in (Forbid w a f) = Some f
function_in _ = None

abbrev pub demand_of : Forbidden → Demand
demand_of Start = demand.Start
demand_of Extent = demand.Extent

-- the constraints that a calendar's sentence becomes
abbrev pub made_in : Stage → Forbidden → List ℕ → List ℕ → List Constraint
made_in st w a f = rules_of (demand_of w) (itv_of st.model a) (function_of st f)

-- behind one statement more that deserves no refusal
abbrev pub reached : Stage → Statement → Stage
reached st (Define n (StepFunction ps)) = record st { steps = st.steps ++ (n, pairs_of ps) ∷ [] }
reached st (Forbid w a f) = record st { model = with_constraints (made_in st w a f) st.model }
reached st s = record st { model = after st.model s }
