-- The trees of the canonical text of a model: what its statements say, one after another.
use Rattle.std.specs.Prelude.{ℕ, zero, suc, ℤ, pos, negsuc, Bool, true, false, if◌then◌else◌, List, [], ◌∷◌, ◌++◌, map, take, drop, Option, Some, None, option_map, option_and_then, option_to_list, unwrap_or, slice_get}
use Rattle.std.specs.List.{filter_map}
use Rattle.std.specs.Ordering.{int_eq}
use Rattle.sched_base.specs.declared.ids.Itv.{Itv}
use Rattle.sched_base.specs.declared.ids.Seq.{Seq}
use Rattle.sched_base.specs.declared.ids.Cum.{Cum}
use Rattle.sched_model.specs.Words.{is_empty}
use Rattle.sched_model.specs.Data.{Data}
use Rattle.sched_model.specs.declared.types.IntervalDef.{IntervalDef}
use Rattle.sched_model.specs.declared.types.MatrixDef.{MatrixDef}
use Rattle.sched_model.specs.declared.types.SequenceDef.{SequenceDef}
use Rattle.sched_model.specs.declared.types.CumulDef.{CumulDef}
use Rattle.sched_model.specs.declared.types.StateDef.{StateDef}
use Rattle.sched_model.specs.declared.types.Part.{Part}
use Rattle.sched_model.specs.declared.types.Shape.{Shape}
use Rattle.sched_model.specs.declared.types.Shape.TheVariants as shape
use Rattle.sched_model.specs.declared.types.Window.{Window}
use Rattle.sched_model.specs.declared.types.Window.TheVariants as window
use Rattle.sched_model.specs.declared.types.End.{End}
use Rattle.sched_model.specs.declared.types.End.TheVariants as point
use Rattle.sched_model.specs.declared.types.CompareOp.{CompareOp}
use Rattle.sched_model.specs.declared.types.CompareOp.TheVariants as op
use Rattle.sched_model.specs.declared.types.Expr.{Expr}
use Rattle.sched_model.specs.declared.types.Expr.TheOpen.{Expr-F as expr}
use Rattle.sched_model.specs.declared.types.Expr.TheFolds.{fold-Expr}
use Rattle.sched_model.specs.declared.types.Constraint.{Constraint}
use Rattle.sched_model.specs.declared.types.Constraint.TheVariants as constraint
use Rattle.sched_model.specs.declared.types.Sense.{Sense as Aimed}
use Rattle.sched_model.specs.declared.types.Sense.TheVariants as aimed
use Rattle.sched_model.specs.declared.types.Objective.{Objective}
use Rattle.cpo_text.specs.declared.expression.Measure.{Measure}
use Rattle.cpo_text.specs.declared.expression.Measure.TheVariants.{StartOf, EndOf, SizeOf, LengthOf}
use Rattle.cpo_text.specs.declared.expression.Gather.TheVariants as gather
use Rattle.cpo_text.specs.declared.expression.Link.TheVariants.{Times, And, Or}
use Rattle.cpo_text.specs.declared.expression.Comparison.{Comparison}
use Rattle.cpo_text.specs.declared.expression.Comparison.TheVariants as comparison
use Rattle.cpo_text.specs.declared.expression.Logic.{Logic, roll-Logic}
use Rattle.cpo_text.specs.declared.expression.Logic.TheOpen.Logic-F.{Lit, Group, PresenceOf, Measured, Gathered, Linked, Neg, Sum, Compare, Not, Implies}
use Rattle.cpo_text.specs.declared.tree.Int.{Int}
use Rattle.cpo_text.specs.declared.tree.Range.{Range}
use Rattle.cpo_text.specs.declared.tree.Ivarg.{Ivarg}
use Rattle.cpo_text.specs.declared.tree.Ivarg.TheVariants as ivarg
use Rattle.cpo_text.specs.declared.tree.Definition.TheVariants.{IntervalVar, SequenceVar, TransitionMatrix, StateFunction, Cumulative}
use Rattle.cpo_text.specs.declared.tree.Temporal.{Temporal}
use Rattle.cpo_text.specs.declared.tree.Temporal.TheVariants.{StartBeforeStart, StartBeforeEnd, EndBeforeStart, EndBeforeEnd, StartAtStart, StartAtEnd, EndAtStart, EndAtEnd}
use Rattle.cpo_text.specs.declared.tree.Hierarchy.TheVariants as hierarchy
use Rattle.cpo_text.specs.declared.tree.Extreme.TheVariants as extreme
use Rattle.cpo_text.specs.declared.tree.Order.TheVariants as order
use Rattle.cpo_text.specs.declared.tree.Bound.TheVariants as bound
use Rattle.cpo_text.specs.declared.tree.Moments.TheVariants as moments
use Rattle.cpo_text.specs.declared.tree.Over.{Over}
use Rattle.cpo_text.specs.declared.tree.Over.TheVariants as over
use Rattle.cpo_text.specs.declared.tree.Spaced.{Spaced}
use Rattle.cpo_text.specs.declared.tree.Constrained.{Constrained}
use Rattle.cpo_text.specs.declared.tree.Constrained.TheVariants as constrained
use Rattle.cpo_text.specs.declared.tree.Sense.{Sense}
use Rattle.cpo_text.specs.declared.tree.Sense.TheVariants as sense
use Rattle.cpo_text.specs.declared.tree.Statement.{Statement}
use Rattle.cpo_text.specs.declared.tree.Statement.TheVariants.{Define, Constrain, Aim, Rank}
use Rattle.cpo_text.specs.declared.cumul.Cpart.{Cpart}
use Rattle.cpo_text.specs.declared.cumul.Cpart.TheVariants as cpart
use Rattle.cpo_text.specs.declared.cumul.Signed.{Signed}
use Rattle.cpo_text.specs.declared.cumul.Cumul.{Cumul}
use Rattle.sched_text.specs.Pieces.{interval_name, matrix_name, state_name, interval_names}
use Rattle.sched_text.specs.Canonical.{least_level}

-- Numbers and definitions.

abbrev pub int_tree : ℤ → Int
int_tree (pos n) = record { minus = false; size = Some n }
int_tree (negsuc n) = record { minus = true; size = Some (suc n) }

abbrev pub range_tree : ℤ → ℤ → Range
range_tree lo hi = record { from = int_tree lo; to = Some (int_tree hi) }

abbrev pub optional_args : Bool → List Ivarg
optional_args true = ivarg.Optional ∷ []
optional_args false = []

abbrev pub interval_tree : IntervalDef → Statement
interval_tree d = Define d.name (IntervalVar (optional_args d.optional
    ++ ivarg.Start (range_tree d.start_lo d.start_hi) ∷ ivarg.End (range_tree d.end_lo d.end_hi) ∷ ivarg.Size (range_tree d.size_lo d.size_hi) ∷ []))

-- so many rows of so many cells each
abbrev pub cell_rows : ℕ → ℕ → List ℤ → List (List ℤ)
cell_rows zero n cells = []
cell_rows (suc k) n cells = take n cells ∷ cell_rows k n (drop n cells)

abbrev pub matrix_tree : MatrixDef → Statement
matrix_tree d = Define d.name (TransitionMatrix (map (map int_tree) (cell_rows d.size d.size d.cells)))

abbrev pub sequence_tree : Data → SequenceDef → List ℕ → Statement
sequence_tree m d name = Define name (SequenceVar (interval_names m d.members) (option_map (map (λ t. int_tree (pos t))) d.types))

abbrev pub state_tree : Data → StateDef → Statement
state_tree m d = Define d.name (StateFunction (option_map (matrix_name m) d.matrix))

-- Cumulative functions.

abbrev pub shape_tree : Data → Shape → Cpart
shape_tree m (shape.Pulse u v h) = cpart.Pulse (int_tree u) (int_tree v) (int_tree h)
shape_tree m (shape.Step u h) = cpart.Step (int_tree u) (int_tree h)
shape_tree m (shape.PulseOf x h) = cpart.PulseOf (interval_name m x) (int_tree h)
shape_tree m (shape.StepAtStart x h) = cpart.StepAtStart (interval_name m x) (int_tree h)
shape_tree m (shape.StepAtEnd x h) = cpart.StepAtEnd (interval_name m x) (int_tree h)

abbrev pub part_tree : Data → Part → Signed
part_tree m p = record { minus = p.minus; part = shape_tree m p.shape }

-- a function by its name
abbrev pub by_name : List ℕ → Cumul
by_name name = record { first = record { minus = false; part = cpart.Named name }; more = [] }

-- a function written out; every function of a text has a part
abbrev pub parts_tree : Data → List Part → Cumul
parts_tree m [] = by_name []
parts_tree m (p ∷ ps) = record { first = part_tree m p; more = map (part_tree m) ps }

abbrev pub cumul_tree : Data → CumulDef → List ℕ → Statement
cumul_tree m d name = Define name (Cumulative (parts_tree m d.parts))

abbrev pub named_or_parts : Data → CumulDef → Cumul
named_or_parts m d = used d.name where
  used : Option (List ℕ) → Cumul
  used None = parts_tree m d.parts
  used (Some name) = by_name name

-- a function in a constraint
abbrev pub function_tree : Data → Cum → Cumul
function_tree m f = unwrap_or (option_map (named_or_parts m) (slice_get m.cumuls f.0)) (by_name [])

-- Expressions.

-- as a whole statement, an argument or an item of a list; as an operand; and as an operand of a sum behind the first
pub record Told : Type 0 where
  pub whole : Logic
  pub operand : Logic
  pub later : Logic

abbrev pub plain : Logic → Told
plain e = record { whole = e; operand = e; later = e }

-- in brackets where it is an operand
abbrev pub composed : Logic → Told
composed e = record { whole = e; operand = roll-Logic (Group e); later = roll-Logic (Group e) }

abbrev pub negated : Logic → Told
negated e = record { whole = e; operand = roll-Logic (Group e); later = e }

abbrev pub wholes : List Told → List Logic
wholes ts = map (λ t. t.whole) ts

abbrev pub operands : List Told → List Logic
operands ts = map (λ t. t.operand) ts

abbrev pub summed : List Told → Told
summed [] = composed (roll-Logic (Gathered gather.Sum []))
summed (t ∷ []) = composed (roll-Logic (Gathered gather.Sum (t.whole ∷ [])))
summed (t ∷ u ∷ ts) = composed (roll-Logic (Sum (t.operand ∷ map (λ v. v.later) (u ∷ ts))))

abbrev pub comparison_tree : CompareOp → Comparison
comparison_tree op.Eq = comparison.Equal
comparison_tree op.Ne = comparison.NotEqual
comparison_tree op.Le = comparison.AtMost
comparison_tree op.Ge = comparison.AtLeast
comparison_tree op.Lt = comparison.Below
comparison_tree op.Gt = comparison.Above

-- no text has a literal below 0
abbrev pub literal_tree : ℤ → Logic
literal_tree (pos n) = roll-Logic (Lit (Some n))
literal_tree (negsuc n) = roll-Logic (Lit None)

abbrev pub measured : Data → Measure → Itv → ℤ → Told
measured m how x d = plain (roll-Logic (Measured how (interval_name m x) (Some (int_tree d))))

abbrev pub told_step : Data → expr Told → Told
told_step m (expr.Lit n) = plain (literal_tree n)
told_step m (expr.StartOf x d) = measured m StartOf x d
told_step m (expr.EndOf x d) = measured m EndOf x d
told_step m (expr.SizeOf x d) = measured m SizeOf x d
told_step m (expr.LengthOf x d) = measured m LengthOf x d
told_step m (expr.PresenceOf x) = plain (roll-Logic (PresenceOf (interval_name m x)))
told_step m (expr.Neg t) = negated (roll-Logic (Neg t.operand))
told_step m (expr.Sum ts) = summed ts
told_step m (expr.Product ts) = composed (roll-Logic (Linked Times (operands ts)))
told_step m (expr.Max ts) = plain (roll-Logic (Gathered gather.Max (wholes ts)))
told_step m (expr.Min ts) = plain (roll-Logic (Gathered gather.Min (wholes ts)))
told_step m (expr.Compare o t u) = composed (roll-Logic (Compare (comparison_tree o) t.operand u.operand))
told_step m (expr.Not t) = composed (roll-Logic (Not t.operand))
told_step m (expr.And ts) = composed (roll-Logic (Linked And (operands ts)))
told_step m (expr.Or ts) = composed (roll-Logic (Linked Or (operands ts)))
told_step m (expr.Implies t u) = composed (roll-Logic (Implies t.operand u.operand))

abbrev pub told : Data → Expr → Told
told m = fold-Expr Told (told_step m)

abbrev pub logic_tree : Data → Expr → Logic
logic_tree m e = (told m e).whole

-- Constraints.

abbrev pub temporal_tree : End → End → Bool → Temporal
temporal_tree point.Start point.Start false = StartBeforeStart
temporal_tree point.Start point.Finish false = StartBeforeEnd
temporal_tree point.Finish point.Start false = EndBeforeStart
temporal_tree point.Finish point.Finish false = EndBeforeEnd
temporal_tree point.Start point.Start true = StartAtStart
temporal_tree point.Start point.Finish true = StartAtEnd
temporal_tree point.Finish point.Start true = EndAtStart
temporal_tree point.Finish point.Finish true = EndAtEnd

abbrev pub named_or_listed : Data → SequenceDef → Over
named_or_listed m d = used d.name where
  used : Option (List ℕ) → Over
  used None = over.Listed (interval_names m d.members)
  used (Some name) = over.Named name

abbrev pub over_tree : Data → Seq → Over
over_tree m p = unwrap_or (option_map (named_or_listed m) (slice_get m.sequences p.0)) (over.Named [])

-- the name of a sequence that has one
abbrev pub sequence_name : Data → Seq → List ℕ
sequence_name m p = unwrap_or (option_and_then (λ d. d.name) (slice_get m.sequences p.0)) []

abbrev pub spaced_tree : Data → Bool → ℕ → Spaced
spaced_tree m direct x = record { matrix = matrix_name m (record { 0 = x }); direct = Some direct }

abbrev pub bounded_tree : Cumul → ℤ → ℤ → Constrained
bounded_tree f lo hi = if int_eq lo least_level then constrained.Bounded f bound.AtMost (int_tree hi) else constrained.Bounded f bound.AtLeast (int_tree lo)

abbrev pub within_tree : Data → Cumul → Window → ℤ → ℤ → Constrained
within_tree m f window.Always lo hi = bounded_tree f lo hi
within_tree m f (window.Moments u v) lo hi = constrained.AlwaysIn f (moments.From (int_tree u) (int_tree v)) (int_tree lo) (int_tree hi)
within_tree m f (window.During x) lo hi = constrained.AlwaysIn f (moments.During (interval_name m x)) (int_tree lo) (int_tree hi)

-- the count of an alternative is written where it isn't one
abbrev pub count_tree : ℤ → Option Int
count_tree n = if int_eq n (pos 1) then None else Some (int_tree n)

abbrev pub constraint_tree : Data → Constraint → Constrained
constraint_tree m (constraint.Temporal from to equal x y z) = constrained.Between (temporal_tree from to equal) (interval_name m x) (interval_name m y) (Some (int_tree z))
constraint_tree m (constraint.Logic e) = constrained.Holds (logic_tree m e)
constraint_tree m (constraint.Span x parts) = constrained.Parts hierarchy.Span (interval_name m x) (interval_names m parts)
constraint_tree m (constraint.Alternative x parts n) = constrained.Alternative (interval_name m x) (interval_names m parts) (count_tree n)
constraint_tree m (constraint.Synchronize x parts) = constrained.Parts hierarchy.Synchronize (interval_name m x) (interval_names m parts)
constraint_tree m (constraint.NoOverlap p matrix direct) = constrained.NoOverlap (over_tree m p) (option_map (λ x. spaced_tree m direct x.0) matrix)
constraint_tree m (constraint.First p x) = constrained.Extreme extreme.First (sequence_name m p) (interval_name m x)
constraint_tree m (constraint.Last p x) = constrained.Extreme extreme.Last (sequence_name m p) (interval_name m x)
constraint_tree m (constraint.Before p x y) = constrained.Ordered order.Before (sequence_name m p) (interval_name m x) (interval_name m y)
constraint_tree m (constraint.Prev p x y) = constrained.Ordered order.Prev (sequence_name m p) (interval_name m x) (interval_name m y)
constraint_tree m (constraint.CumulIn f w lo hi) = within_tree m (function_tree m f) w lo hi
constraint_tree m (constraint.AlwaysEqual g x v i j) = constrained.AlwaysEqual (state_name m g) (interval_name m x) (int_tree v) (Some (i, j))
constraint_tree m (constraint.AlwaysNoState g x) = constrained.AlwaysNoState (state_name m g) (interval_name m x)

abbrev pub sense_tree : Aimed → Sense
sense_tree aimed.Minimize = sense.Minimize
sense_tree aimed.Maximize = sense.Maximize

-- one expression, or the criteria
abbrev pub aim_tree : Data → Bool → Objective → Statement
aim_tree m true o = Aim (sense_tree o.sense) (logic_tree m o.expr)
aim_tree m false o = Rank (sense_tree o.sense) (map (logic_tree m) o.criteria)

abbrev pub objective_tree : Data → Objective → Statement
objective_tree m o = aim_tree m (is_empty o.criteria) o

-- intervals, matrices, named sequences, named functions, state functions, constraints, and the objective
abbrev pub canonical_statements : Data → List Statement
canonical_statements m = map interval_tree m.intervals ++ map matrix_tree m.matrices ++ filter_map (λ d. option_map (sequence_tree m d) d.name) m.sequences
    ++ filter_map (λ d. option_map (cumul_tree m d) d.name) m.cumuls ++ map (state_tree m) m.states
    ++ map (λ c. Constrain (constraint_tree m c)) m.constraints ++ map (objective_tree m) (option_to_list m.objective)
