-- The model after a statement that deserves no refusal. Things stand in it in the order of the text; what a constraint writes
-- without a name stands in front of that constraint.
use Rattle.std.specs.Prelude.{◌^◌, ℕ, ℤ, pos, neg_ℤ, Bool, true, false, not, List, [], ◌∷◌, map, flat_map, length, Option, Some, None, if◌then◌else◌, option_map, unwrap_or}
use Rattle.sched_base.specs.declared.ids.Itv.{Itv}
use Rattle.sched_base.specs.declared.ids.Seq.{Seq}
use Rattle.sched_base.specs.declared.ids.Cum.{Cum}
use Rattle.sched_model.specs.Data.{Data, horizon, parts_of, with_interval, with_matrix, with_sequence, with_cumul, with_state, with_constraint, with_objective}
use Rattle.sched_model.specs.declared.types.IntervalDef.{IntervalDef}
use Rattle.sched_model.specs.declared.types.SequenceDef.{SequenceDef}
use Rattle.sched_model.specs.declared.types.MatrixDef.{MatrixDef}
use Rattle.sched_model.specs.declared.types.CumulDef.{CumulDef}
use Rattle.sched_model.specs.declared.types.StateDef.{StateDef}
use Rattle.sched_model.specs.declared.types.Part.{Part}
use Rattle.sched_model.specs.declared.types.Shape.TheVariants as shape
use Rattle.sched_model.specs.declared.types.End.{End}
use Rattle.sched_model.specs.declared.types.End.TheVariants as point
use Rattle.sched_model.specs.declared.types.Window.{Window}
use Rattle.sched_model.specs.declared.types.Window.TheVariants as window
use Rattle.sched_model.specs.declared.types.CompareOp.{CompareOp}
use Rattle.sched_model.specs.declared.types.CompareOp.TheVariants as op
use Rattle.sched_model.specs.declared.types.Expr.{Expr, roll-Expr}
use Rattle.sched_model.specs.declared.types.Expr.TheOpen.{Expr-F as expr}
use Rattle.sched_model.specs.declared.types.Constraint.{Constraint}
use Rattle.sched_model.specs.declared.types.Constraint.TheVariants as constraint
use Rattle.sched_model.specs.declared.types.Objective.{Objective}
use Rattle.sched_model.specs.Rank.{rank_of}
use Rattle.sched_model.specs.declared.types.Sense.{Sense as Aimed}
use Rattle.sched_model.specs.declared.types.Sense.TheVariants as aimed
use Rattle.cpo_text.specs.declared.expression.Measure.{Measure}
use Rattle.cpo_text.specs.declared.expression.Measure.TheVariants.{StartOf, EndOf, SizeOf, LengthOf}
use Rattle.cpo_text.specs.declared.expression.Gather.{Gather}
use Rattle.cpo_text.specs.declared.expression.Gather.TheVariants as gather
use Rattle.cpo_text.specs.declared.expression.Link.{Link}
use Rattle.cpo_text.specs.declared.expression.Link.TheVariants.{Times, And, Or}
use Rattle.cpo_text.specs.declared.expression.Comparison.{Comparison}
use Rattle.cpo_text.specs.declared.expression.Comparison.TheVariants.{Equal, NotEqual, AtMost, AtLeast, Below, Above}
use Rattle.cpo_text.specs.declared.expression.Logic.{Logic}
use Rattle.cpo_text.specs.declared.expression.Logic.TheOpen.{Logic-F}
use Rattle.cpo_text.specs.declared.expression.Logic.TheOpen.Logic-F.{Lit, Group, PresenceOf, Measured, Gathered, Linked, Neg, Sum, Compare, Not, Implies}
use Rattle.cpo_text.specs.declared.expression.Logic.TheFolds.{fold-Logic}
use Rattle.cpo_text.specs.declared.tree.Int.{Int}
use Rattle.cpo_text.specs.declared.tree.Ivarg.{Ivarg}
use Rattle.cpo_text.specs.declared.tree.Ivarg.TheVariants.{Optional, Start, End as Finish, Size}
use Rattle.cpo_text.specs.declared.cumul.Cpart.{Cpart}
use Rattle.cpo_text.specs.declared.cumul.Cpart.TheVariants as cpart
use Rattle.cpo_text.specs.declared.cumul.Signed.{Signed}
use Rattle.cpo_text.specs.declared.cumul.Cumul.{Cumul}
use Rattle.cpo_text.specs.declared.tree.Definition.{Definition}
use Rattle.cpo_text.specs.declared.tree.Definition.TheVariants.{IntervalVar, SequenceVar, TransitionMatrix, StateFunction, StepFunction, Cumulative}
use Rattle.cpo_text.specs.declared.tree.Temporal.{Temporal}
use Rattle.cpo_text.specs.declared.tree.Temporal.TheVariants.{StartBeforeStart, StartBeforeEnd, EndBeforeStart, EndBeforeEnd, StartAtStart, StartAtEnd, EndAtStart, EndAtEnd}
use Rattle.cpo_text.specs.declared.tree.Hierarchy.{Hierarchy}
use Rattle.cpo_text.specs.declared.tree.Hierarchy.TheVariants.{Span, Synchronize}
use Rattle.cpo_text.specs.declared.tree.Over.{Over}
use Rattle.cpo_text.specs.declared.tree.Over.TheVariants as over
use Rattle.cpo_text.specs.declared.tree.Spaced.{Spaced}
use Rattle.cpo_text.specs.declared.tree.Extreme.{Extreme as Place}
use Rattle.cpo_text.specs.declared.tree.Extreme.TheVariants.{First, Last}
use Rattle.cpo_text.specs.declared.tree.Order.{Order}
use Rattle.cpo_text.specs.declared.tree.Order.TheVariants.{Before, Prev}
use Rattle.cpo_text.specs.declared.tree.Bound.{Bound}
use Rattle.cpo_text.specs.declared.tree.Bound.TheVariants as bound
use Rattle.cpo_text.specs.declared.tree.Moments.{Moments}
use Rattle.cpo_text.specs.declared.tree.Moments.TheVariants as moments
use Rattle.cpo_text.specs.declared.tree.Constrained.{Constrained}
use Rattle.cpo_text.specs.declared.tree.Constrained.TheVariants.{Between, Parts, Alternative, NoOverlap, Extreme, Ordered, Bounded, AlwaysIn, AlwaysEqual, AlwaysNoState, Holds}
use Rattle.cpo_text.specs.declared.tree.Sense.{Sense}
use Rattle.cpo_text.specs.declared.tree.Sense.TheVariants.{Minimize, Maximize}
use Rattle.cpo_text.specs.declared.tree.Statement.{Statement}
use Rattle.cpo_text.specs.declared.tree.Statement.TheVariants.{Empty, Define, Constrain, Forbid, Aim, Rank}
use Rattle.cpo_elab.specs.Named.{itv_of, itvs_of, mat_of, seq_of, cum_of, stf_of, signed_parts}
use Rattle.cpo_elab.specs.Literals.{size_of, int_of, int_or_zero, count_or_one, range_of}

-- Definitions.

-- starts and ends from 0 to H, and any size up to H
abbrev pub plain_interval : List ℕ → IntervalDef
plain_interval n = record { name = n; optional = false; start_lo = pos 0; start_hi = horizon; end_lo = pos 0; end_hi = horizon; size_lo = pos 0; size_hi = horizon }

abbrev pub with_ivarg : IntervalDef → Ivarg → IntervalDef
with_ivarg d Optional = record d { optional = true }
with_ivarg d (Start r) = record d { start_lo = (range_of r).0; start_hi = (range_of r).1 }
with_ivarg d (Finish r) = record d { end_lo = (range_of r).0; end_hi = (range_of r).1 }
with_ivarg d (Size r) = record d { size_lo = (range_of r).0; size_hi = (range_of r).1 }

abbrev pub with_ivargs : IntervalDef → List Ivarg → IntervalDef
with_ivargs d [] = d
with_ivargs d (a ∷ rest) = with_ivargs (with_ivarg d a) rest

abbrev pub interval_of : List ℕ → List Ivarg → IntervalDef
interval_of n args = with_ivargs (plain_interval n) args

abbrev pub types_in : List Int → List ℕ
types_in = map (λ i. size_of i.size)

abbrev pub sequence_named : Data → Option (List ℕ) → List (List ℕ) → Option (List Int) → SequenceDef
sequence_named m n ns types = record { name = n; members = itvs_of m ns; types = option_map types_in types }

abbrev pub matrix_named : List ℕ → List (List Int) → MatrixDef
matrix_named n rows = record { name = n; size = length rows; cells = flat_map (map int_of) rows }

abbrev pub state_named : Data → List ℕ → Option (List ℕ) → StateDef
state_named m n x = record { name = n; matrix = option_map (mat_of m) x }

-- under a minus the sign of a part changes
abbrev pub turned : Bool → Part → Part
turned minus p = record p { minus = if minus then not p.minus else p.minus }

abbrev pub plain_parts : Data → Cpart → List Part
plain_parts m (cpart.Named n) = parts_of m (cum_of m n)
plain_parts m (cpart.Pulse u v h) = record { minus = false; shape = shape.Pulse (int_of u) (int_of v) (int_of h) } ∷ []
plain_parts m (cpart.PulseOf a h) = record { minus = false; shape = shape.PulseOf (itv_of m a) (int_of h) } ∷ []
plain_parts m (cpart.Step u h) = record { minus = false; shape = shape.Step (int_of u) (int_of h) } ∷ []
plain_parts m (cpart.StepAtStart a h) = record { minus = false; shape = shape.StepAtStart (itv_of m a) (int_of h) } ∷ []
plain_parts m (cpart.StepAtEnd a h) = record { minus = false; shape = shape.StepAtEnd (itv_of m a) (int_of h) } ∷ []

abbrev pub parts_signed : Data → Signed → List Part
parts_signed m s = map (turned s.minus) (plain_parts m s.part)

-- a name stands for the parts of its function
abbrev pub parts_in : Data → Cumul → List Part
parts_in m c = flat_map (parts_signed m) (signed_parts c)

abbrev pub cumul_named : Data → Option (List ℕ) → Cumul → CumulDef
cumul_named m n c = record { name = n; parts = parts_in m c }

-- a step function is none of the things of a model
abbrev pub defined : Data → List ℕ → Definition → Data
defined m n (IntervalVar args) = with_interval (interval_of n args) m
defined m n (SequenceVar ns types) = with_sequence (sequence_named m (Some n) ns types) m
defined m n (TransitionMatrix rows) = with_matrix (matrix_named n rows) m
defined m n (StateFunction x) = with_state (state_named m n x) m
defined m n (StepFunction ps) = m
defined m n (Cumulative c) = with_cumul (cumul_named m (Some n) c) m

-- Expressions: brackets are gone.

abbrev pub measure_of : Measure → Itv → ℤ → Expr
measure_of StartOf a d = roll-Expr (expr.StartOf a d)
measure_of EndOf a d = roll-Expr (expr.EndOf a d)
measure_of SizeOf a d = roll-Expr (expr.SizeOf a d)
measure_of LengthOf a d = roll-Expr (expr.LengthOf a d)

abbrev pub gather_of : Gather → List Expr → Expr
gather_of gather.Max es = roll-Expr (expr.Max es)
gather_of gather.Min es = roll-Expr (expr.Min es)
gather_of gather.Sum es = roll-Expr (expr.Sum es)

abbrev pub link_of : Link → List Expr → Expr
link_of Times es = roll-Expr (expr.Product es)
link_of And es = roll-Expr (expr.And es)
link_of Or es = roll-Expr (expr.Or es)

abbrev pub compare_of : Comparison → CompareOp
compare_of Equal = op.Eq
compare_of NotEqual = op.Ne
compare_of AtMost = op.Le
compare_of AtLeast = op.Ge
compare_of Below = op.Lt
compare_of Above = op.Gt

abbrev pub expr_step : Data → Logic-F Expr → Expr
expr_step m (Lit n) = roll-Expr (expr.Lit (pos (size_of n)))
expr_step m (Group e) = e
expr_step m (PresenceOf a) = roll-Expr (expr.PresenceOf (itv_of m a))
expr_step m (Measured how a d) = measure_of how (itv_of m a) (int_or_zero d)
expr_step m (Gathered g es) = gather_of g es
expr_step m (Linked l es) = link_of l es
expr_step m (Neg e) = roll-Expr (expr.Neg e)
expr_step m (Sum es) = roll-Expr (expr.Sum es)
expr_step m (Compare o a b) = roll-Expr (expr.Compare (compare_of o) a b)
expr_step m (Not e) = roll-Expr (expr.Not e)
expr_step m (Implies a b) = roll-Expr (expr.Implies a b)

abbrev pub expr_of : Data → Logic → Expr
expr_of m = fold-Logic Expr (expr_step m)

-- Constraints.

-- the points that a word names, and whether they are the same moment
abbrev pub points_of : Temporal → End × End × Bool
points_of StartBeforeStart = (point.Start, point.Start, false)
points_of StartBeforeEnd = (point.Start, point.Finish, false)
points_of EndBeforeStart = (point.Finish, point.Start, false)
points_of EndBeforeEnd = (point.Finish, point.Finish, false)
points_of StartAtStart = (point.Start, point.Start, true)
points_of StartAtEnd = (point.Start, point.Finish, true)
points_of EndAtStart = (point.Finish, point.Start, true)
points_of EndAtEnd = (point.Finish, point.Finish, true)

abbrev pub temporal_of : Temporal → Itv → Itv → ℤ → Constraint
temporal_of t a b z = constraint.Temporal (points_of t).0 (points_of t).1 (points_of t).2 a b z

abbrev pub hierarchy_of : Hierarchy → Itv → List Itv → Constraint
hierarchy_of Span a parts = constraint.Span a parts
hierarchy_of Synchronize a parts = constraint.Synchronize a parts

abbrev pub extreme_of : Place → Seq → Itv → Constraint
extreme_of First p a = constraint.First p a
extreme_of Last p a = constraint.Last p a

abbrev pub order_of : Order → Seq → Itv → Itv → Constraint
order_of Before p a b = constraint.Before p a b
order_of Prev p a b = constraint.Prev p a b

abbrev pub bound_of : Bound → Cum → ℤ → Constraint
bound_of bound.AtMost f c = constraint.CumulIn f window.Always (neg_ℤ (pos (2 ^ 62))) c
bound_of bound.AtLeast f c = constraint.CumulIn f window.Always c (pos (2 ^ 62))

abbrev pub window_of : Data → Moments → Window
window_of m (moments.From u v) = window.Moments (int_of u) (int_of v)
window_of m (moments.During a) = window.During (itv_of m a)

-- an unnamed sequence has the next number
abbrev pub sequence_id : Data → Over → Seq
sequence_id m (over.Named p) = seq_of m p
sequence_id m (over.Listed ns) = record { 0 = length m.sequences }

-- one name without a sign is that named function itself
abbrev pub unsigned_name : Bool → Cpart → Option (List ℕ)
unsigned_name true p = None
unsigned_name false (cpart.Named n) = Some n
unsigned_name false p = None

abbrev pub lone_name : List Signed → Signed → Option (List ℕ)
lone_name [] s = unsigned_name s.minus s.part
lone_name (t ∷ ts) s = None

abbrev pub named_itself : Cumul → Option (List ℕ)
named_itself c = lone_name c.more c.first

-- any other is an unnamed function, and has the next number
abbrev pub cumul_id : Data → Option (List ℕ) → Cum
cumul_id m (Some n) = cum_of m n
cumul_id m None = record { 0 = length m.cumuls }

abbrev pub aligned_of : Option (Bool × Bool) → Bool × Bool
aligned_of o = unwrap_or o (false, false)

-- the direct flag is 0 where it isn't written
abbrev pub is_direct : Option Spaced → Bool
is_direct None = false
is_direct (Some s) = unwrap_or s.direct false

abbrev pub constraint_of : Data → Constrained → Constraint
constraint_of m (Between t a b z) = temporal_of t (itv_of m a) (itv_of m b) (int_or_zero z)
constraint_of m (Parts h a ns) = hierarchy_of h (itv_of m a) (itvs_of m ns)
constraint_of m (Alternative a ns n) = constraint.Alternative (itv_of m a) (itvs_of m ns) (count_or_one n)
constraint_of m (NoOverlap p s) = constraint.NoOverlap (sequence_id m p) (option_map (λ s. mat_of m s.matrix) s) (is_direct s)
constraint_of m (Extreme e p a) = extreme_of e (seq_of m p) (itv_of m a)
constraint_of m (Ordered o p a b) = order_of o (seq_of m p) (itv_of m a) (itv_of m b)
constraint_of m (Bounded f b c) = bound_of b (cumul_id m (named_itself f)) (int_of c)
constraint_of m (AlwaysIn f w lo hi) = constraint.CumulIn (cumul_id m (named_itself f)) (window_of m w) (int_of lo) (int_of hi)
constraint_of m (AlwaysEqual g a v aligned) = constraint.AlwaysEqual (stf_of m g) (itv_of m a) (int_of v) (aligned_of aligned).0 (aligned_of aligned).1
constraint_of m (AlwaysNoState g a) = constraint.AlwaysNoState (stf_of m g) (itv_of m a)
constraint_of m (Holds e) = constraint.Logic (expr_of m e)

-- with the unnamed function of a cumulative expression, where it is none by its name
abbrev pub with_unnamed : Data → Cumul → Option (List ℕ) → Data
with_unnamed m c (Some n) = m
with_unnamed m c None = with_cumul (cumul_named m None c) m

-- with the unnamed sequence of a list
abbrev pub with_listed : Data → Over → Data
with_listed m (over.Named p) = m
with_listed m (over.Listed ns) = with_sequence (sequence_named m None ns None) m

-- with what a constraint writes without a name
abbrev pub with_written : Data → Constrained → Data
with_written m (NoOverlap p s) = with_listed m p
with_written m (Bounded f b c) = with_unnamed m f (named_itself f)
with_written m (AlwaysIn f w lo hi) = with_unnamed m f (named_itself f)
with_written m _ = m

abbrev pub sense_of : Sense → Aimed
sense_of Minimize = aimed.Minimize
sense_of Maximize = aimed.Maximize

-- one expression is minimized or maximized itself, several by their rank
abbrev pub objective_of : Data → Sense → List Expr → Objective
objective_of m s (e ∷ []) = record { sense = sense_of s; expr = e; criteria = [] }
objective_of m s es = record { sense = sense_of s; expr = rank_of m es; criteria = es }

-- The model with a statement. What a calendar's sentence adds depends on a step function, which no model has.
abbrev pub after : Data → Statement → Data
after m Empty = m
after m (Define n d) = defined m n d
after m (Constrain c) = with_constraint (constraint_of m c) (with_written m c)
after m (Forbid w a f) = m
after m (Aim s e) = with_objective (objective_of m s (expr_of m e ∷ [])) m
after m (Rank s es) = with_objective (objective_of m s (map (expr_of m) es)) m
