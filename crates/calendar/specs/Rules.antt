-- The constraints that say the same as a sentence of a calendar: one for each closed range.
use Rattle.std.specs.Prelude.{◌↔◌, ℤ, pos, neg_ℤ, Bool, ◌&&◌, List, [], ◌∷◌, ◌++◌, map, int_lt, if◌then◌else◌, All, IsTrue}
use Rattle.sched_base.specs.declared.ids.Itv.{Itv}
use Rattle.sched_model.specs.declared.types.Assignment.{Assignment}
use Rattle.sched_model.specs.declared.types.CompareOp.{CompareOp}
use Rattle.sched_model.specs.declared.types.CompareOp.TheVariants as op
use Rattle.sched_model.specs.declared.types.Constraint.{Constraint}
use Rattle.sched_model.specs.declared.types.Constraint.TheVariants as constraint
use Rattle.sched_model.specs.declared.types.Expr.{Expr, roll-Expr}
use Rattle.sched_model.specs.declared.types.Expr.TheOpen.{Expr-F as expr}
use Rattle.sched_model.specs.Bounds.{is_small}
use Rattle.sched_model.specs.Data.{Data}
use Rattle.sched_model.specs.Domain.{is_in_domain}
use Rattle.sched_model.specs.Sentences.{Holds}
use Rattle.calendar.specs.declared.step.Pair.{Pair}
use Rattle.calendar.specs.declared.rules.Demand.{Demand}
use Rattle.calendar.specs.declared.rules.Demand.TheVariants.{Start, Extent}
use Rattle.calendar.specs.Steps.{closed_of}
use Rattle.calendar.specs.Kept.{Keeps}

-- a number as it is written: a negative one with a minus before its literal
abbrev pub number_of : ℤ → Expr
number_of z = if int_lt z (pos 0) then roll-Expr (expr.Neg (roll-Expr (expr.Lit (neg_ℤ z)))) else roll-Expr (expr.Lit z)

abbrev pub start_as : CompareOp → Itv → ℤ → Expr
start_as o x z = roll-Expr (expr.Compare o (roll-Expr (expr.StartOf x (pos 0))) (number_of z))

abbrev pub end_as : CompareOp → Itv → ℤ → Expr
end_as o x z = roll-Expr (expr.Compare o (roll-Expr (expr.EndOf x (pos 0))) (number_of z))

abbrev pub is_empty_of : Itv → Expr
is_empty_of x = roll-Expr (expr.Compare op.Eq (roll-Expr (expr.SizeOf x (pos 0))) (roll-Expr (expr.Lit (pos 0))))

abbrev pub where_present : Itv → List Expr → Constraint
where_present x es = constraint.Logic (roll-Expr (expr.Implies (roll-Expr (expr.PresenceOf x)) (roll-Expr (expr.Or es))))

-- it starts before the range, or behind it
abbrev pub start_rule : Itv → Pair → Constraint
start_rule x r = where_present x (start_as op.Lt x r.t ∷ start_as op.Ge x r.v ∷ [])

-- it is empty, or ends before the range, or starts behind it
abbrev pub extent_rule : Itv → Pair → Constraint
extent_rule x r = where_present x (is_empty_of x ∷ end_as op.Le x r.t ∷ start_as op.Ge x r.v ∷ [])

-- by what is asked
abbrev pub rule_of : Demand → Itv → Pair → Constraint
rule_of Start x r = start_rule x r
rule_of Extent x r = extent_rule x r

abbrev pub rules_of : Demand → Itv → List Pair → List Constraint
rules_of demand x ps = map (rule_of demand x) (closed_of ps)

-- the numbers of a range are such as a text may have
abbrev pub is_small_range : Pair → Bool
is_small_range r = is_small r.t && is_small r.v

abbrev pub with_constraints : List Constraint → Data → Data
with_constraints cs m = record m { constraints = m.constraints ++ cs }

-- an assignment in the domain makes all of them hold exactly where the interval keeps to the calendar
abbrev pub RulesSayIt : Data → Demand → Itv → List Pair → Type 0
RulesSayIt m demand x ps = (a : Assignment) → IsTrue (is_in_domain m a) → All (Holds m a) (rules_of demand x ps) ↔ Keeps a demand x ps
