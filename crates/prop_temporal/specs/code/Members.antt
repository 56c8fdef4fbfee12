-- The intervals between whose points the arcs of a constraint lie.
use Rattle.std.specs.Prelude.{Bool, false, ◌||◌, List, [], ◌++◌, Option, Some, None, is_none, if◌then◌else◌}
use Rattle.sched_base.specs.declared.ids.Itv.{Itv}
use Rattle.sched_base.specs.declared.ids.Seq.{Seq}
use Rattle.sched_model.specs.declared.types.Constraint.{Constraint}
use Rattle.sched_model.specs.declared.types.Constraint.TheVariants.{NoOverlap}
use Rattle.sched_model.specs.Data.{Data, members_of}
use Rattle.region.specs.Cells.{Region}
use Rattle.refute_basic.specs.Standing.{precedes}
use Rattle.refute_basic.specs.laws.Arc.{ends_of}

-- the members of a sequence without overlap, and none of another constraint
abbrev pub members_at : Data → Option Constraint → List Itv
members_at m (Some (NoOverlap p matrix direct)) = members_of m p
members_at m _ = []

-- a look tells that one member of such a sequence stands before another
abbrev pub told_in : Region → Option Constraint → Itv → Itv → Bool
told_in r (Some (NoOverlap p matrix direct)) x y = precedes r p x y
told_in r _ x y = false

-- these, or the two of a precedence
abbrev pub touched_by : Data → Option Constraint → List Itv
touched_by m o = ends_of o ++ members_at m o

-- the sequence of such a constraint, where the arcs between members weigh nothing: it has no distances, or they bind neighbours alone
abbrev pub light_in : Option Constraint → Option Seq
light_in (Some (NoOverlap p matrix direct)) = if direct || is_none matrix then Some p else None
light_in _ = None
