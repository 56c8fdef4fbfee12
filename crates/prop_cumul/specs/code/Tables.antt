-- What propagators are made of for a model: of each constraint its intervals, and the parts of each of them.
use Rattle.std.specs.Prelude.{◌≡◌, ℕ, ◌<◌, Bool, true, false, List, [], length, Option, Some, slice_get, slice_index_or}
use Rattle.std.specs.List.{filter}
use Rattle.sched_base.specs.declared.ids.Itv.{Itv}
use Rattle.sched_model.specs.declared.types.Part.{Part}
use Rattle.sched_model.specs.declared.types.Constraint.{Constraint}
use Rattle.sched_model.specs.declared.types.Constraint.TheVariants.{CumulIn}
use Rattle.sched_model.specs.Data.{Data, has, parts_of}
use Rattle.refute_cumul.specs.Listed.{shape_names, names_of}
use Rattle.refute_cumul.specs.code.Sides.{HasRoom}
use Rattle.prop_cumul.specs.declared.task.Task.{Task}

-- the part is of this interval
abbrev pub is_of : Itv → Part → Bool
is_of x i = has (shape_names i.shape) x

-- the parts that a constraint bounds
abbrev pub parts_in : Data → Option Constraint → List Part
parts_in m (Some (CumulIn f w lo hi)) = parts_of m f
parts_in m _ = []

-- beside each interval its parts
pub record AreGroups (xs : List Itv) (is : List Part) (groups : List (List Part)) : Type 0 where
  pub size : length groups ≡ length xs
  pub each : (i : ℕ) (x : Itv) (d : List Part) → i < length xs → slice_index_or groups i d ≡ filter (is_of (slice_index_or xs i x)) is

-- these intervals, and beside each its parts
pub record IsTaskIn (is : List Part) (xs : List Itv) (task : Task) : Type 0 where
  pub names : (x : Itv) → has task.intervals x ≡ has xs x
  pub groups : AreGroups task.intervals is task.groups

abbrev pub IsTaskOf : Data → Option Constraint → Task → Type 0
IsTaskOf m o task = IsTaskIn (parts_in m o) (names_of m o) task

abbrev pub no_task : Task
no_task = record { intervals = []; groups = [] }

pub record Table : Type 0 where
  pub tasks : List Task
  pub room : ℕ

-- it is made for the model
pub record IsFor (t : Table) (m : Data) : Type 0 where
  pub size : length t.tasks ≡ length m.constraints
  pub each : (k : ℕ) → k < length m.constraints → IsTaskOf m (slice_get m.constraints k) (slice_index_or t.tasks k no_task)
  pub room : HasRoom m t.room

-- the constraint bounds a cumulative function
abbrev pub is_cumul : Constraint → Bool
is_cumul (CumulIn f w lo hi) = true
is_cumul _ = false

-- a task for each constraint
pub record AreTasks (m : Data) (cs : List Constraint) (tasks : List Task) : Type 0 where
  pub size : length tasks ≡ length cs
  pub each : (k : ℕ) → k < length cs → IsTaskOf m (slice_get cs k) (slice_index_or tasks k no_task)
