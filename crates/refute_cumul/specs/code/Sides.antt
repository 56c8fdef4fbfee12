-- A bound of a cumulative function, and the moments at which it is passed on one side.
use Rattle.std.specs.Prelude.{◌≡◌, ℕ, ◌≤◌, ℤ, Bool, ◌&&◌, length, Some, slice_get}
use Rattle.sched_base.specs.declared.ids.Cum.{Cum}
use Rattle.sched_model.specs.declared.types.Constraint.{Constraint}
use Rattle.sched_model.specs.declared.types.Constraint.TheVariants.{CumulIn}
use Rattle.sched_model.specs.Data.{Data, parts_of}
use Rattle.sched_model.specs.Valid.{IsValid}
use Rattle.region.specs.Cells.{Region}
use Rattle.refute_cumul.specs.declared.bound.Bound.{Bound}
use Rattle.refute_cumul.specs.Levels.{is_surely_in}
use Rattle.refute_cumul.specs.code.Loads.{is_over}

abbrev pub as_constraint : Bound → Constraint
as_constraint b = CumulIn b.f b.window b.lo b.hi

-- the moment surely lies in the window, and the load passes its limit there
abbrev pub is_high : Data → Region → Bound → Bool → ℤ → Bool
is_high m r b below t = is_surely_in r b.window t && is_over r (parts_of m b.f) b.lo b.hi below t

-- it is that of a constraint of a valid model
pub record IsBoundOf (m : Data) (c : ℕ) (b : Bound) : Type 0 where
  pub valid : IsValid m
  pub is : slice_get m.constraints c ≡ Some (as_constraint b)

-- no function of the model has more parts
abbrev pub HasRoom : Data → ℕ → Type 0
HasRoom m room = (f : Cum) → length (parts_of m f) ≤ room
