-- The capacities of a model: upper bounds over all moments of functions of which no part is subtracted.
use Rattle.std.specs.Prelude.{◌≡◌, ℕ, suc, if◌then◌else◌, List, [], ◌∷◌, Option, Some, None, slice_get}
use Rattle.sched_model.specs.declared.types.Window.TheVariants.{Always}
use Rattle.sched_model.specs.declared.types.Constraint.{Constraint}
use Rattle.sched_model.specs.declared.types.Constraint.TheVariants.{CumulIn}
use Rattle.sched_model.specs.Data.{Data, parts_of}
use Rattle.refute_energy.specs.Energy.{is_capacity}
use Rattle.prop_energy.specs.declared.bounds.Bound.{Bound}

-- what the constraint at the place c gives
abbrev pub bound_of : Data → ℕ → Constraint → Option Bound
bound_of m c (CumulIn f Always lo hi) = if is_capacity hi (parts_of m f) then Some (record { c = c; f = f; hi = hi }) else None
bound_of m c _ = None

abbrev pub with_bound : Option Bound → List Bound → List Bound
with_bound None bounds = bounds
with_bound (Some b) bounds = b ∷ bounds

-- those of constraints that stand from the place c on
abbrev pub bounds_from : Data → ℕ → List Constraint → List Bound
bounds_from m c [] = []
bounds_from m c (d ∷ ds) = with_bound (bound_of m c d) (bounds_from m (suc c) ds)

abbrev pub IsFor : List Bound → Data → Type 0
IsFor bounds m = bounds ≡ bounds_from m 0 m.constraints

-- a bound is that of its constraint
pub record IsBoundIn (m : Data) (b : Bound) : Type 0 where
  pub constraint : Constraint
  pub there : slice_get m.constraints b.c ≡ Some constraint
  pub bound : bound_of m b.c constraint ≡ Some b
