-- What a log has shown of the best value that any solution can have.
use Rattle.std.specs.Prelude.{◌≡◌, ℤ, false, List, [], ◌++◌, Option, Some, None, option_to_list, map, All, Contains}
use Rattle.sched_model.specs.declared.types.Objective.{Objective}
use Rattle.sched_model.specs.declared.types.Sense.{Sense}
use Rattle.sched_model.specs.declared.types.Sense.TheVariants.{Minimize, Maximize}
use Rattle.sched_model.specs.Data.{Data}
use Rattle.sched_model.specs.Ranges.{Ends}
use Rattle.sched_model.specs.Solution.{beats}
use Rattle.region.specs.Cells.{Region}
use Rattle.look_hull.specs.LookHull.{look_hull}
use Rattle.kernel.specs.Steps.{LogState, open_regions, best_of}

-- the end of a range that is the better one
abbrev pub better_end : Sense → Ends → ℤ
better_end Minimize r = r.0
better_end Maximize r = r.1

-- the best value that the cells of a region leave to the objective
abbrev pub reach : Data → Objective → Region → ℤ
reach m o r = better_end o.sense (look_hull m r o.expr)

-- the best value so far, if there is one, and what each open region may still reach
abbrev pub reaches : Data → Objective → LogState → List ℤ
reaches m o s = option_to_list (best_of s.found) ++ map (reach m o) (open_regions s)

-- one of the values, and none is better
pub record IsBestOf (sense : Sense) (zs : List ℤ) (z : ℤ) : Type 0 where
  pub one : Contains zs z
  pub best : All (λ y. beats sense y z ≡ false) zs

-- the best of the values, if there is one
abbrev pub IsBestIn : Sense → List ℤ → Option ℤ → Type 0
IsBestIn sense zs None = zs ≡ []
IsBestIn sense zs (Some z) = IsBestOf sense zs z

-- the bound: the best of these values; none without an objective, and where there are none
abbrev pub IsBound : Data → LogState → Option ℤ → Type 0
IsBound m s None = (o : Objective) → m.objective ≡ Some o → reaches m o s ≡ []
IsBound m s (Some z) = (o : Objective) × (m.objective ≡ Some o) × IsBestOf o.sense (reaches m o s) z
