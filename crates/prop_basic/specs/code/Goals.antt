-- What a range is tested for.
use Rattle.std.specs.Prelude.{Bool, Option}
use Rattle.sched_model.specs.declared.types.Expr.{Expr}
use Rattle.sched_model.specs.Data.{Data}
use Rattle.sched_model.specs.Ranges.{Ends}
use Rattle.region.specs.declared.types.Guess.{Guess}
use Rattle.region.specs.Cells.{Region}
use Rattle.region.specs.Guesses.{looked_at}
use Rattle.look_hull.specs.LookHull.{surely_false, look_hull}
use Rattle.refute_basic.specs.Obj.{never_beats}
use Rattle.prop_basic.specs.declared.hulls.Goal.{Goal}
use Rattle.prop_basic.specs.declared.hulls.Goal.TheVariants.{Holds, Beats}

abbrev pub is_missed : Goal → Ends → Bool
is_missed Holds r = surely_false r
is_missed (Beats sense best) r = never_beats sense best r

-- no number that the expression can have under the guess does
abbrev pub misses : Data → Region → Expr → Goal → Option Guess → Bool
misses m r e goal guess = is_missed goal (look_hull m (looked_at guess r) e)
