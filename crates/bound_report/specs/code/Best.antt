-- The best of values that are looked at one after another.
use Rattle.std.specs.Prelude.{ℤ, List, [], ◌∷◌, Option, Some, None, fold}
use Rattle.std.specs.Int.{int_max, int_min}
use Rattle.sched_model.specs.declared.types.Sense.{Sense}
use Rattle.sched_model.specs.declared.types.Sense.TheVariants.{Minimize, Maximize}

abbrev pub better_of : Sense → ℤ → ℤ → ℤ
better_of Minimize y z = int_min y z
better_of Maximize y z = int_max y z

-- the best so far, with one value more
abbrev pub with_one : Sense → Option ℤ → ℤ → Option ℤ
with_one sense None z = Some z
with_one sense (Some y) z = Some (better_of sense y z)

abbrev pub best_in : Sense → List ℤ → Option ℤ
best_in sense [] = None
best_in Minimize (z ∷ zs) = Some (fold int_min z zs)
best_in Maximize (z ∷ zs) = Some (fold int_max z zs)
