-- The schedule of the last solution in a log.
use Rattle.std.specs.Prelude.{List, [], ◌∷◌, Option, Some, None, option_map}
use Rattle.std.specs.Option.{option_or}
use Rattle.sched_model.specs.declared.types.Assignment.{Assignment}
use Rattle.kernel.specs.declared.types.Found.{Found}
use Rattle.kernel.specs.declared.types.Line.{Line}
use Rattle.kernel.specs.declared.types.Line.TheVariants.{Derive, Fail, Split, Sol, Restart}

abbrev pub schedule_in : {W : Type 0} → Line W → Option Assignment
schedule_in (Derive g w) = None
schedule_in (Fail w) = None
schedule_in (Split g) = None
schedule_in (Sol a) = Some a
schedule_in Restart = None

-- that of the lines behind the first, or else that of the first
abbrev pub last_schedule : {W : Type 0} → List (Line W) → Option Assignment
last_schedule [] = None
last_schedule (l ∷ ls) = option_or (last_schedule ls) (schedule_in l)

-- that of what a state has found
abbrev pub found_schedule : Option Found → Option Assignment
found_schedule found = option_map (λ f. f.assignment) found
