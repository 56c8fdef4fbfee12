-- What the code keeps of a step function, and how it tests that moments rise.
use Rattle.std.specs.Prelude.{◌≡◌, ◌≤◌, ℤ, Bool, true, false, ◌&&◌, List, [], ◌∷◌, length, int_lt}
use Rattle.calendar.specs.declared.step.Pair.{Pair}
use Rattle.calendar.specs.Steps.{are_steps, closed_of}
use Rattle.cpo_text.specs.declared.tree.Definition.TheVariants.{StepFunction}
use Rattle.cpo_text.specs.declared.tree.Statement.{Statement}
use Rattle.cpo_text.specs.declared.tree.Statement.TheVariants.{Define, Forbid}

-- the closed ranges beside the pairs
pub record IsCalendar (ps rs : List Pair) : Type 0 where
  pub steps : are_steps ps ≡ true
  pub ranges : rs ≡ closed_of ps
  pub few : length rs ≤ 1001

-- all later than a moment, and each later than the one before
abbrev pub rise_from : ℤ → List Pair → Bool
rise_from t [] = true
rise_from t (p ∷ ps) = int_lt t p.t && rise_from p.t ps

-- of a step function, of which no model has a part
abbrev pub is_of_calendars : Statement → Bool
is_of_calendars (Define n (StepFunction ps)) = true
is_of_calendars (Forbid w a f) = true
is_of_calendars _ = false
