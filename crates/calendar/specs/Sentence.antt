-- What the statements of a text ask of an assignment: constraints, and that intervals keep to calendars.
use Rattle.std.specs.Prelude.{true, Bool, List, [], ◌∷◌}
use Rattle.sched_base.specs.declared.ids.Itv.{Itv}
use Rattle.sched_model.specs.declared.types.Assignment.{Assignment}
use Rattle.sched_model.specs.declared.types.Constraint.{Constraint}
use Rattle.sched_model.specs.Data.{Data}
use Rattle.sched_model.specs.Sentences.{Holds}
use Rattle.calendar.specs.declared.step.Pair.{Pair}
use Rattle.calendar.specs.declared.rules.Demand.{Demand}
use Rattle.calendar.specs.Steps.{are_steps}
use Rattle.calendar.specs.Kept.{Keeps}
use Rattle.calendar.specs.Rules.{rules_of}

pub data Sentence : Type 0 where
  Plain : Constraint → Sentence
  Calendar : Demand → Itv → List Pair → Sentence

-- the sentence by itself, without a word of what is made of it
abbrev pub Meets : Data → Assignment → Sentence → Type 0
Meets m a (Plain c) = Holds m a c
Meets m a (Calendar demand x ps) = Keeps a demand x ps

-- the constraints that stand for it in a model
abbrev pub made_of : Sentence → List Constraint
made_of (Plain c) = c ∷ []
made_of (Calendar demand x ps) = rules_of demand x ps

-- a calendar is over a step function
abbrev pub is_over_steps : Sentence → Bool
is_over_steps (Plain c) = true
is_over_steps (Calendar demand x ps) = are_steps ps
