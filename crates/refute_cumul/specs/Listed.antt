-- The guesses under which whoever derives asks a witness, and which witnesses they ask.
use Rattle.std.specs.Prelude.{Bool, true, List, [], ◌∷◌, ◌++◌, Option, Some, slice_get}
use Rattle.std.specs.List.{flat_map}
use Rattle.sched_base.specs.declared.ids.Itv.{Itv}
use Rattle.sched_model.specs.declared.types.Shape.{Shape}
use Rattle.sched_model.specs.declared.types.Shape.TheVariants.{PulseOf, StepAtStart, StepAtEnd}
use Rattle.sched_model.specs.declared.types.Part.{Part}
use Rattle.sched_model.specs.declared.types.Window.{Window}
use Rattle.sched_model.specs.declared.types.Window.TheVariants.{During}
use Rattle.sched_model.specs.declared.types.Constraint.{Constraint}
use Rattle.sched_model.specs.declared.types.Constraint.TheVariants.{CumulIn}
use Rattle.sched_model.specs.Data.{Data, parts_of}
use Rattle.region.specs.declared.types.Guess.{Guess}
use Rattle.region.specs.Guesses.{topic}
use Rattle.region.specs.Topics.{asks_each}
use Rattle.refute_cumul.specs.declared.witness.CumulWitness.{CumulWitness}
use Rattle.refute_cumul.specs.declared.witness.CumulWitness.TheVariants.{Point}

-- the interval of a shape, and of a window
abbrev pub shape_names : Shape → List Itv
shape_names (PulseOf x h) = x ∷ []
shape_names (StepAtStart x h) = x ∷ []
shape_names (StepAtEnd x h) = x ∷ []
shape_names _ = []

abbrev pub window_names : Window → List Itv
window_names (During x) = x ∷ []
window_names _ = []

-- the intervals of some parts and of a window
abbrev pub names_in : List Part → Window → List Itv
names_in is w = window_names w ++ flat_map (λ i. shape_names i.shape) is

abbrev pub names_of : Data → Option Constraint → List Itv
names_of m (Some (CumulIn f w lo hi)) = names_in (parts_of m f) w
names_of m _ = []

abbrev pub lists : Data → CumulWitness → Guess → Bool
lists m (Point c t u) g = asks_each (names_of m (slice_get m.constraints c)) (topic g)

-- facts are derived by each kind
abbrev pub is_derived : CumulWitness → Bool
is_derived w = true
