-- The guesses under which whoever derives asks a witness, and which witnesses they ask.
use Rattle.std.specs.Prelude.{ℕ, Bool, true, false, ◌||◌}
use Rattle.sched_base.specs.declared.ids.Itv.{Itv}
use Rattle.sched_model.specs.Data.{Data, same}
use Rattle.region.specs.declared.types.Claim.TheVariants.{Absent}
use Rattle.region.specs.declared.types.Topic.{Topic}
use Rattle.region.specs.declared.types.Topic.TheVariants.{One, Two}
use Rattle.region.specs.declared.types.Guess.{Guess}
use Rattle.region.specs.Guesses.{topic}
use Rattle.refute_state.specs.declared.witness.StateWitness.{StateWitness}
use Rattle.refute_state.specs.declared.witness.StateWitness.TheVariants.{State, State3}
use Rattle.refute_state.specs.Demands.{of_demand}

-- that the interval is present, or a bound of it
abbrev pub asks_times : Itv → Topic → Bool
asks_times x (One y Absent) = false
asks_times x (One y c) = same x y
asks_times x (Two p y z) = false

-- the same of the interval of a constraint's demand
abbrev pub asks_demand : Data → ℕ → Topic → Bool
asks_demand m c t = of_demand m c (λ d. asks_times d.x t)

abbrev pub lists : Data → StateWitness → Guess → Bool
lists m (State c1 c2) g = asks_demand m c1 (topic g) || asks_demand m c2 (topic g)
lists m (State3 c1 c2 c3) g = asks_demand m c1 (topic g) || asks_demand m c2 (topic g) || asks_demand m c3 (topic g)

-- facts are derived by each kind
abbrev pub is_derived : StateWitness → Bool
is_derived w = true
