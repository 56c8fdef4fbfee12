-- The guesses under which whoever derives asks a witness, and which witnesses they ask.
use Rattle.std.specs.Prelude.{ℕ, Bool, true, false, ◌||◌, Option, Some, slice_get, nat_eq}
use Rattle.sched_model.specs.declared.types.Constraint.{Constraint}
use Rattle.sched_model.specs.declared.types.Constraint.TheVariants.{Temporal}
use Rattle.sched_model.specs.Data.{Data}
use Rattle.region.specs.declared.types.Claim.TheVariants.{Present, Absent}
use Rattle.region.specs.declared.types.Topic.{Topic}
use Rattle.region.specs.declared.types.Topic.TheVariants.{One, Two}
use Rattle.region.specs.declared.types.Guess.{Guess}
use Rattle.region.specs.Guesses.{topic}
use Rattle.refute_basic.specs.declared.witness.BasicWitness.{BasicWitness}
use Rattle.refute_basic.specs.declared.witness.BasicWitness.TheVariants.{Size, Arc, Cycle, Expr, Obj, Leaf}

-- that the interval is present, or a bound of it
abbrev pub asks_size : ℕ → Topic → Bool
asks_size x (One z Absent) = false
asks_size x (One z c) = nat_eq x z.0
asks_size x (Two p y z) = false

-- the same of either interval of a precedence
abbrev pub asks_ends : Option Constraint → Topic → Bool
asks_ends (Some (Temporal from to equal a b z)) t = asks_size a.0 t || asks_size b.0 t
asks_ends _ t = false

-- that any interval is present
abbrev pub asks_presence : Topic → Bool
asks_presence (One z Present) = true
asks_presence _ = false

-- the presence or a bound of any interval
abbrev pub is_on_one : Topic → Bool
is_on_one (One z c) = true
is_on_one (Two p y z) = false

abbrev pub lists : Data → BasicWitness → Guess → Bool
lists m (Size x) g = asks_size x (topic g)
lists m (Arc c d) g = asks_ends (slice_get m.constraints c) (topic g)
lists m (Cycle arcs) g = asks_presence (topic g)
lists m (Expr c) g = is_on_one (topic g)
lists m Obj g = is_on_one (topic g)
lists m (Leaf k u) g = false

-- facts are derived by each kind but LEAF
abbrev pub is_derived : BasicWitness → Bool
is_derived (Leaf k u) = false
is_derived w = true
