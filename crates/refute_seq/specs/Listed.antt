-- The guesses under which whoever derives asks a witness, and which witnesses they ask.
use Rattle.std.specs.Prelude.{ℕ, List, Bool, true, false, ◌&&◌, ◌||◌, [], ◌∷◌, Option, Some, slice_get, nat_eq}
use Rattle.std.specs.List.{list_any}
use Rattle.sched_base.specs.declared.ids.Itv.{Itv}
use Rattle.sched_base.specs.declared.ids.Seq.{Seq}
use Rattle.sched_model.specs.declared.types.Constraint.{Constraint}
use Rattle.sched_model.specs.declared.types.Constraint.TheVariants.{NoOverlap}
use Rattle.sched_model.specs.Data.{Data, same, has}
use Rattle.region.specs.declared.types.Claim.TheVariants.{Present, Absent, StartLe, EndGe}
use Rattle.region.specs.declared.types.Topic.{Topic}
use Rattle.region.specs.declared.types.Topic.TheVariants.{One, Two}
use Rattle.region.specs.declared.types.Guess.{Guess}
use Rattle.region.specs.Guesses.{topic}
use Rattle.refute_seq.specs.declared.witness.SeqWitness.{SeqWitness}
use Rattle.refute_seq.specs.declared.witness.SeqWitness.TheVariants.{Pair, Triple, Overload, Edge, NotEnd, Detect}

-- that the first of two members of a sequence stands before the second
abbrev pub asks_order : Seq → Itv → Itv → Topic → Bool
asks_order p x y (Two q u v) = nat_eq p.0 q.0 && same x u && same y v
asks_order p x y t = false

-- that one of two members is present, a bound of it, or that the first stands before the second
abbrev pub asks_two : Seq → Itv → Itv → Topic → Bool
asks_two p x y (One z Absent) = false
asks_two p x y (One z c) = same x z || same y z
asks_two p x y t = asks_order p x y t

-- the same of two members of a sequence without overlap
abbrev pub asks_pair : Option Constraint → Itv → Itv → Topic → Bool
asks_pair (Some (NoOverlap p matrix direct)) a b t = asks_two p a b t
asks_pair _ a b t = false

-- that one of three members is present, or that one of them stands before the next in the circle
abbrev pub asks_circle : Seq → Itv → Itv → Itv → Topic → Bool
asks_circle p x y z (One u Present) = has (x ∷ y ∷ z ∷ []) u
asks_circle p x y z (One u c) = false
asks_circle p x y z t = asks_order p x y t || asks_order p y z t || asks_order p z x t

-- that a member of a set is present
abbrev pub asks_member : List ℕ → Topic → Bool
asks_member s (One z Present) = list_any (λ n. nat_eq z.0 n) s
asks_member s t = false

-- that i is present, and on the side of the row that it starts, or ends in the mirror, as early as it can
abbrev pub asks_start : ℕ → ℕ → Topic → Bool
asks_start side i (One z Present) = nat_eq z.0 i
asks_start side i (One z (StartLe t)) = nat_eq z.0 i && nat_eq side 0
asks_start side i (One z (EndGe t)) = nat_eq z.0 i && nat_eq side 1
asks_start side i t = false

-- the same with the two sides exchanged
abbrev pub asks_end : ℕ → ℕ → Topic → Bool
asks_end side i (One z Present) = nat_eq z.0 i
asks_end side i (One z (EndGe t)) = nat_eq z.0 i && nat_eq side 0
asks_end side i (One z (StartLe t)) = nat_eq z.0 i && nat_eq side 1
asks_end side i t = false

abbrev pub lists : Data → SeqWitness → Guess → Bool
lists m (Pair c a b k) g = asks_pair (slice_get m.constraints c) (record { 0 = a }) (record { 0 = b }) (topic g)
lists m (Triple p x y z) g = asks_circle (record { 0 = p }) (record { 0 = x }) (record { 0 = y }) (record { 0 = z }) (topic g)
lists m (Overload c s) g = asks_member s (topic g)
lists m (Edge c side i s u v) g = asks_start side i (topic g)
lists m (NotEnd c side i s) g = asks_end side i (topic g)
lists m (Detect c side i s) g = asks_start side i (topic g)

-- facts are derived by each kind
abbrev pub is_derived : SeqWitness → Bool
is_derived w = true
