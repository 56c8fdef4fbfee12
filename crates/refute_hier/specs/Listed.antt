-- The guesses under which whoever derives asks a witness, and which witnesses they ask.
use Rattle.std.specs.Prelude.{Bool, true, false, List, [], ◌∷◌, ◌&&◌, ◌||◌, Option, Some, slice_get, nat_eq}
use Rattle.sched_base.specs.declared.ids.Itv.{Itv}
use Rattle.sched_base.specs.declared.ids.Seq.{Seq}
use Rattle.sched_model.specs.declared.types.Constraint.{Constraint}
use Rattle.sched_model.specs.declared.types.Constraint.TheVariants as constraint
use Rattle.sched_model.specs.Data.{Data, same}
use Rattle.region.specs.declared.types.Claim.TheVariants.{Present, Absent}
use Rattle.region.specs.declared.types.Topic.{Topic}
use Rattle.region.specs.declared.types.Topic.TheVariants.{One, Two}
use Rattle.region.specs.declared.types.Guess.{Guess}
use Rattle.region.specs.Guesses.{topic}
use Rattle.region.specs.Topics.{asks_each}
use Rattle.refute_hier.specs.declared.witness.HierWitness.{HierWitness}
use Rattle.refute_hier.specs.declared.witness.HierWitness.TheVariants.{Span, Alt, Sync, SeqRel}

-- the interval of a constraint and its parts
abbrev pub family_of : Option Constraint → List Itv
family_of (Some (constraint.Span a parts)) = a ∷ parts
family_of (Some (constraint.Alternative a parts n)) = a ∷ parts
family_of (Some (constraint.Synchronize a parts)) = a ∷ parts
family_of _ = []

-- the same, but not that it is absent
abbrev pub asks_present : List Itv → Topic → Bool
asks_present xs (One x Absent) = false
asks_present xs t = asks_each xs t

-- that one of two members of a sequence is present, or that one of them stands before the other
abbrev pub asks_pair : Seq → Itv → Itv → Topic → Bool
asks_pair p x y (One z Present) = same z x || same z y
asks_pair p x y (One z c) = false
asks_pair p x y (Two q u v) = nat_eq q.0 p.0 && ((same u x && same v y) || (same u y && same v x))

-- the same of each two that a relation of a sequence compares, beside one more member
abbrev pub asks_related : Option Constraint → Itv → Topic → Bool
asks_related (Some (constraint.First p a)) x t = asks_pair p a x t
asks_related (Some (constraint.Last p a)) x t = asks_pair p a x t
asks_related (Some (constraint.Before p a b)) x t = asks_pair p a b t
asks_related (Some (constraint.Prev p a b)) x t = asks_pair p a b t || asks_pair p a x t || asks_pair p x b t
asks_related _ x t = false

abbrev pub lists : Data → HierWitness → Guess → Bool
lists m (Span c r i) g = asks_each (family_of (slice_get m.constraints c)) (topic g)
lists m (Alt c r i j) g = asks_each (family_of (slice_get m.constraints c)) (topic g)
lists m (Sync c i) g = asks_present (family_of (slice_get m.constraints c)) (topic g)
lists m (SeqRel c x) g = asks_related (slice_get m.constraints c) (record { 0 = x }) (topic g)

-- facts are derived by each kind
abbrev pub is_derived : HierWitness → Bool
is_derived w = true
