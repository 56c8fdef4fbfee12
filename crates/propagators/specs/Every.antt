-- Longer lists of guesses: also those that tell a witness nothing that a guess doesn't which its row lists.
use Rattle.std.specs.Prelude.{Bool, false, ◌||◌, Option, slice_get, nat_eq}
use Rattle.sched_base.specs.declared.ids.Seq.{Seq}
use Rattle.sched_model.specs.declared.types.Constraint.{Constraint}
use Rattle.sched_model.specs.Words.{passes}
use Rattle.sched_model.specs.Data.{Data}
use Rattle.region.specs.declared.types.Topic.{Topic}
use Rattle.region.specs.declared.types.Topic.TheVariants.{One, Two}
use Rattle.region.specs.declared.types.Guess.{Guess}
use Rattle.region.specs.Guesses.{topic}
use Rattle.refute_basic.specs.Listed.{asks_presence, is_on_one}
use Rattle.refute_hier.specs.declared.witness.HierWitness.TheVariants.{SeqRel}
use Rattle.refute_hier.specs.SeqRel.{related_in}
use Rattle.refute_seq.specs.declared.witness.SeqWitness.TheVariants.{Pair, Triple}
use Rattle.refute_seq.specs.Listed.{asks_pair}
use Rattle.refute_cumul.specs.declared.witness.CumulWitness.TheVariants.{Point}
use Rattle.kernel.specs.declared.types.Witness.{Witness}
use Rattle.kernel.specs.declared.types.Witness.TheVariants.{Hier, Seq as OfSeq, Cumul}
use Rattle.kernel.specs.declared.no_extra.NoWitness.{NoWitness}
use Rattle.propagators.specs.Quiet.{lists_all}

-- that one interval stands before another in the sequence, which is open for two of its members alone
abbrev pub asks_sequence : Seq → Topic → Bool
asks_sequence p (Two q u v) = nat_eq p.0 q.0
asks_sequence p (One z c) = false

-- the same in the sequence that a relation speaks of
abbrev pub asks_relation : Option Constraint → Topic → Bool
asks_relation o t = passes (λ d. passes (λ p. asks_sequence p t) (related_in d)) o

-- TRIPLE and SEQREL: that any interval is present, and any order in their sequence. PAIR: also that the second of the two
-- stands before the first. POINT: the presence or a bound of any interval. The other kinds: what their rows list
abbrev pub lists_every : Data → Witness NoWitness → Guess → Bool
lists_every m (OfSeq (Triple p x y z)) g = asks_presence (topic g) || asks_sequence (record { 0 = p }) (topic g)
lists_every m (Hier (SeqRel c x)) g = asks_presence (topic g) || asks_relation (slice_get m.constraints c) (topic g)
lists_every m (OfSeq (Pair c a b k)) g = asks_pair (slice_get m.constraints c) (record { 0 = a }) (record { 0 = b }) (topic g) || asks_pair (slice_get m.constraints c) (record { 0 = b }) (record { 0 = a }) (topic g)
lists_every m (Cumul (Point c t u)) g = is_on_one (topic g)
lists_every m w g = lists_all m w g
