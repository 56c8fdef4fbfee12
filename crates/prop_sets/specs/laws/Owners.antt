-- Each witness of a kind of a round has one propagator of the round that looks after it, or it refutes nothing.
use Rattle.std.specs.Prelude.{◌≡◌, ℕ, ◌<◌, ◌≤◌, Bool, true, false, not, ◌&&◌, length, nat_eq, nat_lt}
use Rattle.std.proofs.Common.{refl, sym, ap, ◌∙◌, arith}
use Rattle.std.proofs.lemmas.Bool.{true≢false}
use Rattle.std.proofs.lemmas.Bool.Decides.{nat_tests}
use Rattle.std.proofs.lemmas.Option.{slice_get_past}
use Rattle.sched_model.specs.Words.{passes}
use Rattle.sched_model.specs.Data.{Data}
use Rattle.region.specs.Looks.{Seen}
use Rattle.base_laws.specs.laws.Truth.{never_both}
use Rattle.refute_seq.specs.declared.witness.SeqWitness.{SeqWitness}
use Rattle.refute_seq.specs.declared.witness.SeqWitness.TheVariants.{Pair, Triple, Overload, Edge, NotEnd, Detect}
use Rattle.refute_seq.specs.Witness.{is_valid}
use Rattle.refute_seq.specs.Sets.{overload_of, edge_of, not_end_of, detect_of}
use Rattle.refute_seq.specs.OnSequence.{refutes, row_of}
use Rattle.prop_sets.specs.code.Tasks.{size_of, is_own, is_of, looks_after}

past : (i n : ℕ) → nat_lt i n ≡ false → n ≤ i
past i n h = grind (arith, nat_tests)

below : (i n : ℕ) → nat_lt i n ≡ true → i < n
below i n h = grind (arith, nat_tests)

itself : (n : ℕ) → nat_eq n n ≡ true
itself n = grind (arith, nat_tests)

-- a constraint is looked after by the propagator of its number, or isn't there
owned_or_past : (later : Bool) (m : Data) (c : ℕ) (w : SeqWitness) (l : Seen) → is_of later c w ≡ true → (length m.constraints ≤ c → row_of m l w ≡ false) → ((k : ℕ) → k < size_of m → looks_after later m k w ≡ false) → refutes m l w ≡ false
owned_or_past later m c w l mine beyond none = by_case (nat_lt c (length m.constraints)) refl
  where
    by_case : (t : Bool) → nat_lt c (length m.constraints) ≡ t → refutes m l w ≡ false
    by_case true is = absurd (true≢false (sym mine ∙ none c (below c (length m.constraints) is)))
    by_case false is = never_both (is_valid w) (row_of m l w) (beyond (past c (length m.constraints) is))

-- of its own kind and number
in_round : (b : Bool) (n : ℕ) → b ≡ true → (b && nat_eq n n) ≡ true
in_round true n is = itself n
in_round false n is = cc

pub unowned : (later : Bool) (m : Data) (l : Seen) (w : SeqWitness) → is_own later w ≡ true → ((k : ℕ) → k < size_of m → looks_after later m k w ≡ false) → refutes m l w ≡ false
unowned later m l (Pair c a b k) own none = cc
unowned later m l (Triple p x y z) own none = cc
unowned later m l (Overload c s) own none = owned_or_past later m c (Overload c s) l (itself c) (λ past. ap (passes (overload_of m l.region s)) (slice_get_past m.constraints c past)) none
unowned later m l (Edge c side i s u v) own none = owned_or_past later m c (Edge c side i s u v) l (in_round later c own) (λ past. ap (passes (edge_of m l.region side i s u v)) (slice_get_past m.constraints c past)) none
unowned later m l (NotEnd c side i s) own none = owned_or_past later m c (NotEnd c side i s) l (in_round later c own) (λ past. ap (passes (not_end_of m l.region side i s)) (slice_get_past m.constraints c past)) none
unowned later m l (Detect c side i s) own none = owned_or_past later m c (Detect c side i s) l (in_round (not later) c own) (λ past. ap (passes (detect_of m l.region side i s)) (slice_get_past m.constraints c past)) none
