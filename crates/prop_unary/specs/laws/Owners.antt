-- Each witness of these kinds has one propagator that looks after it, or it refutes nothing.
use Rattle.std.specs.Prelude.{◌≡◌, ℕ, ◌+◌, ◌<◌, ◌≤◌, Bool, true, false, ◌&&◌, [], length, nat_eq, nat_lt}
use Rattle.std.proofs.Common.{refl, sym, ap, ◌∙◌, arith}
use Rattle.std.proofs.lemmas.Bool.{true≢false}
use Rattle.std.proofs.lemmas.Bool.Decides.{nat_tests}
use Rattle.std.proofs.lemmas.List.{get_or_past}
use Rattle.std.proofs.lemmas.Option.{slice_get_past}
use Rattle.sched_base.specs.declared.ids.Seq.{Seq}
use Rattle.sched_model.specs.Data.{Data, has, members_of}
use Rattle.region.specs.Looks.{Seen, IsRegionOf}
use Rattle.region.specs.laws.Lists.{both_true, true_both}
use Rattle.refute_seq.specs.declared.witness.SeqWitness.{SeqWitness}
use Rattle.refute_seq.specs.declared.witness.SeqWitness.TheVariants.{Pair, Triple, Overload, Edge, NotEnd, Detect}
use Rattle.refute_seq.specs.OnSequence.{refutes}
use Rattle.prop_unary.specs.code.Tasks.{size_of, is_own, looks_after, sequence_in}
use Rattle.prop_unary.specs.laws.Members.{are_two, strangers}

same_number : (i j : ℕ) → nat_eq i j ≡ true → i ≡ j
same_number i j h = grind (arith, nat_tests)

number_itself : (n : ℕ) → nat_eq n n ≡ true
number_itself n = grind (arith, nat_tests)

is_below : (i n : ℕ) → i < n → nat_lt i n ≡ true
is_below i n h = grind (arith, nat_tests)

below : (i n : ℕ) → nat_lt i n ≡ true → i < n
below i n h = grind (arith, nat_tests)

past : (i n : ℕ) → nat_lt i n ≡ false → n ≤ i
past i n h = grind (arith, nat_tests)

pub pair_owned : (m : Data) (k c a b n : ℕ) → looks_after m k (Pair c a b n) ≡ true → (k ≡ c) × (c < length m.constraints)
pair_owned m k c a b n h =
    let two = both_true (nat_lt c (length m.constraints)) (nat_eq k c) h in
    (same_number k c two.1, below c (length m.constraints) two.0)

pub triple_owned : (m : Data) (k p x y z : ℕ) → looks_after m k (Triple p x y z) ≡ true → (k ≡ length m.constraints + p) × (p < length m.sequences)
triple_owned m k p x y z h =
    let two = both_true (nat_lt p (length m.sequences)) (nat_eq k (length m.constraints + p)) h in
    (same_number k (length m.constraints + p) two.1, below p (length m.sequences) two.0)

pub owns_pair : (m : Data) (c a b n : ℕ) → c < length m.constraints → looks_after m c (Pair c a b n) ≡ true
owns_pair m c a b n within = true_both (nat_lt c (length m.constraints)) (nat_eq c c) (is_below c (length m.constraints) within) (number_itself c)

pub owns_triple : (m : Data) (p x y z : ℕ) → p < length m.sequences → looks_after m (length m.constraints + p) (Triple p x y z) ≡ true
owns_triple m p x y z within = true_both (nat_lt p (length m.sequences)) (nat_eq (length m.constraints + p) (length m.constraints + p)) (is_below p (length m.sequences) within) (number_itself (length m.constraints + p))

-- one that no propagator looks after names no constraint, or no sequence
pub no_members : (m : Data) (p : Seq) → length m.sequences ≤ p.0 → members_of m p ≡ []
no_members m p beyond = ap (λ d. d.members) (get_or_past m.sequences p.0 _ beyond)

pair_past : (m : Data) (l : Seen) (c a b n : ℕ) → IsRegionOf m l.region → length m.constraints ≤ c → refutes m l (Pair c a b n) ≡ false
pair_past m l c a b n of beyond = strangers m l (Pair c a b n) of refl (ap (λ o. are_two m (sequence_in o) (record { 0 = a }) (record { 0 = b })) (slice_get_past m.constraints c beyond))

triple_past : (m : Data) (l : Seen) (p x y z : ℕ) → IsRegionOf m l.region → length m.sequences ≤ p → refutes m l (Triple p x y z) ≡ false
triple_past m l p x y z of beyond = strangers m l (Triple p x y z) of refl (ap (λ ms. has ms (record { 0 = x }) && has ms (record { 0 = y }) && has ms (record { 0 = z })) (no_members m (record { 0 = p }) beyond))

pub unowned : (m : Data) (l : Seen) (w : SeqWitness) → IsRegionOf m l.region → is_own w ≡ true → ((k : ℕ) → k < size_of m → looks_after m k w ≡ false) → refutes m l w ≡ false
unowned m l (Pair c a b n) of own none = by_case (nat_lt c (length m.constraints)) refl
  where
    by_case : (t : Bool) → nat_lt c (length m.constraints) ≡ t → refutes m l (Pair c a b n) ≡ false
    by_case true is =
        let within = below c (length m.constraints) is in
        absurd (true≢false (sym (owns_pair m c a b n within) ∙ none c (omega (arith, within))))
    by_case false is = pair_past m l c a b n of (past c (length m.constraints) is)
unowned m l (Triple p x y z) of own none = by_case (nat_lt p (length m.sequences)) refl
  where
    by_case : (t : Bool) → nat_lt p (length m.sequences) ≡ t → refutes m l (Triple p x y z) ≡ false
    by_case true is =
        let within = below p (length m.sequences) is in
        absurd (true≢false (sym (owns_triple m p x y z within) ∙ none (length m.constraints + p) (omega (arith, within))))
    by_case false is = triple_past m l p x y z of (past p (length m.sequences) is)
unowned m l (Overload c s) of own none = cc
unowned m l (Edge c side i s u v) of own none = cc
unowned m l (NotEnd c side i s) of own none = cc
unowned m l (Detect c side i s) of own none = cc

-- what a propagator looks after is of these kinds
pub owned_kind : (m : Data) (k : ℕ) (w : SeqWitness) → looks_after m k w ≡ true → is_own w ≡ true
owned_kind m k (Pair c a b n) mine = refl
owned_kind m k (Triple p x y z) mine = refl
owned_kind m k (Overload c s) mine = cc
owned_kind m k (Edge c side i s u v) mine = cc
owned_kind m k (NotEnd c side i s) mine = cc
owned_kind m k (Detect c side i s) mine = cc
