-- The numbers of valid witnesses are few and small, and tell them apart.
use Rattle.std.specs.Prelude.{◌≡◌, ℕ, ◌+◌, ◌^◌, ◌<◌, ℤ, pos, true, ◌&&◌, IsTrue, List, [], ◌∷◌, ◌++◌, length}
use Rattle.std.proofs.Common.{refl, arith, length-append}
use Rattle.std.proofs.lemmas.Bool.{ltb-true}
use Rattle.std.proofs.lemmas.Bool.Decides.{nat_tests}
use Rattle.base_laws.specs.laws.Truth.{three_true, four_true}
use Rattle.sched_model.specs.Data.{Data}
use Rattle.region.specs.Looks.{Seen}
use Rattle.region.specs.code.Spelled.{AreSmall}
use Rattle.region.specs.laws.Lists.{both_true}
use Rattle.region.specs.laws.Spelled.{no_more, one_more}
use Rattle.refute_seq.specs.declared.witness.SeqWitness.{SeqWitness}
use Rattle.refute_seq.specs.declared.witness.SeqWitness.TheVariants.{Pair, Triple, Overload, Edge, NotEnd, Detect}
use Rattle.sched_model.specs.Bounds.{is_number}
use Rattle.refute_seq.specs.Witness.{set_numbers, numbers_of, is_number_set, is_valid}
use Rattle.refute_seq.specs.OnSequence.{refutes, row_of}
use Rattle.refute_seq.specs.laws.SetNumbers.{set_count, fewer, set_small, only_small, set_told, set_split}

few : (n : ℕ) → is_number n ≡ true → n < 2 ^ 32
few n h = ltb-true n (2 ^ 32) h

-- what is valid of a witness of one set and of three
record IsOne (c side i k : ℕ) (s : List ℕ) : Type 0 where
  front : (is_number c ≡ true) × (is_number side ≡ true) × (is_number i ≡ true)
  set : is_number_set s ≡ true
  count : is_number (k + length s) ≡ true

one_of : (c side i k : ℕ) (s : List ℕ) → (is_number c && is_number side && is_number i && is_number_set s && is_number (k + length s)) ≡ true → IsOne c side i k s
one_of c side i k s h =
    let first = three_true (is_number c && is_number side && is_number i) (is_number_set s) (is_number (k + length s)) h in
    record { front = three_true (is_number c) (is_number side) (is_number i) first.0; set = first.1; count = first.2 }

record IsThree (c side i : ℕ) (s u v : List ℕ) : Type 0 where
  front : (is_number c ≡ true) × (is_number side ≡ true) × (is_number i ≡ true)
  first : is_number_set s ≡ true
  second : is_number_set u ≡ true
  third : is_number_set v ≡ true
  count : is_number (7 + length s + length u + length v) ≡ true

three_of : (c side i : ℕ) (s u v : List ℕ) → is_valid (Edge c side i s u v) ≡ true → IsThree c side i s u v
three_of c side i s u v h =
    let last = three_true (is_number c && is_number side && is_number i && is_number_set s && is_number_set u) (is_number_set v) (is_number (7 + length s + length u + length v)) h in
    let rest = three_true (is_number c && is_number side && is_number i) (is_number_set s) (is_number_set u) last.0 in
    record { front = three_true (is_number c) (is_number side) (is_number i) rest.0; first = rest.1; second = rest.2; third = last.1; count = last.2 }

pub few_numbers : (w : SeqWitness) → IsTrue (is_valid w) → length (numbers_of w) < 2 ^ 32
few_numbers (Pair c a b k) h = omega arith
few_numbers (Triple p x y z) h = omega arith
few_numbers (Overload c s) h =
    let low : 3 + length s < 2 ^ 32 = few (3 + length s) (both_true (is_number c && is_number_set s) (is_number (3 + length s)) h).1 in
    omega (arith, low, set_count s)
few_numbers (Edge c side i s u v) h =
    let low : 7 + length s + length u + length v < 2 ^ 32 = few (7 + length s + length u + length v) (three_of c side i s u v h).count in
    omega (arith, low, set_count s, set_count u, set_count v, length-append (set_numbers s) (set_numbers u ++ set_numbers v), length-append (set_numbers u) (set_numbers v))
few_numbers (NotEnd c side i s) h = let low : 5 + length s < 2 ^ 32 = few (5 + length s) (one_of c side i 5 s h).count in omega (arith, low, set_count s)
few_numbers (Detect c side i s) h = let low : 5 + length s < 2 ^ 32 = few (5 + length s) (one_of c side i 5 s h).count in omega (arith, low, set_count s)

front_small : (k c side i : ℕ) (rest : List ℤ) → is_number k ≡ true → (is_number c ≡ true) × (is_number side ≡ true) × (is_number i ≡ true) → AreSmall rest → AreSmall (pos k ∷ pos c ∷ pos side ∷ pos i ∷ rest)
front_small k c side i rest kind front small =
    one_more k (pos c ∷ pos side ∷ pos i ∷ rest) kind (one_more c (pos side ∷ pos i ∷ rest) front.0 (one_more side (pos i ∷ rest) front.1 (one_more i rest front.2 small)))

pub small_numbers : (w : SeqWitness) → IsTrue (is_valid w) → AreSmall (numbers_of w)
small_numbers (Pair c a b k) h =
    let e = four_true (is_number c) (is_number a) (is_number b) (is_number k) h in
    one_more 0 (pos c ∷ pos a ∷ pos b ∷ pos k ∷ []) refl (one_more c (pos a ∷ pos b ∷ pos k ∷ []) e.0 (one_more a (pos b ∷ pos k ∷ []) e.1 (one_more b (pos k ∷ []) e.2 (one_more k [] e.3 no_more))))
small_numbers (Triple p x y z) h =
    let e = four_true (is_number p) (is_number x) (is_number y) (is_number z) h in
    one_more 1 (pos p ∷ pos x ∷ pos y ∷ pos z ∷ []) refl (one_more p (pos x ∷ pos y ∷ pos z ∷ []) e.0 (one_more x (pos y ∷ pos z ∷ []) e.1 (one_more y (pos z ∷ []) e.2 (one_more z [] e.3 no_more))))
small_numbers (Overload c s) h =
    let e = three_true (is_number c) (is_number_set s) (is_number (3 + length s)) h in
    one_more 2 (pos c ∷ set_numbers s) refl (one_more c (set_numbers s) e.0 (only_small s e.1 (fewer 3 (length s) e.2)))
small_numbers (Edge c side i s u v) h =
    let e = three_of c side i s u v h in
    front_small 3 c side i (set_numbers s ++ (set_numbers u ++ set_numbers v)) refl e.front
    (set_small s (set_numbers u ++ set_numbers v) e.first (least (length s) (length u) (length v) e.count)
    (set_small u (set_numbers v) e.second (middle (length s) (length u) (length v) e.count)
    (only_small v e.third (fewer (7 + length s + length u) (length v) e.count))))
  where
    least : (a b c : ℕ) → is_number (7 + a + b + c) ≡ true → is_number a ≡ true
    least a b c h = grind (arith, nat_tests)

    middle : (a b c : ℕ) → is_number (7 + a + b + c) ≡ true → is_number b ≡ true
    middle a b c h = grind (arith, nat_tests)
small_numbers (NotEnd c side i s) h = let e = one_of c side i 5 s h in front_small 4 c side i (set_numbers s) refl e.front (only_small s e.set (fewer 5 (length s) e.count))
small_numbers (Detect c side i s) h = let e = one_of c side i 5 s h in front_small 5 c side i (set_numbers s) refl e.front (only_small s e.set (fewer 5 (length s) e.count))

-- the same kind and the same numbers in front leave the same sets
same_overload : (c d : ℕ) (s t : List ℕ) (k : ℕ) → pos k ∷ pos c ∷ set_numbers s ≡ pos k ∷ pos d ∷ set_numbers t → Overload c s ≡ Overload d t
same_overload c d s t k same = let number : c ≡ d = first c d _ _ same in let set : s ≡ t = set_told s t (behind c d _ _ same) in rw (number, set) refl
  where
    first : (a b : ℕ) (zs ys : List ℤ) → pos k ∷ pos a ∷ zs ≡ pos k ∷ pos b ∷ ys → a ≡ b
    first a b zs ys same = cc

    behind : (a b : ℕ) (zs ys : List ℤ) → pos k ∷ pos a ∷ zs ≡ pos k ∷ pos b ∷ ys → zs ≡ ys
    behind a b zs ys same = cc

record SameFront (c d e f i j : ℕ) (zs ys : List ℤ) : Type 0 where
  first : c ≡ d
  second : e ≡ f
  third : i ≡ j
  rest : zs ≡ ys

same_front : (k c d e f i j : ℕ) (zs ys : List ℤ) → pos k ∷ pos c ∷ pos e ∷ pos i ∷ zs ≡ pos k ∷ pos d ∷ pos f ∷ pos j ∷ ys → SameFront c d e f i j zs ys
same_front k c d e f i j zs ys same = record { first = cc; second = cc; third = cc; rest = cc }

pub told_apart : (v w : SeqWitness) → IsTrue (is_valid v) → IsTrue (is_valid w) → numbers_of v ≡ numbers_of w → v ≡ w
told_apart (Pair c a b k) (Pair c' a' b' k') hv hw same = cc
told_apart (Pair c a b k) (Triple p x y z) hv hw same = cc
told_apart (Pair c a b k) (Overload c' s') hv hw same = cc
told_apart (Pair c a b k) (Edge c' d' i' s' u' v') hv hw same = cc
told_apart (Pair c a b k) (NotEnd c' d' i' s') hv hw same = cc
told_apart (Pair c a b k) (Detect c' d' i' s') hv hw same = cc
told_apart (Triple p x y z) (Pair c a b k) hv hw same = cc
told_apart (Triple p x y z) (Triple p' x' y' z') hv hw same = cc
told_apart (Triple p x y z) (Overload c' s') hv hw same = cc
told_apart (Triple p x y z) (Edge c' d' i' s' u' v') hv hw same = cc
told_apart (Triple p x y z) (NotEnd c' d' i' s') hv hw same = cc
told_apart (Triple p x y z) (Detect c' d' i' s') hv hw same = cc
told_apart (Overload c s) (Pair c' a b k) hv hw same = cc
told_apart (Overload c s) (Triple p x y z) hv hw same = cc
told_apart (Overload c s) (Overload c' s') hv hw same = same_overload c c' s s' 2 same
told_apart (Overload c s) (Edge c' d' i' s' u' v') hv hw same = cc
told_apart (Overload c s) (NotEnd c' d' i' s') hv hw same = cc
told_apart (Overload c s) (Detect c' d' i' s') hv hw same = cc
told_apart (Edge c d i s u v) (Pair c' a b k) hv hw same = cc
told_apart (Edge c d i s u v) (Triple p x y z) hv hw same = cc
told_apart (Edge c d i s u v) (Overload c' s') hv hw same = cc
told_apart (Edge c d i s u v) (Edge c' d' i' s' u' v') hv hw same =
    let e = same_front 3 c c' d d' i i' (set_numbers s ++ (set_numbers u ++ set_numbers v)) (set_numbers s' ++ (set_numbers u' ++ set_numbers v')) same in
    let one = set_split s s' (set_numbers u ++ set_numbers v) (set_numbers u' ++ set_numbers v') e.rest in
    let two = set_split u u' (set_numbers v) (set_numbers v') one.1 in
    rw (e.first, e.second, e.third, one.0, two.0, set_told v v' two.1) refl
told_apart (Edge c d i s u v) (NotEnd c' d' i' s') hv hw same = cc
told_apart (Edge c d i s u v) (Detect c' d' i' s') hv hw same = cc
told_apart (NotEnd c d i s) (Pair c' a b k) hv hw same = cc
told_apart (NotEnd c d i s) (Triple p x y z) hv hw same = cc
told_apart (NotEnd c d i s) (Overload c' s') hv hw same = cc
told_apart (NotEnd c d i s) (Edge c' d' i' s' u' v') hv hw same = cc
told_apart (NotEnd c d i s) (NotEnd c' d' i' s') hv hw same =
    let e = same_front 4 c c' d d' i i' (set_numbers s) (set_numbers s') same in rw (e.first, e.second, e.third, set_told s s' e.rest) refl
told_apart (NotEnd c d i s) (Detect c' d' i' s') hv hw same = cc
told_apart (Detect c d i s) (Pair c' a b k) hv hw same = cc
told_apart (Detect c d i s) (Triple p x y z) hv hw same = cc
told_apart (Detect c d i s) (Overload c' s') hv hw same = cc
told_apart (Detect c d i s) (Edge c' d' i' s' u' v') hv hw same = cc
told_apart (Detect c d i s) (NotEnd c' d' i' s') hv hw same = cc
told_apart (Detect c d i s) (Detect c' d' i' s') hv hw same =
    let e = same_front 5 c c' d d' i i' (set_numbers s) (set_numbers s') same in rw (e.first, e.second, e.third, set_told s s' e.rest) refl

pub refuting_valid : (m : Data) (l : Seen) (w : SeqWitness) → IsTrue (refutes m l w) → IsTrue (is_valid w)
refuting_valid m l w h = (both_true (is_valid w) (row_of m l w) h).0
