-- From where to where an interval stands.
use Rattle.std.specs.Prelude.{◌≡◌, ℕ, ◌+◌, ◌-◌, ◌<◌, ◌≤◌, ◌^◌, Bool, true, false, List, length, nat_lt, nat_le}
use Rattle.std.specs.List.{Contains, prefix_len}
use Rattle.std.specs.List.Sorted.{IsNonDecreasingBy}
use Rattle.std.proofs.Common.{refl, sym, ap, subst, ◌∙◌, arith, get_or, take, drop}
use Rattle.std.proofs.lemmas.Bool.Decides.{nat_tests}
use Rattle.std.proofs.lemmas.List.{get_or-drop, take_rest, length-drop}
use Rattle.std.proofs.lemmas.List.Sums.{prefix_len-le-length, prefix_len_passes, prefix_len_stops}
use Rattle.sched_base.specs.declared.ids.Itv.{Itv}
use Rattle.hull_tree.specs.declared.atoms.Atom.{Atom}
use Rattle.hull_tree.specs.declared.nodes.Span.{Span}
use Rattle.hull_tree.specs.declared.reach.Reach.{Reach}
use Rattle.hull_tree.specs.code.Atoms.{atom_at, key_at, key_of, HasReach, IsClear}
use Rattle.hull_tree.proofs.Found.{IsPoint, not_before, default}

pub clear_before : (ats : List Atom) (r : Reach) (s : Span) → HasReach ats r → s.last < 2 ^ 32 → s.last < r.first → IsClear ats r.interval s
clear_before ats r s reach most apart i from to there = let within = reach i (omega (arith, to, most)) there in absurd (omega (arith, within.0, to, apart))

pub clear_behind : (ats : List Atom) (r : Reach) (s : Span) → HasReach ats r → s.last < 2 ^ 32 → r.last < s.first → IsClear ats r.interval s
clear_behind ats r s reach most apart i from to there = let within = reach i (omega (arith, to, most)) there in absurd (omega (arith, within.1, from, apart))

below : (a b : ℕ) → nat_lt a b ≡ true → a < b
below a b h = grind (arith, nat_tests)

not_below : (a b : ℕ) → nat_lt a b ≡ false → b ≤ a
not_below a b h = grind (arith, nat_tests)

at_most : (a b : ℕ) → nat_le a b ≡ true → a ≤ b
at_most a b h = grind (arith, nat_tests)

above : (a b : ℕ) → nat_le a b ≡ false → b < a
above a b h = grind (arith, nat_tests)

-- none of the first k atoms is the interval's, and n of those that follow have no key above its last
pub record AreCounted (ats : List Atom) (x : Itv) (k n : ℕ) : Type 0 where
  pub rising : IsNonDecreasingBy key_of ats
  pub point : IsPoint ats (key_at x 0) k
  pub counted : n ≡ prefix_len (λ a. nat_le (key_of a) (key_at x (2 ^ 32 - 1))) (drop k ats)

pub are_counted : (ats : List Atom) (x : Itv) (f m k n : ℕ) → IsNonDecreasingBy key_of ats → f ≡ key_at x 0 → m ≡ key_at x (2 ^ 32 - 1) → IsPoint ats f k
    → n ≡ prefix_len (λ a. nat_le (key_of a) m) (take (length ats - k) (drop k ats)) → AreCounted ats x k n
are_counted ats x f m k n rising f_is m_is point counted = record {
  rising = rising;
  point = subst (λ g. IsPoint ats g k) f_is point;
  counted = counted ∙ ap (λ bs. prefix_len (λ a. nat_le (key_of a) m) bs) (take_rest ats k) ∙ ap (λ g. prefix_len (λ a. nat_le (key_of a) g) (drop k ats)) m_is;
}

key_there : (ats : List Atom) (x : Itv) (i : ℕ) (d : Atom) (there : Contains ats (atom_at x i)) → key_of (get_or ats there.0 d) ≡ key_at x i
key_there ats x i d there = ap key_of (default ats there.0 d (atom_at x i) there.1 ∙ there.2)

-- an atom of the interval is one of the n
from_first : (ats : List Atom) (x : Itv) (k n i : ℕ) → AreCounted ats x k n → (there : Contains ats (atom_at x i)) → k ≤ there.0
from_first ats x k n i counted there = not_before ats x 0 (key_at x 0) k i there.0 refl counted.point (omega arith) there.2

to_last : (ats : List Atom) (x : Itv) (k n i : ℕ) → AreCounted ats x k n → i < 2 ^ 32 → (there : Contains ats (atom_at x i)) → there.0 < k + n
to_last ats x k n i counted small there = decided (nat_lt there.0 (k + n)) refl
  where
    passes : Atom → Bool
    passes a = nat_le (key_of a) (key_at x (2 ^ 32 - 1))

    beyond : k + n ≤ there.0 → key_at x (2 ^ 32 - 1) < key_of (get_or ats (k + n) (atom_at x i))
    beyond late =
        let within : prefix_len passes (drop k ats) < length (drop k ats) = let most = there.1 in omega (arith, late, most, counted.counted, length-drop k ats) in
        let fails : passes (get_or (drop k ats) n (atom_at x i)) ≡ false = subst (λ m. passes (get_or (drop k ats) m (atom_at x i)) ≡ false) (sym counted.counted) (prefix_len_stops passes (drop k ats) (atom_at x i) within) in
        above (key_of (get_or ats (k + n) (atom_at x i))) (key_at x (2 ^ 32 - 1)) (ap passes (sym (get_or-drop k ats n (atom_at x i))) ∙ fails)

    decided : (b : Bool) → nat_lt there.0 (k + n) ≡ b → there.0 < k + n
    decided true h = below there.0 (k + n) h
    decided false h =
        let late : k + n ≤ there.0 = not_below there.0 (k + n) h in
        let less : key_at x (2 ^ 32 - 1) < key_of (get_or ats (k + n) (atom_at x i)) = beyond late in
        let rises = counted.rising (k + n) there.0 (atom_at x i) late there.1 in
        let same = key_there ats x i (atom_at x i) there in
        absurd (omega (arith, less, rises, same, small))

pub none_counted : (ats : List Atom) (x : Itv) (k n i : ℕ) → AreCounted ats x k n → n ≡ 0 → i < 2 ^ 32 → Contains ats (atom_at x i) → ⊥
none_counted ats x k n i counted none small there = let first = from_first ats x k n i counted there in let last = to_last ats x k n i counted small there in absurd (omega (arith, first, last, none))

-- the place of the first of the n is that of the interval's first atom, and the place of the last that of its last
first_place : (ats : List Atom) (x : Itv) (k n i : ℕ) (d : Atom) → AreCounted ats x k n → i < 2 ^ 32 → (get_or ats k d).place < 2 ^ 32 → Contains ats (atom_at x i) → (get_or ats k d).place ≤ i
first_place ats x k n i d counted small fits there =
    let first = from_first ats x k n i counted there in
    let most = there.1 in
    let rises = counted.rising k there.0 d first most in
    let same = key_there ats x i d there in
    let from : key_at x 0 ≤ key_of (get_or ats k d) = not_below (key_of (get_or ats k d)) (key_at x 0) (counted.point.1 k d (omega arith) (omega (arith, first, most))) in
    omega (arith, rises, same, from, small, fits)

last_place : (ats : List Atom) (x : Itv) (k n i : ℕ) (d : Atom) → AreCounted ats x k n → i < 2 ^ 32 → Contains ats (atom_at x i) → i ≤ (get_or ats (k + (n - 1)) d).place
last_place ats x k n i d counted small there =
    let first = from_first ats x k n i counted there in
    let last = to_last ats x k n i counted small there in
    let most : n ≤ length ats - k = omega (arith, counted.counted, prefix_len-le-length passes (drop k ats), length-drop k ats) in
    let rises : key_of (get_or ats there.0 d) ≤ key_of (get_or ats (k + (n - 1)) d) = counted.rising there.0 (k + (n - 1)) d (omega (arith, first, last)) (omega (arith, first, last, most)) in
    let same = key_there ats x i d there in
    let passed : passes (get_or (drop k ats) (n - 1) d) ≡ true = prefix_len_passes passes (drop k ats) (n - 1) d (omega (arith, counted.counted, first, last)) in
    let to : key_of (get_or ats (k + (n - 1)) d) ≤ key_at x (2 ^ 32 - 1) = at_most (key_of (get_or ats (k + (n - 1)) d)) (key_at x (2 ^ 32 - 1)) (ap passes (sym (get_or-drop k ats (n - 1) d)) ∙ passed) in
    omega (arith, rises, same, to, small)
  where
    passes : Atom → Bool
    passes a = nat_le (key_of a) (key_at x (2 ^ 32 - 1))

rest_at : (ats : List Atom) (k j : ℕ) (d : Atom) → get_or (take (length ats - k) (drop k ats)) j d ≡ get_or ats (k + j) d
rest_at ats k j d = ap (λ bs. get_or bs j d) (take_rest ats k) ∙ get_or-drop k ats j d

pub reach_counted : (ats : List Atom) (x : Itv) (k n : ℕ) (d : Atom) (r : Reach) → AreCounted ats x k n
    → r ≡ record { interval = x; first = (get_or (take (length ats - k) (drop k ats)) 0 d).place; last = (get_or (take (length ats - k) (drop k ats)) (n - 1) d).place } → r.first < 2 ^ 32 → HasReach ats r
reach_counted ats x k n d r counted is fits = subst (HasReach ats) (sym whole) (λ i small there.
    (first_place ats x k n i d counted small (subst (λ b. b.first < 2 ^ 32) whole fits) there, last_place ats x k n i d counted small there))
  where
    no_more : (k : ℕ) → k + 0 ≡ k
    no_more k = omega arith

    whole : r ≡ record { interval = x; first = (get_or ats k d).place; last = (get_or ats (k + (n - 1)) d).place }
    whole = is ∙ ap (λ b. record { interval = x; first = b.place; last = (get_or (take (length ats - k) (drop k ats)) (n - 1) d).place }) (rest_at ats k 0 d ∙ ap (λ j. get_or ats j d) (no_more k))
        ∙ ap (λ b. record { interval = x; first = (get_or ats k d).place; last = b.place }) (rest_at ats k (n - 1) d)
