-- Sorting moves items, and loses none.
use Rattle.std.specs.Prelude.{◌≡◌, ℕ, ◌<◌, Bool, true, false, nat_eq, if◌then◌else◌, List, [], ◌∷◌, length}
use Rattle.std.specs.List.{swap}
use Rattle.std.specs.List.Sorted.{IsPermutation}
use Rattle.std.proofs.Common.{refl, sym, ap, subst, ◌∙◌, arith, get_or, set, inl, inr}
use Rattle.std.proofs.lemmas.Bool.{cases_eq}
use Rattle.std.proofs.lemmas.Bool.Decides.{nat_tests}
use Rattle.std.proofs.lemmas.List.{get_or_default, get_or-set_same, get_or-set_other, length-set}
use Rattle.std.proofs.lemmas.List.Sorted.{IsPermutation-keeps}
use Rattle.prop_sets.specs.code.Reordered.{IsReordered}

-- two places exchanged
abbrev turned : ℕ → ℕ → ℕ → ℕ
turned i j k = if nat_eq k i then j else (if nat_eq k j then i else k)

first_turned : (i j k : ℕ) → k ≡ i → turned i j k ≡ j
first_turned i j k h = grind (arith, nat_tests)

second_turned : (i j k : ℕ) → k ≡ j → turned i j k ≡ i
second_turned i j k h = grind (arith, nat_tests)

others_stay : (i j k : ℕ) → (k ≡ i → ⊥) → (k ≡ j → ⊥) → turned i j k ≡ k
others_stay i j k a b = by_case (nat_eq k i) (nat_eq k j) refl refl
  where
    same : (p q : ℕ) → nat_eq p q ≡ true → p ≡ q
    same p q h = grind (arith, nat_tests)

    by_case : (b c : Bool) → nat_eq k i ≡ b → nat_eq k j ≡ c → (if b then j else (if c then i else k)) ≡ k
    by_case true c e f = absurd (a (same k i e))
    by_case false true e f = absurd (b (same k j f))
    by_case false false e f = refl

turned_low : (i j k n : ℕ) → i < n → j < n → k < n → turned i j k < n
turned_low i j k n a b h = by_case (nat_eq k i) (nat_eq k j)
  where
    by_case : (b c : Bool) → (if b then j else (if c then i else k)) < n
    by_case true c = b
    by_case false true = a
    by_case false false = h

turned_twice : (i j k : ℕ) → turned i j (turned i j k) ≡ k
turned_twice i j k = grind (arith, nat_tests)

swap_at : {X : Type 0} (l : List X) (i j k : ℕ) (d : X) → i < length l → j < length l → k < length l → get_or (swap l i j) k d ≡ get_or l (turned i j k) d
swap_at [] i j k d a b h = absurd (omega (arith, h))
swap_at {X = X} (c ∷ cs) i j k d a b h = elim (cases_eq k j) [
  | inl last ↦ ap (λ n. get_or (set once j (get_or l i c)) n d) last ∙ get_or-set_same once j (get_or l i c) d (subst (λ n. j < n) (sym size) b) ∙ get_or_default l i c d a ∙ sym (ap (λ n. get_or l n d) (second_turned i j k last))
  | inr other ↦ get_or-set_other once j k (get_or l i c) d other ∙ elim (cases_eq k i) [
    | inl first ↦ ap (λ n. get_or once n d) first ∙ get_or-set_same l i (get_or l j c) d a ∙ get_or_default l j c d b ∙ sym (ap (λ n. get_or l n d) (first_turned i j k first))
    | inr neither ↦ get_or-set_other l i k (get_or l j c) d neither ∙ sym (ap (λ n. get_or l n d) (others_stay i j k neither other))
  ]
]
  where
    l : List X
    l = c ∷ cs

    once : List X
    once = set l i (get_or l j c)

    size : length once ≡ length l
    size = length-set l i (get_or l j c)

swap_size : {X : Type 0} (l : List X) (i j : ℕ) → length (swap l i j) ≡ length l
swap_size [] i j = refl
swap_size (d ∷ l) i j = length-set (set (d ∷ l) i (get_or (d ∷ l) j d)) j (get_or (d ∷ l) i d) ∙ length-set (d ∷ l) i (get_or (d ∷ l) j d)

unmoved : {X : Type 0} (xs : List X) → IsReordered xs xs
unmoved xs = record { size = refl; to = λ k. k; back = λ k. k; low = λ k h. h; at = λ k d h. refl; there = λ k h. h; found = λ k h. refl; same = λ k h. refl }

one_moved : {X : Type 0} (xs ys : List X) (i j : ℕ) → i < length ys → j < length ys → IsReordered xs ys → IsReordered xs (swap ys i j)
one_moved xs ys i j a b h = record {
  size = swap_size ys i j ∙ h.size;
  to = λ k. h.to (turned i j k);
  back = λ k. turned i j (h.back k);
  low = λ k in_new. h.low (turned i j k) (turned_low i j k (length ys) a b (old k in_new));
  at = λ k d in_new. swap_at ys i j k d a b (old k in_new) ∙ h.at (turned i j k) d (turned_low i j k (length ys) a b (old k in_new));
  there = λ k in_xs. new' (turned i j (h.back k)) (turned_low i j (h.back k) (length ys) a b (h.there k in_xs));
  found = λ k in_xs. ap h.to (turned_twice i j (h.back k)) ∙ h.found k in_xs;
  same = λ k in_new. ap (turned i j) (h.same (turned i j k) (turned_low i j k (length ys) a b (old k in_new))) ∙ turned_twice i j k;
}
  where
    old : (k : ℕ) → k < length (swap ys i j) → k < length ys
    old k in_new = subst (λ n. k < n) (swap_size ys i j) in_new

    new' : (k : ℕ) → k < length ys → k < length (swap ys i j)
    new' k in_old = subst (λ n. k < n) (sym (swap_size ys i j)) in_old

pub reordered : {X : Type 0} (xs ys : List X) → IsPermutation xs ys → IsReordered xs ys
reordered xs ys moved = IsPermutation-keeps xs (λ zs. IsReordered xs zs) (unmoved xs) (λ l i j in_i in_j h. one_moved xs l i j in_i in_j h) ys moved
