-- The numbers of sets: how many they are, that they are small, and that they tell the sets.
use Rattle.std.specs.Prelude.{◌≡◌, ℕ, ◌+◌, ℤ, pos, true, List, [], ◌∷◌, ◌++◌, length, map, nat_lt}
use Rattle.std.specs.List.{list_all}
use Rattle.std.proofs.Common.{refl, subst, arith}
use Rattle.std.proofs.lemmas.List.{length-map, append-nil}
use Rattle.std.proofs.lemmas.Bool.Decides.{nat_tests}
use Rattle.base_laws.specs.laws.Lists.{same_lists}
use Rattle.sched_model.specs.Words.{adjacent}
use Rattle.sched_model.specs.Bounds.{is_number}
use Rattle.region.specs.code.Spelled.{AreSmall}
use Rattle.region.specs.laws.Lists.{both_true}
use Rattle.region.specs.laws.Spelled.{no_more, one_more}
use Rattle.refute_seq.specs.Witness.{set_numbers, is_number_set}

pub set_count : (s : List ℕ) → length (set_numbers s) ≡ 1 + length s
set_count s = omega (arith, length-map s (λ n. pos n))

-- small numbers
members_small : (s : List ℕ) (rest : List ℤ) → list_all is_number s ≡ true → AreSmall rest → AreSmall (map (λ n. pos n) s ++ rest)
members_small [] rest all small = small
members_small (n ∷ s) rest all small = let two = both_true (is_number n) (list_all is_number s) all in one_more n (map (λ k. pos k) s ++ rest) two.0 (members_small s rest two.1 small)

pub fewer : (k n : ℕ) → is_number (k + n) ≡ true → is_number n ≡ true
fewer k n h = grind (arith, nat_tests)

pub set_small : (s : List ℕ) (rest : List ℤ) → is_number_set s ≡ true → is_number (length s) ≡ true → AreSmall rest → AreSmall (set_numbers s ++ rest)
set_small s rest set few small = one_more (length s) (map (λ n. pos n) s ++ rest) few (members_small s rest (both_true (adjacent nat_lt s) (list_all is_number s) set).1 small)

pub only_small : (s : List ℕ) → is_number_set s ≡ true → is_number (length s) ≡ true → AreSmall (set_numbers s)
only_small s set few = subst (λ zs. AreSmall zs) (append-nil (set_numbers s)) (set_small s [] set few no_more)

-- which sets they are
same_first : (n k : ℕ) (zs ys : List ℤ) → pos n ∷ zs ≡ pos k ∷ ys → n ≡ k
same_first n k zs ys same = cc

pub same_rest : (n k : ℕ) (zs ys : List ℤ) → pos n ∷ zs ≡ pos k ∷ ys → zs ≡ ys
same_rest n k zs ys same = cc

members_split : (s t : List ℕ) (r q : List ℤ) → length s ≡ length t → map (λ n. pos n) s ++ r ≡ map (λ n. pos n) t ++ q → (s ≡ t) × (r ≡ q)
members_split [] [] r q size same = (refl, same)
members_split [] (k ∷ t) r q size same = absurd (omega (arith, size))
members_split (n ∷ s) [] r q size same = absurd (omega (arith, size))
members_split (n ∷ s) (k ∷ t) r q size same =
    let rest = members_split s t r q (omega (arith, size)) (same_rest n k (map (λ i. pos i) s ++ r) (map (λ i. pos i) t ++ q) same) in
    (same_lists n k s t (same_first n k (map (λ i. pos i) s ++ r) (map (λ i. pos i) t ++ q) same) rest.0, rest.1)

pub set_split : (s t : List ℕ) (r q : List ℤ) → set_numbers s ++ r ≡ set_numbers t ++ q → (s ≡ t) × (r ≡ q)
set_split s t r q same =
    members_split s t r q (same_first (length s) (length t) (map (λ n. pos n) s ++ r) (map (λ n. pos n) t ++ q) same)
    (same_rest (length s) (length t) (map (λ n. pos n) s ++ r) (map (λ n. pos n) t ++ q) same)

pub members_told : (s t : List ℕ) → map (λ n. pos n) s ≡ map (λ n. pos n) t → s ≡ t
members_told [] [] same = refl
members_told [] (k ∷ t) same = cc
members_told (n ∷ s) [] same = cc
members_told (n ∷ s) (k ∷ t) same = same_lists n k s t (same_first n k (map (λ i. pos i) s) (map (λ i. pos i) t) same) (members_told s t (same_rest n k (map (λ i. pos i) s) (map (λ i. pos i) t) same))

pub set_told : (s t : List ℕ) → set_numbers s ≡ set_numbers t → s ≡ t
set_told s t same = members_told s t (same_rest (length s) (length t) (map (λ n. pos n) s) (map (λ n. pos n) t) same)
