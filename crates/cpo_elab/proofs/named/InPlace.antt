-- Where the named sequences and functions stand first, a model keeps its numbers.
use Rattle.std.proofs.Common.{◌≡◌, ℕ, zero, suc, ◌+◌, Bool, true, false, not, cond, ◌||◌, List, [], ◌∷◌, ◌++◌, take, length, slice_get, nat_lt, refl, ap, ◌∙◌, arith}
use Rattle.std.specs.List.{count_by, list_all}
use Rattle.std.proofs.lemmas.Bool.Decides.{nat_tests}
use Rattle.std.proofs.lemmas.Bool.{and_parts, and_from, not-true}
use Rattle.base_laws.specs.laws.Numbers.{one_less, none_below_zero}
use Rattle.base_laws.specs.laws.Kept.{none_pass, all_pass, count_yes, count_no, filter_yes, filter_no}
use Rattle.sched_model.specs.Words.{passes, pairwise}
use Rattle.cpo_elab.specs.NamedFirst.{is_named_sequence, is_named_cumul, parted, new_place, sequence_place, cumul_place}
use Rattle.cpo_elab.specs.NamedFirstLaws.{is_parted, NothingMoves}
use Rattle.cpo_elab.proofs.named.Alike.{constraints_alike, constraints_same}
use Rattle.cpo_elab.specs.lemmas.Parted.{place_yes, place_no}

-- where none passes, and where all do

parted_more : {X : Type 0} (first : X → Bool) (x : X) (xs : List X) (b : Bool) → first x ≡ b → list_all (λ y. b || not (first y)) xs ≡ true → parted first xs ≡ xs → parted first (x ∷ xs) ≡ x ∷ xs
parted_more first x xs true holds after rest =
    (λ i. filter_yes first x xs holds i ++ filter_no (λ y. not (first y)) x xs (ap not holds) i) ∙ ap (λ ys. x ∷ ys) rest
parted_more first x xs false not-true after rest =
    (λ i. filter_no first x xs not-true i ++ filter_yes (λ y. not (first y)) x xs (ap not not-true) i)
    ∙ (λ i. none_pass first xs after i ++ x ∷ all_pass (λ y. not (first y)) xs after i)

pub parted_same : {X : Type 0} (first : X → Bool) (xs : List X) → is_parted first xs ≡ true → parted first xs ≡ xs
parted_same first [] h = refl
parted_same first (x ∷ xs) h =
    let parts = and_parts (list_all (λ y. first x || not (first y)) xs) (pairwise (λ y z. first y || not (first z)) xs) h in
    parted_more first x xs (first x) refl parts.0 (parted_same first xs parts.1)

-- the places

none_at : {X : Type 0} (p : X → Bool) (xs : List X) (i : ℕ) → list_all (λ x. not (p x)) xs ≡ true → passes p (slice_get xs i) ≡ false
none_at p [] i none = refl
none_at p (x ∷ xs) zero none = not-true (p x) (and_parts (not (p x)) _ none).0
none_at p (x ∷ xs) (suc i) none = none_at p xs i (and_parts (not (p x)) _ none).1

count_none : {X : Type 0} (p : X → Bool) (xs : List X) → list_all (λ x. not (p x)) xs ≡ true → count_by p xs ≡ 0
count_none p [] none = refl
count_none p (x ∷ xs) none = let parts = and_parts (not (p x)) _ none in count_no p x xs (not-true (p x) parts.0) ∙ count_none p xs parts.1

count_all : {X : Type 0} (p : X → Bool) (xs : List X) (i : ℕ) → list_all p xs ≡ true → nat_lt i (length xs) ≡ true → count_by p (take i xs) ≡ i
count_all p [] i all within = absurd (none_below_zero i within)
count_all p (x ∷ xs) zero all within = refl
count_all p (x ∷ xs) (suc i) all within =
    let parts = and_parts (p x) _ all in
    count_yes p x (take i xs) parts.0 ∙ ap (λ n. suc n) (count_all p xs i parts.1 (one_less i (length xs) within))

pull : (b : Bool) (n k j : ℕ) → cond b (suc n) (suc k + j) ≡ suc (cond b n (k + j))
pull true n k j = refl
pull false n k j = omega arith

place_more : {X : Type 0} (first : X → Bool) (x : X) (xs : List X) (i : ℕ) → first x ≡ true → new_place first (x ∷ xs) (suc i) ≡ suc (new_place first xs i)
place_more first x xs i holds =
    (λ j. cond (passes first (slice_get xs i)) (count_yes first x (take i xs) holds j) (count_yes first x xs holds j + count_no (λ y. not (first y)) x (take i xs) (ap not holds) j))
    ∙ pull (passes first (slice_get xs i)) (count_by first (take i xs)) (count_by first xs) (count_by (λ y. not (first y)) (take i xs))

place_none : {X : Type 0} (first : X → Bool) (xs : List X) (i : ℕ) → list_all (λ x. not (first x)) xs ≡ true → nat_lt i (length xs) ≡ true → new_place first xs i ≡ i
place_none first xs i none within =
    place_no first xs i (none_at first xs i none)
    ∙ (λ j. count_none first xs none j + count_all (λ x. not (first x)) xs i none within j)
    ∙ none_more i where
      none_more : (n : ℕ) → 0 + n ≡ n
      none_more n = omega arith

place_next : {X : Type 0} (first : X → Bool) (x : X) (xs : List X) (i : ℕ) (b : Bool) → first x ≡ b → list_all (λ y. b || not (first y)) xs ≡ true → nat_lt (suc i) (suc (length xs)) ≡ true
    → new_place first xs i ≡ i → new_place first (x ∷ xs) (suc i) ≡ suc i
place_next first x xs i true holds after within rest = place_more first x xs i holds ∙ ap (λ n. suc n) rest
place_next first x xs i false not-true after within rest = place_none first (x ∷ xs) (suc i) (and_from (not (first x)) _ (ap not not-true) after) within

place_first : {X : Type 0} (first : X → Bool) (x : X) (xs : List X) (b : Bool) → first x ≡ b → list_all (λ y. b || not (first y)) xs ≡ true → new_place first (x ∷ xs) 0 ≡ 0
place_first first x xs true holds after = place_yes first (x ∷ xs) 0 holds
place_first first x xs false not-true after = place_none first (x ∷ xs) 0 (and_from (not (first x)) _ (ap not not-true) after) (some (length xs)) where
  some : (n : ℕ) → nat_lt 0 (suc n) ≡ true
  some n = grind (arith, nat_tests)

place_same : {X : Type 0} (first : X → Bool) (xs : List X) (i : ℕ) → is_parted first xs ≡ true → nat_lt i (length xs) ≡ true → new_place first xs i ≡ i
place_same first [] i h within = absurd (none_below_zero i within)
place_same first (x ∷ xs) zero h within = place_first first x xs (first x) refl (and_parts (list_all (λ y. first x || not (first y)) xs) _ h).0
place_same first (x ∷ xs) (suc i) h within =
    let parts = and_parts (list_all (λ y. first x || not (first y)) xs) (pairwise (λ y z. first y || not (first z)) xs) h in
    place_next first x xs i (first x) refl parts.0 within (place_same first xs i parts.1 (one_less i (length xs) within))

-- the model

pub nothing_moves : NothingMoves
nothing_moves m valid seqs cums =
    let same = constraints_alike m (sequence_place m) (λ n. n) (cumul_place m) (λ n. n)
    (λ n there. place_same is_named_sequence m.sequences n seqs there) (λ n there. place_same is_named_cumul m.cumuls n cums there) m.constraints valid.constraints
    ∙ constraints_same m.constraints in
    λ i. record m {
      sequences = parted_same is_named_sequence m.sequences seqs i;
      cumuls = parted_same is_named_cumul m.cumuls cums i;
      constraints = same i;
    }
