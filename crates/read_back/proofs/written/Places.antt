-- The places of the items that fail a test, as some places name them in their order.
use Rattle.std.proofs.Common.{◌≡◌, ℕ, zero, suc, ◌+◌, ◌<◌, Bool, true, false, not, cond, List, [], ◌∷◌, ◌++◌, map, take, length, slice_get, Some, nat_lt, nat_le, refl, sym, ap, ◌∙◌, arith}
use Rattle.std.specs.List.{filter, count_by, list_all}
use Rattle.std.proofs.lemmas.Bool.Decides.{nat_tests}
use Rattle.std.proofs.lemmas.List.{map-append, take-append-le, append-nil}
use Rattle.std.proofs.lemmas.List.Elements.{filter-append}
use Rattle.std.proofs.lemmas.List.Sums.{length-filter, sum_by-cons}
use Rattle.std.proofs.Math.Seq.{take-append_seam}
use Rattle.std.proofs.lemmas.Bool.{and_parts}
use Rattle.base_laws.specs.laws.Kept.{filter_yes, filter_no, count_yes}
use Rattle.base_laws.specs.laws.Places.{same_item}
use Rattle.sched_model.specs.Words.{passes}
use Rattle.cpo_elab.specs.NamedFirst.{new_place}
use Rattle.cpo_elab.specs.lemmas.Parted.{place_yes, place_no}
use Rattle.read_back.specs.Written.{places, from_place}

-- no item that passes stands at the place
abbrev pub is_other : {X : Type 0} → (X → Bool) → List X → ℕ → Bool
is_other first xs i = not (passes first (slice_get xs i))

-- how many that fail stand before the place
abbrev pub rank : {X : Type 0} → (X → Bool) → List X → ℕ → ℕ
rank first xs i = count_by (λ x. not (first x)) (take i xs)

-- the others among some places, each by its number among those that fail
abbrev pub ranks : {X : Type 0} → (X → Bool) → List X → List ℕ → List ℕ
ranks first xs is = map (rank first xs) (filter (is_other first xs) is)

-- they are all that fail, in their order
abbrev pub Counted : {X : Type 0} → (X → Bool) → List X → List ℕ → Type 0
Counted first xs is = ranks first xs is ≡ places 0 (filter (λ x. not (first x)) xs)

abbrev pub are_within : {X : Type 0} → List X → List ℕ → Bool
are_within xs is = list_all (λ i. nat_lt i (length xs)) is

-- one item more

last_item : {X : Type 0} (xs : List X) (x : X) → slice_get (xs ++ x ∷ []) (length xs) ≡ Some x
last_item [] x = refl
last_item (y ∷ ys) x = last_item ys x

same_rank : {X : Type 0} (first : X → Bool) (xs ys : List X) (i : ℕ) → nat_lt i (length xs) ≡ true → rank first (xs ++ ys) i ≡ rank first xs i
same_rank first xs ys i within = ap (count_by (λ x. not (first x))) (take-append-le i xs ys (grind (arith, nat_tests)))

one_rank : (f g : ℕ → ℕ) (i : ℕ) (is js : List ℕ) (b : Bool) → f i ≡ g i → map f is ≡ map g js → map f (cond b (i ∷ is) is) ≡ map g (cond b (i ∷ js) js)
one_rank f g i is js true one rest = λ j. one j ∷ rest j
one_rank f g i is js false one rest = rest

same_ranks : {X : Type 0} (first : X → Bool) (xs ys : List X) (is : List ℕ) → are_within xs is ≡ true → ranks first (xs ++ ys) is ≡ ranks first xs is
same_ranks first xs ys [] within = refl
same_ranks first xs ys (i ∷ is) within =
    let parts = and_parts (nat_lt i (length xs)) (are_within xs is) within in
    ap (λ b. map (rank first (xs ++ ys)) (cond b (i ∷ filter (is_other first (xs ++ ys)) is) (filter (is_other first (xs ++ ys)) is))) (ap (λ o. not (passes first o)) (same_item xs ys i parts.0))
    ∙ one_rank (rank first (xs ++ ys)) (rank first xs) i (filter (is_other first (xs ++ ys)) is) (filter (is_other first xs) is) (is_other first xs i) (same_rank first xs ys i parts.0) (same_ranks first xs ys is parts.1)

more_ranks : {X : Type 0} (first : X → Bool) (xs : List X) (is js : List ℕ) → ranks first xs (is ++ js) ≡ ranks first xs is ++ ranks first xs js
more_ranks first xs is js = ap (map (rank first xs)) (filter-append (is_other first xs) is js) ∙ map-append (rank first xs) (filter (is_other first xs) is) (filter (is_other first xs) js)

places_push : {X : Type 0} (n : ℕ) (xs : List X) (x : X) → places n (xs ++ x ∷ []) ≡ places n xs ++ (n + length xs) ∷ []
places_push n [] x = ap (λ k. k ∷ []) (none_more n) where
  none_more : (n : ℕ) → n ≡ n + 0
  none_more n = omega arith
places_push n (y ∷ ys) x = ap (λ ks. n ∷ ks) (places_push (n + 1) ys x ∙ ap (λ k. places (n + 1) ys ++ k ∷ []) (one_more n (length ys))) where
  one_more : (n k : ℕ) → n + 1 + k ≡ n + suc k
  one_more n k = omega arith

-- the places of items that pass say nothing

no_ranks : {X : Type 0} (first : X → Bool) (xs : List X) (js : List ℕ) → list_all (λ j. passes first (slice_get xs j)) js ≡ true → filter (is_other first xs) js ≡ []
no_ranks first xs [] passing = refl
no_ranks first xs (j ∷ js) passing =
    let parts = and_parts (passes first (slice_get xs j)) (list_all (λ j. passes first (slice_get xs j)) js) passing in
    filter_no (is_other first xs) j js (ap not parts.0) ∙ no_ranks first xs js parts.1

pub counted_passing : {X : Type 0} (first : X → Bool) (xs : List X) (is js : List ℕ) → list_all (λ j. passes first (slice_get xs j)) js ≡ true → Counted first xs is → Counted first xs (is ++ js)
counted_passing first xs is js passing before =
    more_ranks first xs is js
    ∙ ap (λ ks. ranks first xs is ++ map (rank first xs) ks) (no_ranks first xs js passing)
    ∙ append-nil (ranks first xs is)
    ∙ before

-- one more item that passes
pub counted_push : {X : Type 0} (first : X → Bool) (xs : List X) (x : X) (is : List ℕ) → first x ≡ true → are_within xs is ≡ true → Counted first xs is → Counted first (xs ++ x ∷ []) is
counted_push first xs x is holds within before =
    same_ranks first xs (x ∷ []) is within
    ∙ before
    ∙ sym (ap (places 0) (filter-append (λ y. not (first y)) xs (x ∷ []) ∙ ap (λ ys. filter (λ y. not (first y)) xs ++ ys) (filter_no (λ y. not (first y)) x [] (ap not holds)) ∙ append-nil (filter (λ y. not (first y)) xs)))

-- one more item that fails, and its place
pub counted_other : {X : Type 0} (first : X → Bool) (xs : List X) (x : X) (is : List ℕ) → first x ≡ false → are_within xs is ≡ true → Counted first xs is → Counted first (xs ++ x ∷ []) (is ++ length xs ∷ [])
counted_other first xs x is fails within before =
    let other : is_other first (xs ++ x ∷ []) (length xs) ≡ true = ap (λ o. not (passes first o)) (last_item xs x) ∙ ap not fails in
    let here : rank first (xs ++ x ∷ []) (length xs) ≡ 0 + length (filter (λ y. not (first y)) xs) =
    ap (count_by (λ y. not (first y))) (take-append_seam xs (x ∷ [])) ∙ sym (length-filter (λ y. not (first y)) xs) ∙ none_more (length (filter (λ y. not (first y)) xs)) in
    more_ranks first (xs ++ x ∷ []) is (length xs ∷ [])
    ∙ (λ j. same_ranks first xs (x ∷ []) is within j ++ map (rank first (xs ++ x ∷ [])) (filter_yes (is_other first (xs ++ x ∷ [])) (length xs) [] other j))
    ∙ (λ j. before j ++ here j ∷ [])
    ∙ sym (places_push 0 (filter (λ y. not (first y)) xs) x)
    ∙ sym (ap (places 0) (filter-append (λ y. not (first y)) xs (x ∷ []) ∙ ap (λ ys. filter (λ y. not (first y)) xs ++ ys) (filter_yes (λ y. not (first y)) x [] (ap not fails)))) where
      none_more : (n : ℕ) → n ≡ 0 + n
      none_more n = omega arith

-- the new places

below : {X : Type 0} (first : X → Bool) (xs : List X) (i : ℕ) → passes first (slice_get xs i) ≡ true → count_by first (take i xs) < count_by first xs
below first [] i holds = cc holds
below first (x ∷ xs) zero holds = let one = count_yes first x xs holds in omega (arith, one)
below first (x ∷ xs) (suc i) holds =
    let rest = below first xs i holds in
    let one = sum_by-cons (λ y. cond (first y) 1 0) x xs in
    let other = sum_by-cons (λ y. cond (first y) 1 0) x (take i xs) in
    omega (arith, one, other, rest)

under : (c n : ℕ) → n < c → nat_le c n ≡ false
under c n h = grind (arith, nat_tests)

over : (c n : ℕ) → nat_le c (c + n) ≡ true
over c n = grind (arith, nat_tests)

placed_one : {X : Type 0} (first : X → Bool) (xs : List X) (i : ℕ) (is js : List ℕ) (b : Bool) → passes first (slice_get xs i) ≡ b
    → from_place (count_by first xs) js ≡ map (λ r. count_by first xs + r) (map (rank first xs) is)
    → from_place (count_by first xs) (new_place first xs i ∷ js) ≡ map (λ r. count_by first xs + r) (map (rank first xs) (cond (not b) (i ∷ is) is))
placed_one first xs i is js true holds rest =
    ap (λ k. from_place (count_by first xs) (k ∷ js)) (place_yes first xs i holds)
    ∙ filter_no (nat_le (count_by first xs)) (count_by first (take i xs)) js (under (count_by first xs) (count_by first (take i xs)) (below first xs i holds))
    ∙ rest
placed_one first xs i is js false fails rest =
    ap (λ k. from_place (count_by first xs) (k ∷ js)) (place_no first xs i fails)
    ∙ filter_yes (nat_le (count_by first xs)) (count_by first xs + rank first xs i) js (over (count_by first xs) (rank first xs i))
    ∙ ap (λ ks. (count_by first xs + rank first xs i) ∷ ks) rest

placed : {X : Type 0} (first : X → Bool) (xs : List X) (is : List ℕ) → from_place (count_by first xs) (map (new_place first xs) is) ≡ map (λ r. count_by first xs + r) (ranks first xs is)
placed first xs [] = refl
placed first xs (i ∷ is) = placed_one first xs i (filter (is_other first xs) is) (map (new_place first xs) is) (passes first (slice_get xs i)) refl (placed first xs is)

places_from : {X : Type 0} (c n : ℕ) (xs : List X) → map (λ r. c + r) (places n xs) ≡ places (c + n) xs
places_from c n [] = refl
places_from c n (x ∷ xs) = ap (λ ks. (c + n) ∷ ks) (places_from c (n + 1) xs ∙ ap (λ k. places k xs) (regroup c n)) where
  regroup : (c n : ℕ) → c + (n + 1) ≡ c + n + 1
  regroup c n = omega arith

-- where those that pass get the first places, the others get the places behind them, in the order in which they are named
pub counted_places : {X : Type 0} (first : X → Bool) (xs : List X) (is : List ℕ) → Counted first xs is
    → from_place (count_by first xs) (map (new_place first xs) is) ≡ places (count_by first xs) (filter (λ x. not (first x)) xs)
counted_places first xs is counted =
    placed first xs is
    ∙ ap (map (λ r. count_by first xs + r)) counted
    ∙ places_from (count_by first xs) 0 (filter (λ x. not (first x)) xs)
    ∙ ap (λ k. places k (filter (λ x. not (first x)) xs)) (none_more (count_by first xs)) where
      none_more : (n : ℕ) → n + 0 ≡ n
      none_more n = omega arith
