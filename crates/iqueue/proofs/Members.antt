-- Lists of distinct numbers below a bound.
use Rattle.std.proofs.Common.{◌≡◌, ℕ, ◌<◌, ◌≤◌, Bool, true, false, ◌||◌, List, [], ◌∷◌, ◌++◌, Some, length, nat_eq, refl, sym, ap, ◌∙◌, arith, slice_get}
use Rattle.std.proofs.lemmas.Bool.{eq-eqb, ne_eqb, eqb-true, eqb-false, or_parts}
use Rattle.std.proofs.lemmas.Map.Steps.{length-le_from_distinct_below}
use Rattle.std.specs.List.{IsDistinct, AllByRecursion, list_any}
use Rattle.iqueue.specs.code.Queue.{AreDistinctBelow, is_in, without}

pub apart_test : (k j : ℕ) (js : List ℕ) → is_in k (j ∷ js) ≡ false → (nat_eq k j ≡ false) × (is_in k js ≡ false)
apart_test k j js absent = or_parts (nat_eq k j) (is_in k js) absent

pub apart : (k j : ℕ) (js : List ℕ) → is_in k (j ∷ js) ≡ false → (k ≡ j → ⊥) × (is_in k js ≡ false)
apart k j js absent = let r = or_parts (nat_eq k j) (is_in k js) absent in (eqb-false k j r.0, r.1)

pub in_head : (k : ℕ) (js : List ℕ) → is_in k (k ∷ js) ≡ true
in_head k js = rw (eq-eqb k k refl) refl

pub in_tail : (j k : ℕ) (ks : List ℕ) → (j ≡ k → ⊥) → is_in j (k ∷ ks) ≡ is_in j ks
in_tail j k ks other = rw (ne_eqb j k other) refl

pub in_front : (j k : ℕ) (ks : List ℕ) → (j ≡ k → ⊥) → is_in j (ks ++ k ∷ []) ≡ is_in j ks
in_front j k [] other = in_tail j k [] other
in_front j k (a ∷ ks) other = ap (λ t. nat_eq j a || t) (in_front j k ks other)

pub distinct_end : (n k : ℕ) (ks : List ℕ) → AreDistinctBelow n ks → k < n → is_in k ks ≡ false → AreDistinctBelow n (ks ++ k ∷ [])
distinct_end n k [] are below absent = (below, refl, tt)
distinct_end n k (a ∷ ks) are below absent =
    let r = apart k a ks absent in
    (are.0, in_front a k ks (λ same. r.0 (sym same)) ∙ are.1, distinct_end n k ks are.2 below r.1)

-- no more than the bound
unlike : (k : ℕ) (ks : List ℕ) → is_in k ks ≡ false → AllByRecursion (λ j. nat_eq k j ≡ false) ks
unlike k [] absent = tt
unlike k (j ∷ js) absent = let r = or_parts (nat_eq k j) (is_in k js) absent in (r.0, unlike k js r.1)

distinct_std : (n : ℕ) (ks : List ℕ) → AreDistinctBelow n ks → IsDistinct nat_eq ks
unfolding IsDistinct
distinct_std n [] are = tt
distinct_std n (k ∷ ks) are = (unlike k ks are.1, distinct_std n ks are.2)

pub in_below : (n j : ℕ) (ks : List ℕ) → AreDistinctBelow n ks → is_in j ks ≡ true → j < n
in_below n j [] are found = cc
in_below n j (k ∷ ks) are found = decided (nat_eq j k) refl found (λ h. in_below n j ks are.2 h)
  where
    decided : (t : Bool) → nat_eq j k ≡ t → (t || is_in j ks) ≡ true → (is_in j ks ≡ true → j < n) → j < n
    decided true is h rest = omega (arith, eqb-true j k is, are.0)
    decided false is h rest = rest h

found_in : (q : ℕ) (ks : List ℕ) → list_any (nat_eq q) ks ≡ is_in q ks
found_in q [] = refl
found_in q (k ∷ ks) = ap (λ t. nat_eq q k || t) (found_in q ks)

pub at_most : (n : ℕ) (ks : List ℕ) → AreDistinctBelow n ks → length ks ≤ n
at_most n ks are = length-le_from_distinct_below ks n (distinct_std n ks are) (λ q found. in_below n q ks are (sym (found_in q ks) ∙ found))

pub in_append : (k : ℕ) (xs ys : List ℕ) → is_in k (xs ++ ys) ≡ (is_in k xs || is_in k ys)
in_append k [] ys = refl
in_append k (x ∷ xs) ys = ap (λ t. nat_eq k x || t) (in_append k xs ys) ∙ or_or (nat_eq k x) (is_in k xs) (is_in k ys)
  where
    or_or : (a b c : Bool) → (a || (b || c)) ≡ ((a || b) || c)
    or_or true b c = refl
    or_or false b c = refl

-- two runs of distinct numbers
pub distinct_front : (n : ℕ) (xs ys : List ℕ) → AreDistinctBelow n (xs ++ ys) → AreDistinctBelow n xs
distinct_front n [] ys are = tt
distinct_front n (x ∷ xs) ys are = (are.0, (or_parts (is_in x xs) (is_in x ys) (sym (in_append x xs ys) ∙ are.1)).0, distinct_front n xs ys are.2)

pub distinct_back : (n : ℕ) (xs ys : List ℕ) → AreDistinctBelow n (xs ++ ys) → AreDistinctBelow n ys
distinct_back n [] ys are = are
distinct_back n (x ∷ xs) ys are = distinct_back n xs ys are.2

-- a number of the first run isn't in the second
pub in_one : (n j : ℕ) (xs ys : List ℕ) → AreDistinctBelow n (xs ++ ys) → is_in j xs ≡ true → is_in j ys ≡ false
in_one n j [] ys are found = cc
in_one n j (x ∷ xs) ys are found = decided (nat_eq j x) refl found (λ h. in_one n j xs ys are.2 h)
  where
    decided : (t : Bool) → nat_eq j x ≡ t → (t || is_in j xs) ≡ true → (is_in j xs ≡ true → is_in j ys ≡ false) → is_in j ys ≡ false
    decided true is h rest = let same : j ≡ x = eqb-true j x is in rw same (or_parts (is_in x xs) (is_in x ys) (sym (in_append x xs ys) ∙ are.1)).1
    decided false is h rest = rest h

pub distinct_less : (n k : ℕ) (xs ys : List ℕ) → AreDistinctBelow n (xs ++ k ∷ ys) → AreDistinctBelow n (xs ++ ys)
distinct_less n k [] ys are = are.2
distinct_less n k (x ∷ xs) ys are =
    let gone = or_parts (is_in x xs) (is_in x (k ∷ ys)) (sym (in_append x xs (k ∷ ys)) ∙ are.1) in
    let r = or_parts (nat_eq x k) (is_in x ys) gone.1 in
    (are.0, in_append x xs ys ∙ rw (gone.0, r.1) refl, distinct_less n k xs ys are.2)

pub absent_less : (n k : ℕ) (xs ys : List ℕ) → AreDistinctBelow n (xs ++ k ∷ ys) → is_in k (xs ++ ys) ≡ false
absent_less n k [] ys are = are.1
absent_less n k (x ∷ xs) ys are =
    let gone = or_parts (is_in x xs) (is_in x (k ∷ ys)) (sym (in_append x xs (k ∷ ys)) ∙ are.1) in
    let r = or_parts (nat_eq x k) (is_in x ys) gone.1 in
    rw (ne_eqb k x (λ same. eqb-false x k r.0 (sym same))) (absent_less n k xs ys are.2)

pub in_less : (j k : ℕ) (xs ys : List ℕ) → (j ≡ k → ⊥) → is_in j (xs ++ k ∷ ys) ≡ is_in j (xs ++ ys)
in_less j k [] ys other = in_tail j k ys other
in_less j k (x ∷ xs) ys other = ap (λ t. nat_eq j x || t) (in_less j k xs ys other)

-- where a number stands
pub record Cut (k : ℕ) (ks : List ℕ) : Type 0 where
  pub front : List ℕ
  pub back : List ℕ
  pub whole : ks ≡ front ++ k ∷ back
  pub rest : without k ks ≡ front ++ back

pub cut : (k : ℕ) (ks : List ℕ) → is_in k ks ≡ true → Cut k ks
cut k [] found = cc
cut k (j ∷ js) found = decided (nat_eq k j) refl found (λ h. cut k js h)
  where
    decided : (t : Bool) → nat_eq k j ≡ t → (t || is_in k js) ≡ true → (is_in k js ≡ true → Cut k js) → Cut k (j ∷ js)
    decided true is h more = let same : k ≡ j = eqb-true k j is in record { front = []; back = js; whole = rw same refl; rest = rw is refl }
    decided false is h more = let c = more h in record { front = j ∷ c.front; back = c.back; whole = ap (λ ks. j ∷ ks) c.whole; rest = rw is (ap (λ ks. j ∷ ks) c.rest) }

-- the first number
pub first_below : (n k : ℕ) (ks : List ℕ) → AreDistinctBelow n ks → Some k ≡ slice_get ks 0 → k < n
first_below n k [] are is = cc
first_below n k (j ∷ js) are is = let same : k ≡ j = cc in rw same are.0

pub first_and_rest : (k : ℕ) (ks : List ℕ) → Some k ≡ slice_get ks 0 → ks ≡ k ∷ without k ks
first_and_rest k [] is = cc
first_and_rest k (j ∷ js) is = let same : k ≡ j = cc in rw (same, eq-eqb j j refl) refl

pub first_stays : (ks : List ℕ) (f k : ℕ) → slice_get ks 0 ≡ Some f → slice_get (ks ++ k ∷ []) 0 ≡ Some f
first_stays [] f k is = cc
first_stays (j ∷ js) f k is = is
