-- Steps of the loops that go over sets.
use Rattle.std.specs.Prelude.{◌≡◌, ℕ, zero, suc, ◌+◌, ◌<◌, ◌≤◌, ℤ, pos, neg_ℤ, ◌+ℤ◌, ◌≤ℤ◌, Bool, true, false, ◌&&◌, List, [], ◌∷◌, drop, length, map, fold, nat_eq, nat_lt, slice_get, if◌then◌else◌}
use Rattle.std.specs.List.{list_all}
use Rattle.std.proofs.Common.{refl, sym, subst, ap, ◌∙◌, ◌||◌, inl, inr, arith, get_or}
use Rattle.std.proofs.lemmas.Int.{ints}
use Rattle.std.proofs.lemmas.List.{at_drop_more, at_drop_all}
use Rattle.std.proofs.lemmas.Bool.{true≢false, false_from_ne_true}
use Rattle.std.proofs.lemmas.Bool.Decides.{nat_tests}
use Rattle.base_laws.specs.laws.Numbers.{regroup}
use Rattle.sched_model.specs.Words.{adjacent, total, is_empty, passes}
use Rattle.region.specs.Looks.{is_shifted}
use Rattle.region.specs.laws.Lists.{both_true}
use Rattle.task_sets.specs.Times.{Times, has}
use Rattle.task_sets.specs.laws.Sums.{above_all, has_cases, has_later}
use Rattle.base_laws.specs.laws.Numbers.{regroup}

pub rises_end : (xs : List ℕ) (i : ℕ) → length xs ≤ i + 1 → adjacent nat_lt (drop i xs) ≡ true
rises_end [] zero past = refl
rises_end [] (suc i) past = refl
rises_end (x ∷ []) zero past = refl
rises_end (x ∷ y ∷ zs) zero past = absurd (omega (arith, past))
rises_end (x ∷ xs) (suc i) past = rises_end xs i (omega (arith, past))

-- the least or the greatest of what is read so far, and of the rest
abbrev pub folded : (ℤ → ℤ → ℤ) → (Times → ℤ) → (ℕ → Times) → ℤ → List ℕ → ℤ
folded op f d z xs = fold op z (map f (map d xs))

pub fold_step : (op : ℤ → ℤ → ℤ) (f : Times → ℤ) (d : ℕ → Times) (xs : List ℕ) (i : ℕ) (z z' whole : ℤ) → folded op f d z (drop i xs) ≡ whole → i < length xs → z' ≡ op z (f (d (get_or xs i 0))) → folded op f d z' (drop (i + 1) xs) ≡ whole
fold_step op f d xs i z z' whole before within is = ap (λ y. folded op f d y (drop (i + 1) xs)) is ∙ sym (at_drop_more (folded op f d z) xs i 0 within) ∙ before

-- what is summed so far, with the rest
abbrev pub summed : (ℕ → Times) → ℤ → List ℕ → ℤ
summed d z xs = z +ℤ total (map (λ i. i.p) (map d xs))

pub sum_step : (d : ℕ → Times) (xs : List ℕ) (i : ℕ) (z z' whole : ℤ) → summed d z (drop i xs) ≡ whole → i < length xs → z' ≡ z +ℤ (d (get_or xs i 0)).p → summed d z' (drop (i + 1) xs) ≡ whole
sum_step d xs i z z' whole before within is =
    ap (λ y. summed d y (drop (i + 1) xs)) is
    ∙ sym (regroup z (d (get_or xs i 0)).p (total (map (λ j. j.p) (map d (drop (i + 1) xs)))) (z +ℤ (d (get_or xs i 0)).p) refl)
    ∙ sym (at_drop_more (summed d z) xs i 0 within)
    ∙ before

sum_none : (z : ℤ) → z ≡ z +ℤ pos 0
sum_none z = omega (arith, ints)

pub sum_end : (d : ℕ → Times) (xs : List ℕ) (i : ℕ) (z whole : ℤ) → summed d z (drop i xs) ≡ whole → length xs ≤ i → z ≡ whole
sum_end d xs i z whole before end = sum_none z ∙ sym (at_drop_all (summed d z) xs i end) ∙ before

-- what is left of a part where a set is walked along
abbrev pub left : List ℕ → List ℕ → List ℕ
left [] ps = ps
left (x ∷ xs) [] = []
left (x ∷ xs) (p ∷ ps) = if nat_eq p x then left xs ps else left xs (p ∷ ps)

drop_more : (p : ℕ) (ps : List ℕ) (k : ℕ) → drop (k + 1) ps ≡ drop (suc k + 1) (p ∷ ps)
drop_more p ps k = ap (λ j. drop j (p ∷ ps)) (one_more k)
  where
    one_more : (k : ℕ) → suc (k + 1) ≡ suc k + 1
    one_more k = omega arith

front : (xs : List ℕ) (x : ℕ) (ps : List ℕ) (k : ℕ) → passes (λ p. nat_eq p x) (slice_get ps k) ≡ true → left (x ∷ xs) (drop k ps) ≡ left xs (drop (k + 1) ps)
front xs x [] k h = absurd (true≢false (sym h))
front xs x (p ∷ ps) zero h = ap (λ b. if b then left xs ps else left xs (p ∷ ps)) h
front xs x (p ∷ ps) (suc k) h = front xs x ps k h ∙ ap (left xs) (drop_more p ps k)

left_none : (xs : List ℕ) → left xs [] ≡ []
left_none [] = refl
left_none (x ∷ xs) = refl

other : (xs : List ℕ) (x : ℕ) (ps : List ℕ) (k : ℕ) → passes (λ p. nat_eq p x) (slice_get ps k) ≡ false → left (x ∷ xs) (drop k ps) ≡ left xs (drop k ps)
other xs x [] zero h = sym (left_none xs)
other xs x [] (suc k) h = sym (left_none xs)
other xs x (p ∷ ps) zero h = ap (λ b. if b then left xs ps else left xs (p ∷ ps)) h
other xs x (p ∷ ps) (suc k) h = other xs x ps k h

pub take_step : (xs ps whole : List ℕ) (i k : ℕ) → left (drop i xs) (drop k ps) ≡ whole → i < length xs → true ≡ passes (λ p. nat_eq p (get_or xs i 0)) (slice_get ps k) → left (drop (i + 1) xs) (drop (k + 1) ps) ≡ whole
take_step xs ps whole i k before within is =
    sym (front (drop (i + 1) xs) (get_or xs i 0) ps k (sym is)) ∙ sym (at_drop_more (λ ys. left ys (drop k ps)) xs i 0 within) ∙ before

pub skip_step : (xs ps whole : List ℕ) (i k : ℕ) → left (drop i xs) (drop k ps) ≡ whole → i < length xs → false ≡ passes (λ p. nat_eq p (get_or xs i 0)) (slice_get ps k) → left (drop (i + 1) xs) (drop k ps) ≡ whole
skip_step xs ps whole i k before within is =
    sym (other (drop (i + 1) xs) (get_or xs i 0) ps k (sym is)) ∙ sym (at_drop_more (λ ys. left ys (drop k ps)) xs i 0 within) ∙ before

-- a place of a part has a number
pub at_within : (ps : List ℕ) (x k : ℕ) → true ≡ passes (λ p. nat_eq p x) (slice_get ps k) → k < length ps
at_within [] x k h = absurd (true≢false h)
at_within (p ∷ ps) x zero h = omega arith
at_within (p ∷ ps) x (suc k) h = let below : k < length ps = at_within ps x k h in omega (arith, below)

-- numbers above one aren't that one
all_above : (x : ℕ) (xs ps : List ℕ) → ((y : ℕ) → has ps y ≡ true → x < y) → list_all (has xs) ps ≡ list_all (has (x ∷ xs)) ps
all_above x xs [] above = refl
all_above x xs (p ∷ ps) above =
    ap (λ b. b && list_all (has xs) ps) (one (nat_eq x p) (has xs p) (lower x p (above p (first p ps))))
    ∙ ap (λ b. has (x ∷ xs) p && b) (all_above x xs ps (λ y here. above y (has_later p y ps here)))
  where
    first : (p : ℕ) (ps : List ℕ) → has (p ∷ ps) p ≡ true
    first p ps = grind (arith, nat_tests)

    lower : (x p : ℕ) → x < p → nat_eq x p ≡ false
    lower x p h = grind (arith, nat_tests)

    one : (b c : Bool) → b ≡ false → c ≡ (b || c)
    one true c h = absurd (true≢false h)
    one false c h = refl

tail_rises : (x : ℕ) (xs : List ℕ) → adjacent nat_lt (x ∷ xs) ≡ true → adjacent nat_lt xs ≡ true
tail_rises x [] h = refl
tail_rises x (y ∷ ys) h = (both_true (nat_lt x y) (adjacent nat_lt (y ∷ ys)) h).1

-- nothing is left of a rising part of a rising set
pub none_left : (xs ps : List ℕ) → adjacent nat_lt xs ≡ true → adjacent nat_lt ps ≡ true → is_empty (left xs ps) ≡ list_all (has xs) ps
none_left [] [] rises rising = refl
none_left [] (p ∷ ps) rises rising = refl
none_left (x ∷ xs) [] rises rising = refl
none_left (x ∷ xs) (p ∷ ps) rises rising = decided (nat_eq p x) (nat_lt x p) refl refl (none_left xs ps (tail_rises x xs rises) (tail_rises p ps rising)) (none_left xs (p ∷ ps) (tail_rises x xs rises) rising)
  where
    same_is : (a b : ℕ) → nat_eq a b ≡ true → a ≡ b
    same_is a b h = grind (arith, nat_tests)

    turned : (a b : ℕ) → nat_eq a b ≡ true → nat_eq b a ≡ true
    turned a b h = grind (arith, nat_tests)

    below : (a b : ℕ) → nat_lt a b ≡ true → a < b
    below a b h = grind (arith, nat_tests)

    beyond : (a b : ℕ) → nat_eq a b ≡ false → nat_lt b a ≡ false → a < b
    beyond a b h k = grind (arith, nat_tests)

    apart : (a b : ℕ) → a < b → nat_eq b a ≡ false
    apart a b h = grind (arith, nat_tests)

    above : x < p → (y : ℕ) → has (p ∷ ps) y ≡ true → x < y
    above h y here = elim (has_cases (nat_eq p y) ps y here) [
      | inl same ↦ subst (λ w. x < w) (same_is p y same) h
      | inr later ↦ omega (arith, h, above_all p ps y rising later)
    ]

    missing : p < x → has xs p ≡ false
    missing h = false_from_ne_true (has xs p) (λ here. omega (arith, h, above_all x xs p rises here))

    neither : (b c d : Bool) → b ≡ false → c ≡ false → (c && d) ≡ ((b || c) && list_all (has (x ∷ xs)) ps)
    neither b c d h k = rw (h, k) refl

    decided : (b c : Bool) → nat_eq p x ≡ b → nat_lt x p ≡ c → is_empty (left xs ps) ≡ list_all (has xs) ps → is_empty (left xs (p ∷ ps)) ≡ list_all (has xs) (p ∷ ps)
        → is_empty (if b then left xs ps else left xs (p ∷ ps)) ≡ list_all (has (x ∷ xs)) (p ∷ ps)
    decided true c is order one rest =
        one ∙ all_above x xs ps (λ y here. subst (λ w. w < y) (same_is p x is) (above_all p ps y rising here))
        ∙ sym (ap (λ b. (b || has xs p) && list_all (has (x ∷ xs)) ps) (turned p x is))
    decided false true is order one rest = rest ∙ all_above x xs (p ∷ ps) (above (below x p order))
    decided false false is order one rest =
        let low = beyond p x is order in
        rest ∙ neither (nat_eq x p) (has xs p) (list_all (has xs) ps) (apart p x low) (missing low)

pub part_ends : (xs ps : List ℕ) (i k : ℕ) → adjacent nat_lt xs ≡ true → adjacent nat_lt ps ≡ true → left (drop i xs) (drop k ps) ≡ left xs ps → length xs ≤ i → k ≤ length ps → nat_eq k (length ps) ≡ list_all (has xs) ps
part_ends xs ps i k rises rising before end within = empty k ps within ∙ ap is_empty (sym (at_drop_all (λ ys. left ys (drop k ps)) xs i end) ∙ before) ∙ none_left xs ps rises rising
  where
    some : (n : ℕ) → nat_eq 0 (suc n) ≡ false
    some n = grind (arith, nat_tests)

    next : (a b : ℕ) → nat_eq (suc a) (suc b) ≡ nat_eq a b
    next a b = grind (arith, nat_tests)

    empty : (k : ℕ) (ps : List ℕ) → k ≤ length ps → nat_eq k (length ps) ≡ is_empty (drop k ps)
    empty zero [] h = refl
    empty (suc k) [] h = absurd (omega (arith, h))
    empty zero (p ∷ ps) h = some (length ps)
    empty (suc k) (p ∷ ps) h = next k (length ps) ∙ empty k ps (omega (arith, h))

pub empty_is : (s : List ℕ) → nat_eq (length s) 0 ≡ is_empty s
empty_is [] = refl
empty_is (n ∷ s) = some (length s)
  where
    some : (k : ℕ) → nat_eq (suc k) 0 ≡ false
    some k = grind (arith, nat_tests)

-- a size is far from the ends of 64 bits
pub shifted_near : (z : ℤ) → is_shifted z ≡ true → (neg_ℤ (pos 2147483648) ≤ℤ z) × (z ≤ℤ pos 2147483648)
shifted_near z h = (grind (arith, ints, h), grind (arith, ints, h))
