-- Places that are picked one after the other.
use Rattle.std.specs.Prelude.{◌≡◌, ℕ, zero, suc, ◌+◌, ◌<◌, ◌≤◌, Bool, true, false, List, [], ◌∷◌, ◌++◌, length}
use Rattle.std.proofs.Common.{refl, sym, ap, ◌∙◌, arith, take, get_or}
use Rattle.task_sets.specs.laws.Ects.{up_from, keep, kept}

-- picking the first places one after the other
up_more : (a n : ℕ) → up_from a (n + 1) ≡ up_from a n ++ (a + n) ∷ []
up_more a zero = let one : zero + 1 ≡ suc zero = omega arith in let here : a + zero ≡ a = omega arith in ap (up_from a) one ∙ ap (λ n. n ∷ []) (sym here)
up_more a (suc n) =
    let one : suc n + 1 ≡ suc (n + 1) = omega arith in
    let last : suc a + n ≡ a + suc n = omega arith in
    ap (up_from a) one ∙ ap (λ xs. a ∷ xs) (up_more (suc a) n) ∙ ap (λ k. a ∷ (up_from (suc a) n ++ k ∷ [])) last

up_next : (n : ℕ) → up_from 0 (n + 1) ≡ up_from 0 n ++ n ∷ []
up_next n = let here : 0 + n ≡ n = omega arith in up_more 0 n ∙ ap (λ k. up_from 0 n ++ k ∷ []) here

keep_push : (t : ℕ → Bool) (xs : List ℕ) (x : ℕ) → t x ≡ true → keep t (xs ++ x ∷ []) ≡ keep t xs ++ x ∷ []
keep_push t [] x on = ap (λ b. kept b x []) on
keep_push t (y ∷ ys) x on = step (t y) (keep_push t ys x on)
  where
    step : (b : Bool) → keep t (ys ++ x ∷ []) ≡ keep t ys ++ x ∷ [] → kept b y (keep t (ys ++ x ∷ [])) ≡ kept b y (keep t ys) ++ x ∷ []
    step true h = ap (λ zs. y ∷ zs) h
    step false h = h

keep_skip : (t : ℕ → Bool) (xs : List ℕ) (x : ℕ) → t x ≡ false → keep t (xs ++ x ∷ []) ≡ keep t xs
keep_skip t [] x off = ap (λ b. kept b x []) off
keep_skip t (y ∷ ys) x off = step (t y) (keep_skip t ys x off)
  where
    step : (b : Bool) → keep t (ys ++ x ∷ []) ≡ keep t ys → kept b y (keep t (ys ++ x ∷ [])) ≡ kept b y (keep t ys)
    step true h = ap (λ zs. y ∷ zs) h
    step false h = h

pub one_picked : (t : ℕ → Bool) (n : ℕ) (set : List ℕ) → t n ≡ true → set ≡ keep t (up_from 0 n) → set ++ n ∷ [] ≡ keep t (up_from 0 (n + 1))
one_picked t n set on is = ap (λ zs. zs ++ n ∷ []) is ∙ sym (ap (keep t) (up_next n) ∙ keep_push t (up_from 0 n) n on)

pub one_passed : (t : ℕ → Bool) (n : ℕ) (set : List ℕ) → t n ≡ false → set ≡ keep t (up_from 0 n) → set ≡ keep t (up_from 0 (n + 1))
one_passed t n set off is = is ∙ sym (ap (keep t) (up_next n) ∙ keep_skip t (up_from 0 n) n off)

-- and of a list
pub take_more : (xs : List ℕ) (n d : ℕ) → n < length xs → take (n + 1) xs ≡ take n xs ++ get_or xs n d ∷ []
take_more [] n d low = absurd (omega (arith, low))
take_more (x ∷ xs) zero d low = let one : zero + 1 ≡ suc zero = omega arith in ap (λ k. take k (x ∷ xs)) one
take_more (x ∷ xs) (suc n) d low = let one : suc n + 1 ≡ suc (n + 1) = omega arith in ap (λ k. take k (x ∷ xs)) one ∙ ap (λ zs. x ∷ zs) (take_more xs n d (omega (arith, low)))

pub take_all : (xs : List ℕ) (n : ℕ) → length xs ≤ n → take n xs ≡ xs
take_all [] zero low = refl
take_all [] (suc n) low = refl
take_all (x ∷ xs) zero low = absurd (omega (arith, low))
take_all (x ∷ xs) (suc n) low = ap (λ zs. x ∷ zs) (take_all xs n (omega (arith, low)))
