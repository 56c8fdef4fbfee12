-- The places that pass a test, one by one.
use Rattle.std.specs.Prelude.{◌≡◌, ℕ, zero, suc, ◌+◌, ◌<◌, ◌≤◌, Bool, true, false, List, [], ◌∷◌, ◌++◌, drop, length}
use Rattle.std.proofs.Common.{refl, ap, arith, sym, ◌∙◌, get_or}
use Rattle.std.proofs.lemmas.List.{append-nil, append_assoc, at_drop_all, at_drop_more}
use Rattle.task_sets.specs.laws.Ects.{keep, kept, up_from}

up_length : (b n : ℕ) → length (up_from b n) ≡ n
up_length b zero = refl
up_length b (suc n) = ap suc (up_length (suc b) n)

up_at : (b n k : ℕ) → k < n → get_or (up_from b n) k 0 ≡ b + k
up_at b zero k low = absurd (omega (arith, low))
up_at b (suc n) zero low = omega arith
up_at b (suc n) (suc k) low = up_at (suc b) n k (omega (arith, low)) ∙ next b k
  where
    next : (b k : ℕ) → suc b + k ≡ b + suc k
    next b k = omega arith

-- one place of those up to n
at_place : (t : ℕ → Bool) (n k : ℕ) (set : List ℕ) (b : Bool) → k < n → t k ≡ b → set ++ keep t (drop k (up_from 0 n)) ≡ set ++ kept b k (keep t (drop (k + 1) (up_from 0 n)))
at_place t n k set b low is =
    at_drop_more (λ ys. set ++ keep t ys) (up_from 0 n) k 0 (omega (arith, low, up_length 0 n))
    ∙ ap (λ j. set ++ kept (t j) j (keep t (drop (k + 1) (up_from 0 n)))) (up_at 0 n k low ∙ plain k)
    ∙ ap (λ c. set ++ kept c k (keep t (drop (k + 1) (up_from 0 n)))) is
  where
    plain : (k : ℕ) → 0 + k ≡ k
    plain k = omega arith

pub one_kept : (t : ℕ → Bool) (n k : ℕ) (set whole : List ℕ) → k < n → t k ≡ true → (set ++ keep t (drop k (up_from 0 n))) ≡ whole → ((set ++ k ∷ []) ++ keep t (drop (k + 1) (up_from 0 n))) ≡ whole
one_kept t n k set whole low is before = append_assoc set (k ∷ []) (keep t (drop (k + 1) (up_from 0 n))) ∙ sym (at_place t n k set true low is) ∙ before

pub one_left : (t : ℕ → Bool) (n k : ℕ) (set whole : List ℕ) → k < n → t k ≡ false → (set ++ keep t (drop k (up_from 0 n))) ≡ whole → (set ++ keep t (drop (k + 1) (up_from 0 n))) ≡ whole
one_left t n k set whole low is before = sym (at_place t n k set false low is) ∙ before

pub all_kept : (t : ℕ → Bool) (n k : ℕ) (set whole : List ℕ) → n ≤ k → (set ++ keep t (drop k (up_from 0 n))) ≡ whole → set ≡ whole
all_kept t n k set whole past before = sym (append-nil set) ∙ sym (at_drop_all (λ ys. set ++ keep t ys) (up_from 0 n) k (omega (arith, past, up_length 0 n))) ∙ before
