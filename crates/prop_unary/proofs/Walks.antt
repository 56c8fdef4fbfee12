-- A walk through a list, one after the other.
use Rattle.std.specs.Prelude.{◌≡◌, ℕ, zero, suc, ◌+◌, ◌<◌, ◌≤◌, Bool, true, false, List, [], ◌∷◌, length, take, nat_lt}
use Rattle.std.proofs.Common.{◌≢◌, refl, inl, inr, sym, subst, ◌∙◌, arith, get_or}
use Rattle.std.proofs.lemmas.List.{take_all}
use Rattle.std.proofs.lemmas.Bool.{or_left, or_right, cases_eq}
use Rattle.std.proofs.lemmas.Bool.Decides.{nat_tests}
use Rattle.sched_base.specs.declared.ids.Itv.{Itv}
use Rattle.sched_model.specs.Data.{same, has}
use Rattle.region.specs.laws.OneSequence.{same_is, has_cases}
use Rattle.prop_unary.specs.code.Circles.{EachOf, EachBetween}
use Rattle.prop_unary.specs.code.Rows.{member_at}
use Rattle.prop_unary.specs.laws.Rows.{each_placed}

each_next : (P : Itv → Type 0) (xs : List Itv) (n : ℕ) (x d : Itv) → n < length xs → x ≡ get_or xs n d → EachOf P (take n xs) → P x → EachOf P (take (suc n) xs)
each_next P [] n x d within is before here z h = absurd (omega (arith, within))
each_next P (y ∷ ys) zero x d within is before here z h = elim (has_cases (same z y) (has [] z) h) [
  | inl e ↦ subst P (is ∙ sym (same_is z y e)) here
  | inr none ↦ cc
]
each_next P (y ∷ ys) (suc n) x d within is before here z h = elim (has_cases (same z y) (has (take (suc n) ys) z) h) [
  | inl e ↦ before z (or_left (same z y) (has (take n ys) z) e)
  | inr e ↦ each_next P ys n x d (omega (arith, within)) is (λ w k. before w (or_right (same w y) (has (take n ys) w) k)) here z e
]

pub each_more : (P : Itv → Type 0) (xs : List Itv) (n : ℕ) (x d : Itv) → n < length xs → x ≡ get_or xs n d → EachOf P (take n xs) → P x → EachOf P (take (n + 1) xs)
each_more P xs n x d within is before here = subst (λ (k : ℕ). EachOf P (take k xs)) (one_on n) (each_next P xs n x d within is before here)
  where
    one_on : (n : ℕ) → suc n ≡ n + 1
    one_on n = omega arith

pub each_all : (P : Itv → Type 0) (xs : List Itv) (n : ℕ) → length xs ≤ n → EachOf P (take n xs) → EachOf P xs
each_all P xs n all each = subst (EachOf P) (take_all n xs all) each

-- between two places
pub between_more : (P : Itv → Type 0) (xs : List Itv) (from n : ℕ) → EachBetween P xs from n → P (member_at xs n) → EachBetween P xs from (n + 1)
between_more P xs from n before here k past below = elim (cases_eq k n) [
  | inl e ↦ subst (λ (i : ℕ). P (member_at xs i)) (sym e) here
  | inr other ↦ (let apart : k ≢ n = other in before k past (omega (arith, apart, below)))
]

-- a place on its own, and those before and behind it
is_below : (i n : ℕ) → nat_lt i n ≡ true → i < n
is_below i n h = grind (arith, nat_tests)

is_past : (i n : ℕ) → nat_lt i n ≡ false → n ≤ i
is_past i n h = grind (arith, nat_tests)

pub between_on : (P : Itv → Type 0) (xs : List Itv) (k n : ℕ) → EachBetween P xs 0 k → P (member_at xs k) → EachBetween P xs (k + 1) n → EachBetween P xs 0 n
between_on P xs k n before here later i past below = elim (cases_eq i k) [
  | inl e ↦ subst (λ (j : ℕ). P (member_at xs j)) (sym e) here
  | inr other ↦ decided other (nat_lt i k) refl
]
  where
    decided : i ≢ k → (t : Bool) → nat_lt i k ≡ t → P (member_at xs i)
    decided apart true e = before i past (is_below i k e)
    decided apart false e = let from = is_past i k e in later i (omega (arith, apart, from)) below

pub each_between : (P : Itv → Type 0) (xs : List Itv) (n : ℕ) → length xs ≤ n → EachBetween P xs 0 n → EachOf P xs
each_between P xs n all each = each_placed P xs (λ k below. each k (omega arith) (omega (arith, below, all)))

-- and from one place round to it
pub all_round : (P : Itv → Type 0) (xs : List Itv) (start n : ℕ) → length xs ≤ n → EachBetween P xs start n → EachBetween P xs 0 start → EachOf P xs
all_round P xs start n size later sooner = each_placed P xs (λ k below. decided k below (nat_lt k start) refl)
  where
    decided : (k : ℕ) → k < length xs → (t : Bool) → nat_lt k start ≡ t → P (member_at xs k)
    decided k below true e = sooner k (omega arith) (is_below k start e)
    decided k below false e = later k (is_past k start e) (omega (arith, below, size))
