-- What one more member adds to the earliest completion of a part: its size at the most.
use Rattle.std.specs.Prelude.{◌≡◌, ℕ, ℤ, pos, ◌+ℤ◌, ◌≤ℤ◌, Bool, true, false, not, nat_eq, List, [], ◌∷◌}
use Rattle.std.specs.Int.{int_max}
use Rattle.std.proofs.Common.{refl, sym, ap, subst, arith, inl, inr}
use Rattle.std.proofs.lemmas.Int.{ints}
use Rattle.std.proofs.lemmas.Bool.{or_cases, both_ways, false_from_ne_true}
use Rattle.task_sets.specs.Times.{Times, IsSized, IsWithin, IsEct, has, with_one, est_at, size_at, sum_of, ends_at, rises_from}
use Rattle.task_sets.specs.laws.Sums.{same_number, least_bound}
use Rattle.task_sets.specs.laws.Ects.{keep, keep_passes, rises_all, least_reached}
use Rattle.task_sets.specs.laws.EdgeCuts.{but, but_sum, once_rises, keep_rises_list, keep_within}

pub both_max : (a b : ℤ) → (a ≤ℤ int_max a b) × (b ≤ℤ int_max a b)
both_max a b = (grind (arith, ints), grind (arith, ints))

pub one_more : (d : ℕ → Times) (t : ℕ → Bool) (i x : ℕ) (xs : List ℕ) (z u : ℤ) → IsSized d → IsWithin (with_one i t) x xs → z ≡ ends_at d x xs → IsEct d t u → z ≤ℤ (int_max (est_at d i) u +ℤ size_at d i)
one_more d t i x xs z u sized set is ect = by_case (has (x ∷ xs) i) refl
  where
    other : (y : ℕ) → nat_eq y i ≡ false → with_one i t y ≡ true → t y ≡ true
    other y off on = elim (or_cases (nat_eq y i) (t y) on) [
      | inl same ↦ absurd (both_ways (nat_eq y i) off same)
      | inr mine ↦ mine
    ]

    -- the set without the member, and what it is short of
    left : (ys : List ℕ) → keep (but i) (x ∷ xs) ≡ ys → has (x ∷ xs) i ≡ true → z ≤ℤ (int_max (est_at d i) u +ℤ size_at d i)
    left [] rest here =
        let sum = but_sum d i (x ∷ xs) (once_rises x xs set.rises) here in
        let none : sum_of d (keep (but i) (x ∷ xs)) ≡ pos 0 = ap (sum_of d) rest in
        let least = least_bound d x xs i here in
        let most = both_max (est_at d i) u in
        let same = is in
        omega (arith, ints, sum, none, least, most.0, same)
    left (y ∷ ys) rest here =
        let sum = but_sum d i (x ∷ xs) (once_rises x xs set.rises) here in
        let as_sum : sum_of d (keep (but i) (x ∷ xs)) ≡ sum_of d (y ∷ ys) = ap (sum_of d) rest in
        let rises : rises_from y ys ≡ true = subst (λ v. rises_all v ≡ true) rest (keep_rises_list (but i) (x ∷ xs) set.rises) in
        let kept : (w : ℕ) → has (y ∷ ys) w ≡ true → has (keep (but i) (x ∷ xs)) w ≡ true = λ w on. subst (λ v. has v w ≡ true) (sym rest) on in
        let inside : (w : ℕ) → has (y ∷ ys) w ≡ true → t w ≡ true = λ w on. other w (off w (keep_passes (but i) (x ∷ xs) w (kept w on))) (set.inside w (keep_within (but i) (x ∷ xs) w (kept w on))) in
        let up : ends_at d y ys ≤ℤ u = ect.greatest y ys (record { rises = rises; inside = inside }) in
        let first = least_reached d y ys in
        let least = least_bound d x xs first.0 (keep_within (but i) (x ∷ xs) first.0 (kept first.0 first.1)) in
        let at = first.2 in
        let most = both_max (est_at d i) u in
        let same = is in
        omega (arith, ints, sum, as_sum, up, least, at, most.1, same)
      where
        off : (w : ℕ) → but i w ≡ true → nat_eq w i ≡ false
        off w apart = false_from_ne_true (nat_eq w i) (λ same. absurd (both_ways (not (nat_eq w i)) (ap not same) apart))

    by_case : (b : Bool) → has (x ∷ xs) i ≡ b → z ≤ℤ (int_max (est_at d i) u +ℤ size_at d i)
    by_case true here = left (keep (but i) (x ∷ xs)) refl here
    by_case false out =
        let inside : (y : ℕ) → has (x ∷ xs) y ≡ true → t y ≡ true = λ y on. other y (apart y on) (set.inside y on) in
        let up : ends_at d x xs ≤ℤ u = ect.greatest x xs (record { rises = set.rises; inside = inside }) in
        let most = both_max (est_at d i) u in
        let size = sized.sizes i in
        let same = is in
        omega (arith, ints, up, most.1, size, same)
      where
        apart : (y : ℕ) → has (x ∷ xs) y ≡ true → nat_eq y i ≡ false
        apart y on = false_from_ne_true (nat_eq y i) (λ same. absurd (both_ways (has (x ∷ xs) i) out (subst (λ w. has (x ∷ xs) w ≡ true) (same_number y i same) on)))
