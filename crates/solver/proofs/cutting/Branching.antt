-- A cut splits what is open of an interval.
use Rattle.std.proofs.Common.{w64, SFits, to_z, of_z, ◌≡◌, ℕ, zero, suc, ◌<◌, ℤ, pos, negsuc, ◌+ℤ◌, ◌-ℤ◌, true, ◌&&◌, List, [], ◌∷◌, length, refl, sym, ap, subst, arith, get_or}
use Rattle.std.specs.Prelude.{int_le, int_lt, ◌≤ℤ◌, ◌<ℤ◌, nat_lt}
use Rattle.std.specs.Int.{int_div_euclid}
use Rattle.std.specs.Ordering.{int_eq}
use Rattle.std.proofs.lemmas.Int.{ints, to_z-of_z}
use Rattle.std.proofs.lemmas.Bool.Decides.{nat_tests}
use Rattle.sched_base.specs.declared.ids.Itv.{Itv}
use Rattle.sched_model.specs.declared.types.IntervalDef.{IntervalDef}
use Rattle.sched_model.specs.Words.{placewise}
use Rattle.sched_model.specs.Valid.{is_moment}
use Rattle.sched_model.specs.Data.{Data}
use Rattle.region.specs.declared.types.Bounds.{Bounds}
use Rattle.region.specs.declared.types.Guess.TheVariants.{Present, StartLe, EndLe}
use Rattle.region.specs.declared.types.Claim.{Claim}
use Rattle.region.specs.declared.types.Claim.TheVariants as claim
use Rattle.region.specs.declared.types.Topic.TheVariants.{One}
use Rattle.region.specs.declared.types.Presence.TheVariants as presence
use Rattle.region.specs.Cells.{Region, unknown, bounds_of, is_fixed, says_present}
use Rattle.region.specs.Claims.{is_open_at, is_ready_at}
use Rattle.region.specs.Guesses.{admits_topic, is_ready}
use Rattle.region.specs.Looks.{IsRegionOf, is_narrowed}
use Rattle.region.specs.laws.Lists.{both_true, true_both}
use Rattle.solver.specs.Cuts.{IsMiddle}
use Rattle.solver.specs.code.Searching.{Cuts, is_ordered}

-- half, rounded down
half_below : (z : ℤ) → (int_div_euclid z (pos 2) +ℤ int_div_euclid z (pos 2)) ≤ℤ z
half_below (pos n) = omega (arith, ints)
half_below (negsuc n) = omega (arith, ints)

half_above : (z : ℤ) → z <ℤ (int_div_euclid z (pos 2) +ℤ int_div_euclid z (pos 2) +ℤ pos 2)
half_above (pos n) = omega (arith, ints)
half_above (negsuc n) = omega (arith, ints)

pub middle_is : (lo hi z t : ℤ) → t ≡ int_div_euclid z (pos 2) → z ≡ lo +ℤ hi → IsMiddle lo hi t
middle_is lo hi z t half sum = record {
  below = subst (λ s. (t +ℤ t) ≤ℤ s) sum (subst (λ h. (h +ℤ h) ≤ℤ z) (sym half) (half_below z));
  above = subst (λ s. s <ℤ (t +ℤ t +ℤ pos 2)) sum (subst (λ h. z <ℤ (h +ℤ h +ℤ pos 2)) (sym half) (half_above z));
}

pub middle_from : (lo hi t : ℤ) → SFits w64 lo → SFits w64 hi → SFits w64 t → is_moment lo ≡ true → is_moment hi ≡ true
    → t ≡ int_div_euclid (to_z w64 (of_z w64 (to_z w64 (of_z w64 lo) +ℤ to_z w64 (of_z w64 hi)))) (pos 2) → IsMiddle lo hi (to_z w64 (of_z w64 t))
middle_from lo hi t lo_fits hi_fits fits low high half =
    let sum : SFits w64 (lo +ℤ hi) = grind (arith, ints) in
    simp to_z-of_z (middle_is lo hi (lo +ℤ hi) t (simp to_z-of_z at half) refl)

-- a bound cut at the middle splits
start_opens : (c : Bounds) (t : ℤ) → c.presence ≡ presence.Present → c.smin <ℤ c.smax → IsMiddle c.smin c.smax t → is_open_at (claim.StartLe t) c ≡ true
start_opens c t here less middle = rw here (in_between c.smin c.smax t less middle.below middle.above)
  where
    in_between : (lo hi t : ℤ) → lo <ℤ hi → (t +ℤ t) ≤ℤ (lo +ℤ hi) → (lo +ℤ hi) <ℤ (t +ℤ t +ℤ pos 2) → (int_le lo t && int_lt t hi) ≡ true
    in_between lo hi t less below above = grind (arith, ints)

end_opens : (c : Bounds) (t : ℤ) → c.presence ≡ presence.Present → c.emin <ℤ c.emax → IsMiddle c.emin c.emax t → is_open_at (claim.EndLe t) c ≡ true
end_opens c t here less middle = rw here (in_between c.emin c.emax t less middle.below middle.above)
  where
    in_between : (lo hi t : ℤ) → lo <ℤ hi → (t +ℤ t) ≤ℤ (lo +ℤ hi) → (lo +ℤ hi) <ℤ (t +ℤ t +ℤ pos 2) → (int_le lo t && int_lt t hi) ≡ true
    in_between lo hi t less below above = grind (arith, ints)

-- a claim that is open at the bounds of its interval, and ready there, splits the region
below_test : (n k : ℕ) → n < k → nat_lt n k ≡ true
below_test n k h = grind (arith, nat_tests)

splits_at : (r : Region) (x : Itv) (k : Claim) (c : Bounds) → x.0 < length r.bounds → bounds_of r x ≡ c → is_open_at k c ≡ true → is_ready_at k c ≡ true → (admits_topic r (One x k) && is_ready r (One x k)) ≡ true
splits_at r x k c within same opens ready =
    true_both _ _ (true_both _ _ (below_test x.0 (length r.bounds) within) (subst (λ b. is_open_at k b ≡ true) (sym same) opens)) (subst (λ b. is_ready_at k b ≡ true) (sym same) ready)

pub cuts_start : (x : Itv) (c : Bounds) (t : ℤ) → c.presence ≡ presence.Present → c.smin <ℤ c.smax → IsMiddle c.smin c.smax t → Cuts x c (StartLe x t)
cuts_start x c t here less middle = record {
  splits_it = λ r within same. splits_at r x (claim.StartLe t) c within same (start_opens c t here less middle) (ap says_present here);
  cuts_it = λ r same. subst (λ b. IsMiddle b.smin b.smax t) (sym same) middle;
}

pub cuts_end : (x : Itv) (c : Bounds) (t : ℤ) → c.presence ≡ presence.Present → c.emin <ℤ c.emax → IsMiddle c.emin c.emax t → Cuts x c (EndLe x t)
cuts_end x c t here less middle = record {
  splits_it = λ r within same. splits_at r x (claim.EndLe t) c within same (end_opens c t here less middle) (ap says_present here);
  cuts_it = λ r same. subst (λ b. IsMiddle b.emin b.emax t) (sym same) middle;
}

back_from : (t : ℤ) → (t +ℤ pos 1) -ℤ pos 1 ≡ t
back_from t = omega (arith, ints)

-- the middle is no more than a moment
pub middle_small : (lo hi t : ℤ) → is_moment lo ≡ true → is_moment hi ≡ true → IsMiddle lo hi t → is_moment t ≡ true
middle_small lo hi t low high middle = grind (arith, ints, middle.below, middle.above)

pub fixed_present : (c : Bounds) → c.presence ≡ presence.Present → is_ordered c ≡ true → c.smax ≤ℤ c.smin → c.emax ≤ℤ c.emin → is_fixed c ≡ true
fixed_present c here ordered starts ends = rw here (same c.smin c.smax c.emin c.emax ordered starts ends)
  where
    same : (a b e f : ℤ) → (int_le a b && int_le e f) ≡ true → b ≤ℤ a → f ≤ℤ e → (int_eq a b && int_eq e f) ≡ true
    same a b e f ordered starts ends = grind (arith, ints)

-- the bounds of a region of a model are ordered
narrowed_ordered : (d : IntervalDef) (c : Bounds) → is_narrowed d c ≡ true → is_ordered c ≡ true
narrowed_ordered d c h =
    let h6 = (both_true _ _ (both_true _ _ h).0).0 in
    let h5 = both_true _ (int_le c.emax d.end_hi) h6 in
    let h4 = both_true _ (int_le c.emin c.emax) h5.0 in
    let h3 = both_true _ (int_le d.end_lo c.emin) h4.0 in
    let h2 = both_true _ (int_le c.smax d.start_hi) h3.0 in
    let h1 = both_true _ (int_le c.smin c.smax) h2.0 in
    true_both (int_le c.smin c.smax) (int_le c.emin c.emax) h1.1 h4.1

all_ordered : (ds : List IntervalDef) (bs : List Bounds) (n : ℕ) → placewise is_narrowed ds bs ≡ true → n < length bs → is_ordered (get_or bs n unknown) ≡ true
all_ordered ds [] n h within = absurd (omega (arith, within))
all_ordered [] (b ∷ bs) n h within = cc
all_ordered (d ∷ ds) (b ∷ bs) zero h within = narrowed_ordered d b (both_true (is_narrowed d b) (placewise is_narrowed ds bs) h).0
all_ordered (d ∷ ds) (b ∷ bs) (suc n) h within = all_ordered ds bs n (both_true (is_narrowed d b) (placewise is_narrowed ds bs) h).1 (omega (arith, within))

pub ordered_at : (m : Data) (r : Region) (x : Itv) → IsRegionOf m r → x.0 < length r.bounds → is_ordered (bounds_of r x) ≡ true
ordered_at m r x of within = all_ordered m.intervals r.bounds x.0 of.bounds within

-- the same of numbers as the code has them
next_fits : (t : ℤ) → is_moment t ≡ true → SFits w64 (t +ℤ pos 1)
next_fits t h = grind (arith, ints)

pub start_cut : (x : Itv) (c : Bounds) (t : ℤ) → SFits w64 c.smin → SFits w64 c.smax → SFits w64 t → c.presence ≡ presence.Present → c.smin <ℤ c.smax → IsMiddle (to_z w64 (of_z w64 c.smin)) (to_z w64 (of_z w64 c.smax)) t
    → Cuts x c (StartLe x (to_z w64 (of_z w64 t)))
start_cut x c t lo hi fits here less middle = simp to_z-of_z (cuts_start x c t here less (simp to_z-of_z at middle))

pub end_cut : (x : Itv) (c : Bounds) (t : ℤ) → SFits w64 c.emin → SFits w64 c.emax → SFits w64 t → c.presence ≡ presence.Present → c.emin <ℤ c.emax → IsMiddle (to_z w64 (of_z w64 c.emin)) (to_z w64 (of_z w64 c.emax)) t
    → Cuts x c (EndLe x (to_z w64 (of_z w64 t)))
end_cut x c t lo hi fits here less middle = simp to_z-of_z (cuts_end x c t here less (simp to_z-of_z at middle))

pub middle_at : (lo hi t : ℤ) → SFits w64 lo → SFits w64 hi → SFits w64 t → IsMiddle (to_z w64 (of_z w64 lo)) (to_z w64 (of_z w64 hi)) t → IsMiddle lo hi (to_z w64 (of_z w64 t))
middle_at lo hi t low high fits middle = simp to_z-of_z (simp to_z-of_z at middle)

pub next_sum : (t : ℤ) → SFits w64 t → is_moment t ≡ true → SFits w64 (to_z w64 (of_z w64 t) +ℤ pos 1)
next_sum t fits moment = simp to_z-of_z (next_fits t moment)

pub next_middle : (lo hi t : ℤ) → SFits w64 lo → SFits w64 hi → SFits w64 t → is_moment t ≡ true → IsMiddle (to_z w64 (of_z w64 lo)) (to_z w64 (of_z w64 hi)) t
    → IsMiddle lo hi (to_z w64 (of_z w64 (to_z w64 (of_z w64 t) +ℤ pos 1)) -ℤ pos 1)
next_middle lo hi t low high fits moment middle =
    let next = next_fits t moment in
    simp to_z-of_z (subst (IsMiddle lo hi) (sym (back_from t)) (simp to_z-of_z at middle))
