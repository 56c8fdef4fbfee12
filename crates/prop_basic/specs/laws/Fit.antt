-- Where the two earliest moments and the two latest are a size apart, SIZE finds nothing, under no guess at an end.
use Rattle.std.specs.Prelude.{◌≡◌, ℕ, ◌<◌, ℤ, ◌-ℤ◌, Bool, true, false, ◌&&◌, ◌||◌, length, Option, Some, None, nat_eq, int_le, int_lt}
use Rattle.std.specs.Ordering.{int_eq}
use Rattle.std.proofs.Common.{refl, sym, ap, subst, ◌∙◌, arith}
use Rattle.std.proofs.lemmas.Int.{ints}
use Rattle.std.proofs.lemmas.Bool.{and_parts}
use Rattle.sched_base.specs.declared.ids.Itv.{Itv}
use Rattle.sched_model.specs.Data.{Data}
use Rattle.region.specs.declared.types.Bounds.{Bounds}
use Rattle.region.specs.declared.types.Claim.{Claim}
use Rattle.region.specs.declared.types.Claim.TheVariants as claim
use Rattle.region.specs.declared.types.Topic.{Topic}
use Rattle.region.specs.declared.types.Topic.TheVariants.{One, Two}
use Rattle.region.specs.Claims.{guessed}
use Rattle.region.specs.Cells.{Region, bounds_of, says_present}
use Rattle.region.specs.Guesses.{assumed, topic, with_bounds, admits}
use Rattle.region.specs.Looks.{seen_at}
use Rattle.region.specs.laws.Intervals.{bounds_there}
use Rattle.region.specs.laws.OneSequence.{same_is}
use Rattle.findings.specs.Ends.{is_end, is_end_at, is_open_end}
use Rattle.refute_basic.specs.declared.witness.BasicWitness.TheVariants.{Size}
use Rattle.refute_basic.specs.Size.{leaves_no_size, has_no_size, size_row}
use Rattle.refute_basic.specs.Listed.{asks_size}
use Rattle.prop_basic.specs.code.Tasks.{IsSilent}
use Rattle.prop_basic.specs.code.Fit.{are_fit, has_moments, is_size}
use Rattle.base_laws.specs.laws.Truth.{never_both}
use Rattle.sched_model.specs.Bounds.{is_number}

abbrev itv_at : ℕ → Itv
itv_at x = record { 0 = x }

-- numbers
not_below : (a b : ℤ) → int_le a b ≡ true → int_lt b a ≡ false
not_below a b h = grind (arith, ints)

not_self : (a : ℤ) → int_lt a a ≡ false
not_self a = grind (arith, ints)

same_int : (a b : ℤ) → int_eq a b ≡ true → a ≡ b
same_int a b h = grind (arith, ints)

not_short : (start end last least : ℤ) → int_le end last ≡ true → int_le least (end -ℤ start) ≡ true → int_lt (last -ℤ start) least ≡ false
not_short start end last least h k = grind (arith, ints)

not_long : (first start end most : ℤ) → int_le first start ≡ true → int_le (end -ℤ first) most ≡ true → int_lt most (end -ℤ start) ≡ false
not_long first start end most h k = grind (arith, ints)

none_of : (a b d e : Bool) → a ≡ false → b ≡ false → d ≡ false → e ≡ false → (a || b || d || e) ≡ false
none_of a b d e p q s t = ap (λ z. z || b || d || e) p ∙ ap (λ z. z || d || e) q ∙ ap (λ z. z || e) s ∙ t

some_size : (c : Bounds) → int_lt c.smax c.smin ≡ false → int_lt c.emax c.emin ≡ false → int_lt (c.emax -ℤ c.smin) c.pmin ≡ false → int_lt c.pmax (c.emin -ℤ c.smax) ≡ false → has_no_size c ≡ false
some_size c p q s t = never_both (says_present c.presence) (leaves_no_size c) (none_of (int_lt c.smax c.smin) (int_lt c.emax c.emin) (int_lt (c.emax -ℤ c.smin) c.pmin) (int_lt c.pmax (c.emin -ℤ c.smax)) p q s t)

record IsFit (c : Bounds) : Type 0 where
  pub starts : int_le c.smin c.smax ≡ true
  pub ends : int_le c.emin c.emax ≡ true
  pub least : int_le c.pmin (c.emin -ℤ c.smin) ≡ true
  pub most : int_le (c.emin -ℤ c.smin) c.pmax ≡ true
  pub least_late : int_le c.pmin (c.emax -ℤ c.smax) ≡ true
  pub most_late : int_le (c.emax -ℤ c.smax) c.pmax ≡ true

parts : (c : Bounds) → are_fit c ≡ true → IsFit c
parts c fit =
    let both = and_parts (has_moments c && is_size c c.smin c.emin) (is_size c c.smax c.emax) fit in
    let first = and_parts (has_moments c) (is_size c c.smin c.emin) both.0 in
    let windows = and_parts (int_le c.smin c.smax) (int_le c.emin c.emax) first.0 in
    let early = and_parts (int_le c.pmin (c.emin -ℤ c.smin)) (int_le (c.emin -ℤ c.smin) c.pmax) first.1 in
    let late = and_parts (int_le c.pmin (c.emax -ℤ c.smax)) (int_le (c.emax -ℤ c.smax) c.pmax) both.1 in
    record { starts = windows.0; ends = windows.1; least = early.0; most = early.1; least_late = late.0; most_late = late.1 }

-- as they are, and under a claim at its end
plain : (c d : Bounds) → IsFit c → d.smin ≡ c.smin → d.smax ≡ c.smax → d.emin ≡ c.emin → d.emax ≡ c.emax → d.pmin ≡ c.pmin → d.pmax ≡ c.pmax → has_no_size d ≡ false
plain c d fit a b e f g h = some_size d
    (ap (λ s. int_lt s d.smin) b ∙ ap (int_lt c.smax) a ∙ not_below c.smin c.smax fit.starts)
    (ap (λ s. int_lt s d.emin) f ∙ ap (int_lt c.emax) e ∙ not_below c.emin c.emax fit.ends)
    (ap (λ s. int_lt (s -ℤ d.smin) d.pmin) f ∙ ap (λ s. int_lt (c.emax -ℤ s) d.pmin) a ∙ ap (int_lt (c.emax -ℤ c.smin)) g ∙ not_short c.smin c.emin c.emax c.pmin fit.ends fit.least)
    (ap (λ s. int_lt s (d.emin -ℤ d.smax)) h ∙ ap (λ s. int_lt c.pmax (s -ℤ d.smax)) e ∙ ap (λ s. int_lt c.pmax (c.emin -ℤ s)) b ∙ not_long c.smin c.smax c.emin c.pmax fit.starts fit.most)

starts_first : (c : Bounds) (t : ℤ) → IsFit c → t ≡ c.smin → has_no_size (guessed (claim.StartLe t) c) ≡ false
starts_first c t fit is = some_size (guessed (claim.StartLe t) c)
    (ap (λ s. int_lt s c.smin) is ∙ not_self c.smin)
    (not_below c.emin c.emax fit.ends)
    (not_short c.smin c.emin c.emax c.pmin fit.ends fit.least)
    (ap (λ s. int_lt c.pmax (c.emin -ℤ s)) is ∙ not_below (c.emin -ℤ c.smin) c.pmax fit.most)

starts_last : (c : Bounds) (t : ℤ) → IsFit c → t ≡ c.smax → has_no_size (guessed (claim.StartGe t) c) ≡ false
starts_last c t fit is = some_size (guessed (claim.StartGe t) c)
    (ap (int_lt c.smax) is ∙ not_self c.smax)
    (not_below c.emin c.emax fit.ends)
    (ap (λ s. int_lt (c.emax -ℤ s) c.pmin) is ∙ not_below c.pmin (c.emax -ℤ c.smax) fit.least_late)
    (not_long c.smin c.smax c.emin c.pmax fit.starts fit.most)

ends_first : (c : Bounds) (t : ℤ) → IsFit c → t ≡ c.emin → has_no_size (guessed (claim.EndLe t) c) ≡ false
ends_first c t fit is = some_size (guessed (claim.EndLe t) c)
    (not_below c.smin c.smax fit.starts)
    (ap (λ s. int_lt s c.emin) is ∙ not_self c.emin)
    (ap (λ s. int_lt (s -ℤ c.smin) c.pmin) is ∙ not_below c.pmin (c.emin -ℤ c.smin) fit.least)
    (not_long c.smin c.smax c.emin c.pmax fit.starts fit.most)

ends_last : (c : Bounds) (t : ℤ) → IsFit c → t ≡ c.emax → has_no_size (guessed (claim.EndGe t) c) ≡ false
ends_last c t fit is = some_size (guessed (claim.EndGe t) c)
    (not_below c.smin c.smax fit.starts)
    (ap (int_lt c.emax) is ∙ not_self c.emax)
    (not_short c.smin c.emin c.emax c.pmin fit.ends fit.least)
    (ap (λ s. int_lt c.pmax (s -ℤ c.smax)) is ∙ not_below (c.emax -ℤ c.smax) c.pmax fit.most_late)

fit_plain : (c : Bounds) → are_fit c ≡ true → has_no_size c ≡ false
fit_plain c fit = plain c c (parts c fit) refl refl refl refl refl refl

fit_guessed : (k : Claim) (c : Bounds) → is_end_at k c ≡ true → are_fit c ≡ true → has_no_size (guessed k c) ≡ false
fit_guessed claim.Present c end fit = plain c (guessed claim.Present c) (parts c fit) refl refl refl refl refl refl
fit_guessed claim.Absent c end fit = refl
fit_guessed (claim.StartLe t) c end fit = starts_first c t (parts c fit) (same_int t c.smin end)
fit_guessed (claim.StartGe t) c end fit = starts_last c t (parts c fit) (same_int t c.smax end)
fit_guessed (claim.EndLe t) c end fit = ends_first c t (parts c fit) (same_int t c.emin end)
fit_guessed (claim.EndGe t) c end fit = ends_last c t (parts c fit) (same_int t c.emax end)

pub fit_silent : (m : Data) (r : Region) (best : Option ℤ) (x : ℕ) → x < length r.bounds → are_fit (bounds_of r (record { 0 = x })) ≡ true → IsSilent m r best (Size x)
fit_silent m r best x within fit None asked = never_both (is_number x) (size_row (seen_at r best None) x) (fit_plain (bounds_of r (itv_at x)) fit)
fit_silent m r best x within fit (Some g) asked =
    let two = and_parts (asks_size x (topic g)) (is_open_end r g) asked in
    let ends = and_parts (admits r g) (is_end r (topic g)) two.1 in
    never_both (is_number x) (size_row (seen_at r best (Some g)) x) (by_topic (topic g) refl two.0 ends.1)
  where
    under : (z : Itv) (k : Claim) → topic g ≡ One z k → nat_eq x z.0 ≡ true → is_end_at k (bounds_of r z) ≡ true → size_row (seen_at r best (Some g)) x ≡ false
    under z k is same end =
        let one : itv_at x ≡ z = same_is (itv_at x) z same in
        ap (λ t. has_no_size (bounds_of (assumed t r) (itv_at x))) is
        ∙ ap (λ w. has_no_size (bounds_of (with_bounds w (guessed k) r) (itv_at x))) (sym one)
        ∙ ap has_no_size (bounds_there (itv_at x) (guessed k) r within)
        ∙ fit_guessed k (bounds_of r (itv_at x)) (subst (λ w. is_end_at k (bounds_of r w) ≡ true) (sym one) end) fit

    by_topic : (t : Topic) → topic g ≡ t → asks_size x t ≡ true → is_end r t ≡ true → size_row (seen_at r best (Some g)) x ≡ false
    by_topic (One z claim.Absent) is asks end = cc
    by_topic (One z claim.Present) is asks end = under z claim.Present is asks end
    by_topic (One z (claim.StartLe t)) is asks end = under z (claim.StartLe t) is asks end
    by_topic (One z (claim.StartGe t)) is asks end = under z (claim.StartGe t) is asks end
    by_topic (One z (claim.EndLe t)) is asks end = under z (claim.EndLe t) is asks end
    by_topic (One z (claim.EndGe t)) is asks end = under z (claim.EndGe t) is asks end
    by_topic (Two p y z) is asks end = cc
