-- POINT of a constraint refutes exactly where its bound is passed on a side.
use Rattle.std.specs.Prelude.{◌≡◌, ℕ, zero, suc, ◌+◌, ◌<◌, ◌≤◌, ℤ, pos, neg_ℤ, ◌+ℤ◌, ◌-ℤ◌, ◌≤ℤ◌, ◌<ℤ◌, Bool, true, false, ◌&&◌, ◌||◌, List, [], ◌∷◌, length, None, nat_lt, nat_eq, int_le, int_lt, sum_by}
use Rattle.std.specs.Int.{int_min, int_max}
use Rattle.std.specs.Ordering.{int_eq}
use Rattle.std.specs.Option.{option_to_list}
use Rattle.std.proofs.Common.{refl, sym, ap, subst, ◌∙◌, arith, get_or, inl, inr}
use Rattle.std.proofs.lemmas.Int.{ints, int_min_is, int_max_is}
use Rattle.std.proofs.lemmas.Option.{slice_get_within}
use Rattle.std.proofs.lemmas.List.{get_or_past}
use Rattle.std.proofs.lemmas.List.Sums.{sum_by-cons}
use Rattle.base_laws.specs.laws.Numbers.{below_or_past, differs}
use Rattle.base_laws.specs.laws.Truth.{three_true, all_three, never_both}
use Rattle.sched_model.specs.declared.types.IntervalDef.{IntervalDef}
use Rattle.sched_model.specs.declared.types.CumulDef.{CumulDef}
use Rattle.sched_model.specs.declared.types.Window.{Window}
use Rattle.sched_model.specs.declared.types.Window.TheVariants.{Always, Moments, During}
use Rattle.sched_model.specs.Words.{passes}
use Rattle.sched_model.specs.Bounds.{is_small, is_number, is_span_of_moments}
use Rattle.sched_model.specs.Data.{Data, horizon, parts_of}
use Rattle.sched_model.specs.Rank.{criteria_of}
use Rattle.sched_model.specs.Valid.{IsValid, is_window, is_interval_def, nodes_of, node_count}
use Rattle.sched_model.specs.laws.Limits.{limits_of}
use Rattle.sched_model.specs.laws.Listed.{valid_at}
use Rattle.sched_model.specs.laws.Small.{number_fits}
use Rattle.region.specs.declared.types.Bounds.{Bounds}
use Rattle.region.specs.Cells.{Region, unknown, bounds_of, is_there}
use Rattle.region.specs.Looks.{Seen, IsRegionOf, is_narrowed, lst_of, ect_of}
use Rattle.region.specs.laws.Lists.{both_true, true_both, placewise-at, all-at}
use Rattle.region.specs.laws.OneSequence.{below_is}
use Rattle.refute_cumul.specs.declared.bound.Bound.{Bound}
use Rattle.refute_cumul.specs.declared.witness.CumulWitness.{CumulWitness}
use Rattle.refute_cumul.specs.declared.witness.CumulWitness.TheVariants.{Point}
use Rattle.refute_cumul.specs.Witness.{constraint_of, is_valid}
use Rattle.refute_cumul.specs.Levels.{is_surely_in}
use Rattle.refute_cumul.specs.code.Loads.{is_over}
use Rattle.refute_cumul.specs.Point.{point_of, point_row}
use Rattle.refute_cumul.specs.OnCumul.{refutes}
use Rattle.refute_cumul.specs.code.Sides.{as_constraint, is_high, IsBoundOf, HasRoom}
use Rattle.refute_cumul.specs.laws.Loads.{leaves_is, side}

-- a moment that surely lies in a window is small
span_small : (u v t : ℤ) → is_span_of_moments u v ≡ true → (int_le u t && int_lt t v) ≡ true → is_small t ≡ true
span_small u v t is h = grind (arith, ints, is, h)

record HasRanges (d : IntervalDef) : Type 0 where
  start : is_span_of_moments d.start_lo d.start_hi ≡ true
  end : is_span_of_moments d.end_lo d.end_hi ≡ true
  size : is_span_of_moments d.size_lo d.size_hi ≡ true

ranges_of : (d : IntervalDef) → is_interval_def d ≡ true → HasRanges d
ranges_of d h =
    let spans = both_true (is_span_of_moments d.start_lo d.start_hi && is_span_of_moments d.end_lo d.end_hi && is_span_of_moments d.size_lo d.size_hi) (int_le (pos 0) d.size_lo) h in
    let three = three_true (is_span_of_moments d.start_lo d.start_hi) (is_span_of_moments d.end_lo d.end_hi) (is_span_of_moments d.size_lo d.size_hi) spans.0 in
    record { start = three.0; end = three.1; size = three.2 }

first_from : (lo hi : ℤ) → is_span_of_moments lo hi ≡ true → neg_ℤ horizon ≤ℤ lo
first_from lo hi h = grind (arith, ints, h)

last_to : (lo hi : ℤ) → is_span_of_moments lo hi ≡ true → hi ≤ℤ horizon
last_to lo hi h = grind (arith, ints, h)

early : (lo smin smax emin emax pmin el t : ℤ) → neg_ℤ horizon ≤ℤ lo → neg_ℤ horizon ≤ℤ el → pmin ≤ℤ horizon → lo ≤ℤ smin → smin ≤ℤ smax → el ≤ℤ emin → emin ≤ℤ emax → int_min smax (emax -ℤ pmin) ≤ℤ t
    → neg_ℤ (pos 2000000000) ≤ℤ t
early lo smin smax emin emax pmin el t a b c d e f g h = omega (arith, ints, int_min_is smax (emax -ℤ pmin), a, b, c, d, e, f, g, h)

late : (hi smin smax emin emax pmin eh t : ℤ) → hi ≤ℤ horizon → eh ≤ℤ horizon → pmin ≤ℤ horizon → smin ≤ℤ smax → smax ≤ℤ hi → emin ≤ℤ emax → emax ≤ℤ eh → t <ℤ int_max emin (smin +ℤ pmin) → t ≤ℤ pos 2000000000
late hi smin smax emin emax pmin eh t a b c d e f g h = omega (arith, ints, int_max_is emin (smin +ℤ pmin), a, b, c, d, e, f, g, h)

amid_small : (t : ℤ) → neg_ℤ (pos 2000000000) ≤ℤ t → t ≤ℤ pos 2000000000 → is_small t ≡ true
amid_small t h k = grind (arith, ints, h, k)

le : (a b : ℤ) → int_le a b ≡ true → a ≤ℤ b
le a b h = grind (arith, ints, h)

less : (a b : ℤ) → int_lt a b ≡ true → a <ℤ b
less a b h = grind (arith, ints, h)

equal : (a b : ℤ) → int_eq a b ≡ true → a ≡ b
equal a b h = grind (arith, ints, h)

below_size : (lo hi p : ℤ) → is_span_of_moments lo hi ≡ true → lo ≡ p → p ≤ℤ horizon
below_size lo hi p h i = grind (arith, ints, h, i)

narrowed_small : (d : IntervalDef) (c : Bounds) (t : ℤ) → is_interval_def d ≡ true → is_narrowed d c ≡ true → int_le (int_min c.smax (c.emax -ℤ c.pmin)) t ≡ true → int_lt t (int_max c.emin (c.smin +ℤ c.pmin)) ≡ true → is_small t ≡ true
narrowed_small d c t valid n from until =
    let ranges = ranges_of d valid in
    let p9 = both_true _ (int_eq d.size_hi c.pmax) n in
    let p8 = both_true _ (int_eq d.size_lo c.pmin) p9.0 in
    let p7 = both_true _ (int_le c.emax d.end_hi) p8.0 in
    let p6 = both_true _ (int_le c.emin c.emax) p7.0 in
    let p5 = both_true _ (int_le d.end_lo c.emin) p6.0 in
    let p4 = both_true _ (int_le c.smax d.start_hi) p5.0 in
    let p3 = both_true _ (int_le c.smin c.smax) p4.0 in
    let p2 = both_true _ (int_le d.start_lo c.smin) p3.0 in
    let size = below_size d.size_lo d.size_hi c.pmin ranges.size (equal d.size_lo c.pmin p8.1) in
    amid_small t
    (early d.start_lo c.smin c.smax c.emin c.emax c.pmin d.end_lo t (first_from d.start_lo d.start_hi ranges.start) (first_from d.end_lo d.end_hi ranges.end) size (le _ _ p2.1) (le _ _ p3.1) (le _ _ p5.1) (le _ _ p6.1) (le _ _ from))
    (late d.start_hi c.smin c.smax c.emin c.emax c.pmin d.end_hi t (last_to d.start_lo d.start_hi ranges.start) (last_to d.end_lo d.end_hi ranges.end) size (le _ _ p3.1) (le _ _ p4.1) (le _ _ p6.1) (le _ _ p7.1) (less _ _ until))

pub surely_small : (m : Data) (r : Region) (w : Window) (t : ℤ) → IsValid m → IsRegionOf m r → is_window m w ≡ true → is_surely_in r w t ≡ true → is_small t ≡ true
surely_small m r Always t valid of is h = grind (arith, ints, h)
surely_small m r (Moments u v) t valid of is h = span_small u v t is h
surely_small m r (During x) t valid of is h =
    let inside : x.0 < length m.intervals = below_is x.0 (length m.intervals) is in
    let three = three_true (is_there r x) (int_le (lst_of r x) t) (int_lt t (ect_of r x)) h in
    narrowed_small (get_or m.intervals x.0 no_def) (bounds_of r x) t (all-at is_interval_def m.intervals x.0 no_def valid.intervals inside) (placewise-at is_narrowed m.intervals r.bounds x.0 no_def unknown of.bounds inside) three.1 three.2
  where
    no_def : IntervalDef
    no_def = record { name = []; optional = false; start_lo = pos 0; start_hi = pos 0; end_lo = pos 0; end_hi = pos 0; size_lo = pos 0; size_hi = pos 0 }

-- the window of a constraint of a valid model
pub valid_window : (m : Data) (c : ℕ) (b : Bound) → IsBoundOf m c b → is_window m b.window ≡ true
valid_window m c b of = three_up (nat_lt b.f.0 (length m.cumuls)) (is_window m b.window) (is_small b.lo) (is_small b.hi) (int_le b.lo b.hi) (valid_at m m.constraints c (as_constraint b) of.valid refl of.is)
  where
    three_up : (p q r s t : Bool) → (p && q && r && s && t) ≡ true → q ≡ true
    three_up p q r s t h = (both_true p q (both_true (p && q) r (both_true (p && q && r) s (both_true (p && q && r && s) t h).0).0).0).1

pub number_of : (m : Data) (c : ℕ) (b : Bound) → IsBoundOf m c b → is_number c ≡ true
number_of m c b of =
    let within = slice_get_within m.constraints c (as_constraint b) of.is in
    let few = (limits_of m of.valid.limits).constraints in
    number_fits c (omega (arith, within, few))

row_is : (m : Data) (l : Seen) (c : ℕ) (b : Bound) (below : Bool) (t : ℤ) → IsBoundOf m c b → point_row m l c t (side below) ≡ is_high m l.region b below t
row_is m l c b below t of =
    ap (passes (point_of m l.region t (side below))) of.is
    ∙ ap (λ p. is_surely_in l.region b.window t && p) (sym (leaves_is l.region (parts_of m b.f) b.lo b.hi below t))

side_number : (below : Bool) → is_number (side below) ≡ true
side_number true = refl
side_number false = refl

-- where the bound is passed, POINT refutes
pub high_refutes : (m : Data) (l : Seen) (c : ℕ) (b : Bound) (below : Bool) (t : ℤ) → IsBoundOf m c b → IsRegionOf m l.region → is_high m l.region b below t ≡ true → refutes m l (Point c t (side below)) ≡ true
high_refutes m l c b below t of region h =
    let two = both_true (is_surely_in l.region b.window t) (is_over l.region (parts_of m b.f) b.lo b.hi below t) h in
    true_both (is_number c && is_small t && is_number (side below)) (point_row m l c t (side below))
    (all_three (is_number c) (is_small t) (is_number (side below)) (number_of m c b of) (surely_small m l.region b.window t of.valid region (valid_window m c b of) two.0) (side_number below))
    (row_is m l c b below t of ∙ h)

-- and where it isn't, it doesn't
pub low_silent : (m : Data) (l : Seen) (c : ℕ) (b : Bound) (below : Bool) (t : ℤ) → IsBoundOf m c b → is_high m l.region b below t ≡ false → refutes m l (Point c t (side below)) ≡ false
low_silent m l c b below t of h = never_both (is_valid (Point c t (side below))) (point_row m l c t (side below)) (row_is m l c b below t of ∙ h)

-- there are two sides
no_case : (m : Data) (l : Seen) (c : ℕ) (b : Bound) (t : ℤ) (u : ℕ) → IsBoundOf m c b → nat_eq u 0 ≡ false → nat_eq u 1 ≡ false → refutes m l (Point c t u) ≡ false
no_case m l c b t u of first second = never_both (is_valid (Point c t u)) (point_row m l c t u) (ap (passes (point_of m l.region t u)) of.is ∙ neither (is_surely_in l.region b.window t) (nat_eq u 0) (nat_eq u 1) _ _ first second)
  where
    neither : (p a b x y : Bool) → a ≡ false → b ≡ false → (p && ((a && x) || (b && y))) ≡ false
    neither true false false x y h k = refl
    neither false false false x y h k = refl
    neither p true b x y h k = cc
    neither p false true x y h k = cc

pub both_silent : (m : Data) (l : Seen) (c : ℕ) (b : Bound) → IsBoundOf m c b → ((t : ℤ) → is_high m l.region b false t ≡ false) → ((t : ℤ) → is_high m l.region b true t ≡ false) → (w : CumulWitness) → constraint_of w ≡ c → refutes m l w ≡ false
both_silent m l c b of above below (Point d t u) same = subst (λ n. refutes m l (Point n t u) ≡ false) (sym same) (by_case u)
  where
    by_case : (u : ℕ) → refutes m l (Point c t u) ≡ false
    by_case zero = low_silent m l c b false t of (above t)
    by_case (suc zero) = low_silent m l c b true t of (below t)
    by_case (suc (suc u)) = no_case m l c b t (suc (suc u)) of (differs (suc (suc u)) 0 (λ e. absurd (omega (arith, e)))) (differs (suc (suc u)) 1 (λ e. absurd (omega (arith, e))))

-- the parts of a function are few
one_of_sum : {X : Type 0} (f : X → ℕ) (xs : List X) (i : ℕ) (d : X) → i < length xs → f (get_or xs i d) ≤ sum_by f xs
one_of_sum f [] i d h = absurd (omega (arith, h))
one_of_sum f (x ∷ xs) zero d h = let all = sum_by-cons f x xs in omega (arith, all)
one_of_sum f (x ∷ xs) (suc i) d h = let rest = one_of_sum f xs i d (omega (arith, h)) in let all = sum_by-cons f x xs in omega (arith, rest, all)

pub few_parts : (m : Data) (i : ℕ) (d : CumulDef) → IsValid m → i < length m.cumuls → length (get_or m.cumuls i d).parts ≤ 100000
few_parts m i d valid h =
    let one = one_of_sum (λ f. length f.parts) m.cumuls i d h in
    let all = (limits_of m valid.limits).nodes in
    smaller (sum_by nodes_of m.constraints) (sum_by (λ o. sum_by node_count (criteria_of o)) (option_to_list m.objective)) _ _ one all
  where
    smaller : (a b c n : ℕ) → n ≤ c → a + b + c ≤ 100000 → n ≤ 100000
    smaller a b c n h k = omega (arith, h, k)

pub has_room : (m : Data) (room : ℕ) → ((i : ℕ) (d : CumulDef) → i < length m.cumuls → length (get_or m.cumuls i d).parts ≤ room) → HasRoom m room
has_room m room each f = elim (below_or_past f.0 (length m.cumuls) (nat_lt f.0 (length m.cumuls)) refl) [
  | inl inside ↦ each f.0 (record { name = None; parts = [] }) inside
  | inr beyond ↦ subst (λ d. length d.parts ≤ room) (sym (get_or_past m.cumuls f.0 (record { name = None; parts = [] }) beyond)) (omega arith)
]
