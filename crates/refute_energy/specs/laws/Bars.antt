-- The pulses of present intervals in an allowed assignment, and the levels of a function that none lowers.
use Rattle.std.specs.Prelude.{◌≡◌, ℕ, zero, suc, ◌+◌, ◌<◌, ℤ, pos, neg_ℤ, ◌+ℤ◌, ◌-ℤ◌, ◌*ℤ◌, ◌≤ℤ◌, Bool, true, false, not, ◌&&◌, List, [], ◌∷◌, length, map, Option, Some, None, slice_get, int_le, if◌then◌else◌}
use Rattle.std.specs.List.{list_all}
use Rattle.std.proofs.Common.{refl, sym, ap, ◌∙◌, subst, arith, get_or}
use Rattle.std.proofs.lemmas.Int.{ints}
use Rattle.std.proofs.lemmas.Bool.{true≢false}
use Rattle.sched_base.specs.declared.ids.Itv.{Itv}
use Rattle.sched_model.specs.declared.types.IntervalDef.{IntervalDef}
use Rattle.sched_model.specs.declared.types.Slot.{Slot}
use Rattle.sched_model.specs.declared.types.Slot.TheVariants as slot
use Rattle.sched_model.specs.declared.types.Shape.{Shape}
use Rattle.sched_model.specs.declared.types.Shape.TheVariants.{Pulse, Step, PulseOf, StepAtStart, StepAtEnd}
use Rattle.sched_model.specs.declared.types.Part.{Part}
use Rattle.sched_model.specs.declared.types.Assignment.{Assignment}
use Rattle.sched_model.specs.Words.{is_between, passes_if_any, total}
use Rattle.sched_model.specs.Bounds.{is_span_of_moments, is_moment}
use Rattle.sched_model.specs.Data.{Data, horizon}
use Rattle.sched_model.specs.Domain.{fits_def}
use Rattle.sched_model.specs.Valid.{IsValid, is_interval_def, is_shape, is_itv, is_amount}
use Rattle.sched_model.specs.Value.{is_here, is_present, start_of, end_of, start_or, end_or, slot_of}
use Rattle.sched_model.specs.Cumulative.{between, from_on, shape_at, signed}
use Rattle.sched_model.specs.laws.Domain.{slots_fit}
use Rattle.sched_model.specs.laws.Small.{low_amount}
use Rattle.region.specs.declared.types.Bounds.{Bounds}
use Rattle.region.specs.Cells.{Region, bounds_of, is_there, unknown}
use Rattle.region.specs.Looks.{IsRegionOf, is_narrowed}
use Rattle.region.specs.laws.Lists.{both_true, all-at, placewise-at, placewise-length}
use Rattle.region.specs.laws.Present.{IsAllowed, there_within, shown_present, present_stands}
use Rattle.region.specs.laws.Standing.{least_is}
use Rattle.task_sets.specs.Times.{Times, has, set_p, sum_of, size_at, rises_from, IsSized}
use Rattle.task_sets.specs.laws.Sums.{load, sum_in, load_mono}
use Rattle.task_sets.specs.laws.Ects.{up_from, up_has}
use Rattle.refute_energy.specs.Energy.{is_bar, bar_of, is_bar_in, bar_in, is_bar_at, bar_at}
use Rattle.refute_energy.specs.laws.Area.{area, tall, pulse_area}

abbrev no_def : IntervalDef
no_def = record { name = []; optional = false; start_lo = pos 0; start_hi = pos 0; end_lo = pos 0; end_hi = pos 0; size_lo = pos 0; size_hi = pos 0 }

-- what a valid model says of the cells of an interval: its window lies between the first and the last moment, and its size
-- isn't negative
pub record IsWindow (c : Bounds) : Type 0 where
  pub from : neg_ℤ horizon ≤ℤ c.smin
  pub start : c.smin ≤ℤ horizon
  pub end : neg_ℤ horizon ≤ℤ c.emax
  pub to : c.emax ≤ℤ horizon
  pub size : pos 0 ≤ℤ c.pmin
  pub size_to : c.pmin ≤ℤ horizon

at_least : (z : ℤ) → int_le (pos 0) z ≡ true → pos 0 ≤ℤ z
at_least z h = grind (arith, ints)

span_ends : (lo hi : ℤ) → is_span_of_moments lo hi ≡ true → (neg_ℤ horizon ≤ℤ lo) × (hi ≤ℤ horizon)
span_ends lo hi h = (grind (arith, ints, h), grind (arith, ints, h))

before : (lo hi y z : ℤ) → is_span_of_moments lo hi ≡ true → int_le y z ≡ true → int_le z hi ≡ true → y ≤ℤ horizon
before lo hi y z h k l = let a : y ≤ℤ z = grind (arith, ints, k) in let b : z ≤ℤ hi = grind (arith, ints, l) in let c : hi ≤ℤ horizon = (span_ends lo hi h).1 in omega (arith, ints, a, b, c)

behind : (lo hi y z : ℤ) → is_span_of_moments lo hi ≡ true → int_le lo y ≡ true → int_le y z ≡ true → neg_ℤ horizon ≤ℤ z
behind lo hi y z h k l = let a : lo ≤ℤ y = grind (arith, ints, k) in let b : y ≤ℤ z = grind (arith, ints, l) in let c : neg_ℤ horizon ≤ℤ lo = (span_ends lo hi h).0 in omega (arith, ints, a, b, c)

low_end : (lo hi : ℤ) → is_span_of_moments lo hi ≡ true → lo ≤ℤ horizon
low_end lo hi h = grind (arith, ints, h)

first : (lo hi z : ℤ) → is_span_of_moments lo hi ≡ true → int_le lo z ≡ true → neg_ℤ horizon ≤ℤ z
first lo hi z h k = grind (arith, ints, h, k)

last : (lo hi z : ℤ) → is_span_of_moments lo hi ≡ true → int_le z hi ≡ true → z ≤ℤ horizon
last lo hi z h k = grind (arith, ints, h, k)

window_in : (d : IntervalDef) (c : Bounds) → is_interval_def d ≡ true → is_narrowed d c ≡ true → IsWindow c
window_in d c def narrow =
    let d3 = both_true (is_span_of_moments d.start_lo d.start_hi && is_span_of_moments d.end_lo d.end_hi && is_span_of_moments d.size_lo d.size_hi) (int_le (pos 0) d.size_lo) def in
    let d2 = both_true (is_span_of_moments d.start_lo d.start_hi && is_span_of_moments d.end_lo d.end_hi) (is_span_of_moments d.size_lo d.size_hi) d3.0 in
    let d1 = both_true (is_span_of_moments d.start_lo d.start_hi) (is_span_of_moments d.end_lo d.end_hi) d2.0 in
    let p8 = both_true _ _ (both_true _ _ narrow).0 in
    let p7 = both_true _ (int_le c.emax d.end_hi) p8.0 in
    let p6 = both_true _ (int_le c.emin c.emax) p7.0 in
    let p5 = both_true _ (int_le d.end_lo c.emin) p6.0 in
    let p4 = both_true _ (int_le c.smax d.start_hi) p5.0 in
    let p3 = both_true _ (int_le c.smin c.smax) p4.0 in
    let p2 = both_true _ (int_le d.start_lo c.smin) p3.0 in
    record {
      from = first d.start_lo d.start_hi c.smin d1.0 p2.1;
      start = before d.start_lo d.start_hi c.smin c.smax d1.0 p3.1 p4.1;
      end = behind d.end_lo d.end_hi c.emin c.emax d1.1 p5.1 p6.1;
      to = last d.end_lo d.end_hi c.emax d1.1 p7.1;
      size_to = subst (λ z. z ≤ℤ horizon) (least_is d c narrow) (low_end d.size_lo d.size_hi d2.1);
      size = subst (λ z. pos 0 ≤ℤ z) (least_is d c narrow) (at_least d.size_lo d3.1);
    }

pub window_of : (m : Data) (r : Region) (x : Itv) → IsValid m → IsRegionOf m r → x.0 < length r.bounds → IsWindow (bounds_of r x)
window_of m r x valid of within =
    let size : length m.intervals ≡ length r.bounds = placewise-length is_narrowed m.intervals r.bounds of.bounds in
    let inside : x.0 < length m.intervals = omega (arith, size, within) in
    window_in (get_or m.intervals x.0 no_def) (bounds_of r x) (all-at is_interval_def m.intervals x.0 no_def valid.intervals inside)
    (placewise-at is_narrowed m.intervals r.bounds x.0 no_def unknown of.bounds inside)

-- a present interval lasts its least size
lasts_in : (d : IntervalDef) (c : Bounds) (w : Slot) → is_narrowed d c ≡ true → fits_def d w ≡ true → is_here w ≡ true → c.pmin ≤ℤ (end_or (pos 0) w -ℤ start_or (pos 0) w)
lasts_in d c slot.Absent narrow fits there = cc
lasts_in d c (slot.Present s e) narrow fits there =
    let size = (both_true (is_between d.start_lo d.start_hi s && is_between d.end_lo d.end_hi e) (is_between d.size_lo d.size_hi (e -ℤ s)) fits).1 in
    lasting d.size_lo d.size_hi c.pmin s e size (least_is d c narrow)
  where
    lasting : (lo hi p s e : ℤ) → is_between lo hi (e -ℤ s) ≡ true → lo ≡ p → p ≤ℤ (e -ℤ s)
    lasting lo hi p s e h is = let low : lo ≤ℤ (e -ℤ s) = grind (arith, ints, h) in omega (arith, ints, low, is)

lasts : (m : Data) (r : Region) (a : Assignment) (x : Itv) → IsAllowed m r a → x.0 < length r.bounds → is_present a x ≡ true → (bounds_of r x).pmin ≤ℤ (end_of a x -ℤ start_of a x)
lasts m r a x ok within there =
    let size : length m.intervals ≡ length r.bounds = placewise-length is_narrowed m.intervals r.bounds ok.of.bounds in
    let inside : x.0 < length m.intervals = omega (arith, size, within) in
    lasts_in (get_or m.intervals x.0 no_def) (bounds_of r x) (slot_of a x)
    (placewise-at is_narrowed m.intervals r.bounds x.0 no_def unknown ok.of.bounds inside)
    (placewise-at fits_def m.intervals a.slots x.0 no_def slot.Absent (slots_fit m a ok.domain) inside) there

-- heights aren't negative
from_tall : (u h t : ℤ) → pos 0 ≤ℤ h → pos 0 ≤ℤ from_on u h t
from_tall u h t k = grind (arith, ints, k)

if_tall : (b : Bool) (z : ℤ) → pos 0 ≤ℤ z → pos 0 ≤ℤ (if b then z else pos 0)
if_tall true z h = h
if_tall false z h = omega (arith, ints)

height_low : (m : Data) (a : Assignment) (s : Shape) (t : ℤ) → is_shape m s ≡ true → pos 0 ≤ℤ shape_at a s t
height_low m a (Pulse u v h) t is = tall u v h t (low_amount h (both_true (is_span_of_moments u v) (is_amount h) is).1)
height_low m a (Step u h) t is = from_tall u h t (low_amount h (both_true (is_moment u) (is_amount h) is).1)
height_low m a (PulseOf x h) t is = if_tall (is_present a x) _ (tall _ _ h t (low_amount h (both_true (is_itv m x) (is_amount h) is).1))
height_low m a (StepAtStart x h) t is = if_tall (is_present a x) _ (from_tall _ h t (low_amount h (both_true (is_itv m x) (is_amount h) is).1))
height_low m a (StepAtEnd x h) t is = if_tall (is_present a x) _ (from_tall _ h t (low_amount h (both_true (is_itv m x) (is_amount h) is).1))

-- the height of the part at a place
abbrev pub height_in : Assignment → Option Part → ℤ → ℤ
height_in a None t = pos 0
height_in a (Some i) t = shape_at a i.shape t

abbrev pub height_at : Assignment → List Part → ℕ → ℤ → ℤ
height_at a is k t = height_in a (slice_get is k) t

abbrev pub fits_shape : Data → Option Part → Bool
fits_shape m o = passes_if_any (λ i. is_shape m i.shape) o

pub shape_there : (m : Data) (is : List Part) (k : ℕ) → list_all (λ i. is_shape m i.shape) is ≡ true → fits_shape m (slice_get is k) ≡ true
shape_there m [] k h = refl
shape_there m (i ∷ is) zero h = (both_true (is_shape m i.shape) (list_all (λ j. is_shape m j.shape) is) h).0
shape_there m (i ∷ is) (suc k) h = shape_there m is k (both_true (is_shape m i.shape) (list_all (λ j. is_shape m j.shape) is) h).1

part_low : (m : Data) (a : Assignment) (o : Option Part) (t : ℤ) → fits_shape m o ≡ true → pos 0 ≤ℤ height_in a o t
part_low m a None t h = omega (arith, ints)
part_low m a (Some i) t h = height_low m a i.shape t h

-- a bar has at least its energy in each window that it lies in
pub record FitsIn (c : Times) (lo : ℤ) (n : ℕ) : Type 0 where
  pub from : lo ≤ℤ c.est
  pub to : c.lct ≤ℤ (lo +ℤ pos n)

shape_fits : (m : Data) (r : Region) (a : Assignment) (s : Shape) (lo : ℤ) (n : ℕ) → IsValid m → IsAllowed m r a → is_shape m s ≡ true → is_bar r s ≡ true → FitsIn (bar_of r s) lo n → (bar_of r s).p ≤ℤ area (shape_at a s) lo n
shape_fits m r a (Pulse u v h) lo n valid ok shape bar fits = absurd (true≢false (sym bar))
shape_fits m r a (Step u h) lo n valid ok shape bar fits = absurd (true≢false (sym bar))
shape_fits m r a (StepAtStart x h) lo n valid ok shape bar fits = absurd (true≢false (sym bar))
shape_fits m r a (StepAtEnd x h) lo n valid ok shape bar fits = absurd (true≢false (sym bar))
shape_fits m r a (PulseOf x h) lo n valid ok shape bar fits =
    let here = shown_present m r a x ok bar in
    let within = there_within r x bar in
    let stands = present_stands m r a x ok here in
    let window = window_of m r x valid ok.of within in
    let from = fits.from in
    let to = fits.to in
    subst (λ b. (h *ℤ (bounds_of r x).pmin) ≤ℤ area (λ t. if b then between (start_of a x) (end_of a x) h t else pos 0) lo n) (sym here)
    (pulse_area (start_of a x) (end_of a x) h (bounds_of r x).pmin lo n (low_amount h (both_true (is_itv m x) (is_amount h) shape).1) window.size
    (omega (arith, ints, from, stands.est)) (let long = lasts m r a x ok within here in omega (arith, ints, long)) (omega (arith, ints, to, stands.lct)))

part_fits : (m : Data) (r : Region) (a : Assignment) (o : Option Part) (lo : ℤ) (n : ℕ) → IsValid m → IsAllowed m r a → fits_shape m o ≡ true → is_bar_in r o ≡ true → FitsIn (bar_in r o) lo n → (bar_in r o).p ≤ℤ area (height_in a o) lo n
part_fits m r a None lo n valid ok shape bar fits = absurd (true≢false (sym bar))
part_fits m r a (Some i) lo n valid ok shape bar fits = shape_fits m r a i.shape lo n valid ok shape bar fits

pub bar_fits : (m : Data) (r : Region) (a : Assignment) (is : List Part) (k : ℕ) (lo : ℤ) (n : ℕ) → IsValid m → IsAllowed m r a → list_all (λ i. is_shape m i.shape) is ≡ true → is_bar_at r is k ≡ true → FitsIn (bar_at r is k) lo n
    → (bar_at r is k).p ≤ℤ area (height_at a is k) lo n
bar_fits m r a is k lo n valid ok shapes bar fits = part_fits m r a (slice_get is k) lo n valid ok (shape_there m is k shapes) bar fits

-- a bar stands in the window of all moments
shape_window : (m : Data) (r : Region) (s : Shape) → IsValid m → IsRegionOf m r → is_bar r s ≡ true → (neg_ℤ horizon ≤ℤ (bar_of r s).est) × ((bar_of r s).lct ≤ℤ horizon)
shape_window m r (Pulse u v h) valid of bar = absurd (true≢false (sym bar))
shape_window m r (Step u h) valid of bar = absurd (true≢false (sym bar))
shape_window m r (StepAtStart x h) valid of bar = absurd (true≢false (sym bar))
shape_window m r (StepAtEnd x h) valid of bar = absurd (true≢false (sym bar))
shape_window m r (PulseOf x h) valid of bar = let w = window_of m r x valid of (there_within r x bar) in (w.from, w.to)

part_window : (m : Data) (r : Region) (o : Option Part) → IsValid m → IsRegionOf m r → is_bar_in r o ≡ true → (neg_ℤ horizon ≤ℤ (bar_in r o).est) × ((bar_in r o).lct ≤ℤ horizon)
part_window m r None valid of bar = absurd (true≢false (sym bar))
part_window m r (Some i) valid of bar = shape_window m r i.shape valid of bar

pub bar_window : (m : Data) (r : Region) (is : List Part) (k : ℕ) → IsValid m → IsRegionOf m r → is_bar_at r is k ≡ true → (neg_ℤ horizon ≤ℤ (bar_at r is k).est) × ((bar_at r is k).lct ≤ℤ horizon)
bar_window m r is k valid of bar = part_window m r (slice_get is k) valid of bar

-- a bar is an interval that is there
pub record IsOfInterval (r : Region) (c : Times) : Type 0 where
  pub x : Itv
  pub there : is_there r x ≡ true
  pub est : c.est ≡ (bounds_of r x).smin
  pub lct : c.lct ≡ (bounds_of r x).emax

pub bar_interval : (r : Region) (is : List Part) (k : ℕ) → is_bar_at r is k ≡ true → IsOfInterval r (bar_at r is k)
bar_interval r is k bar = of_part (slice_get is k) bar
  where
    of_shape : (s : Shape) → is_bar r s ≡ true → IsOfInterval r (bar_of r s)
    of_shape (Pulse u v h) bar = absurd (true≢false (sym bar))
    of_shape (Step u h) bar = absurd (true≢false (sym bar))
    of_shape (StepAtStart x h) bar = absurd (true≢false (sym bar))
    of_shape (StepAtEnd x h) bar = absurd (true≢false (sym bar))
    of_shape (PulseOf x h) bar = record { x = x; there = bar; est = refl; lct = refl }

    of_part : (o : Option Part) → is_bar_in r o ≡ true → IsOfInterval r (bar_in r o)
    of_part None bar = absurd (true≢false (sym bar))
    of_part (Some i) bar = of_shape i.shape bar

-- a bar starts no later than it ends in an allowed assignment
part_order : (m : Data) (r : Region) (a : Assignment) (o : Option Part) → IsValid m → IsAllowed m r a → is_bar_in r o ≡ true → (bar_in r o).est ≤ℤ (bar_in r o).lct
part_order m r a None valid ok bar = absurd (true≢false (sym bar))
part_order m r a (Some i) valid ok bar = shape_order i.shape bar
  where
    shape_order : (s : Shape) → is_bar r s ≡ true → (bar_of r s).est ≤ℤ (bar_of r s).lct
    shape_order (Pulse u v h) bar = absurd (true≢false (sym bar))
    shape_order (Step u h) bar = absurd (true≢false (sym bar))
    shape_order (StepAtStart x h) bar = absurd (true≢false (sym bar))
    shape_order (StepAtEnd x h) bar = absurd (true≢false (sym bar))
    shape_order (PulseOf x h) bar =
        let here = shown_present m r a x ok bar in
        let within = there_within r x bar in
        let stands = present_stands m r a x ok here in
        let window = window_of m r x valid ok.of within in
        let long = lasts m r a x ok within here in
        omega (arith, ints, stands.est, stands.lct, window.size, long)

pub bar_order : (m : Data) (r : Region) (a : Assignment) (is : List Part) (k : ℕ) → IsValid m → IsAllowed m r a → is_bar_at r is k ≡ true → (bar_at r is k).est ≤ℤ (bar_at r is k).lct
bar_order m r a is k valid ok bar = part_order m r a (slice_get is k) valid ok bar

-- a bar is a part
bar_there : (r : Region) (is : List Part) (k : ℕ) → is_bar_at r is k ≡ true → k < length is
bar_there r [] k h = absurd (true≢false (sym h))
bar_there r (i ∷ is) zero h = omega arith
bar_there r (i ∷ is) (suc k) h = let rest = bar_there r is k h in omega (arith, rest)

pub bars_below : (r : Region) (is : List Part) (k : ℕ) → is_bar_at r is k ≡ true → k < length is
bars_below r is k h = bar_there r is k h

-- a set of parts is never higher than all of them

all_heights : (a : Assignment) (is : List Part) (t : ℤ) (b : ℕ) (g : ℕ → ℤ) → ((i : ℕ) → g (b + i) ≡ height_at a is i t) → load g (λ y. true) (up_from b (length is)) ≡ total (map (λ i. shape_at a i.shape t) is)
all_heights a [] t b g each = refl
all_heights a (i ∷ is) t b g each =
    both (g b) (shape_at a i.shape t) _ _ (ap g (here b) ∙ each 0) (all_heights a is t (suc b) g (λ j. ap g (next b j) ∙ each (suc j)))
  where
    here : (b : ℕ) → b ≡ b + 0
    here b = omega arith

    next : (b j : ℕ) → suc b + j ≡ b + suc j
    next b j = omega arith

    both : (x y z w : ℤ) → x ≡ y → z ≡ w → (x +ℤ z) ≡ (y +ℤ w)
    both x y z w h k = omega (arith, ints, h, k)

fused : (d : ℕ → Times) (ks : List ℕ) → set_p (map d ks) ≡ total (map (λ k. (d k).p) ks)
fused d [] = refl
fused d (k ∷ ks) = ap (λ z. (d k).p +ℤ z) (fused d ks)

pub energies : (r : Region) (is : List Part) (ks : List ℕ) → set_p (map (bar_at r is) ks) ≡ total (map (λ k. (bar_at r is k).p) ks)
energies r is ks = fused (bar_at r is) ks

pub heights_below : (m : Data) (a : Assignment) (is : List Part) (t : ℤ) (x : ℕ) (xs : List ℕ) → list_all (λ i. is_shape m i.shape) is ≡ true → rises_from x xs ≡ true → ((k : ℕ) → has (x ∷ xs) k ≡ true → k < length is)
    → total (map (λ k. height_at a is k t) (x ∷ xs)) ≤ℤ total (map (λ i. shape_at a i.shape t) is)
heights_below m a is t x xs shapes rises inside =
    let d : ℕ → Times = λ k. record { est = pos 0; lct = pos 0; lst = pos 0; ect = pos 0; p = height_at a is k t } in
    let sized : IsSized d = record { sizes = λ k. part_low m a (slice_get is k) t (shape_there m is k shapes) } in
    let one = sum_in d (up_from 0 (length is)) x xs sized rises (λ k here. up_has 0 (length is) k (omega arith) (omega (arith, inside k here))) in
    let two = load_mono (size_at d) (has (x ∷ xs)) (λ y. true) (up_from 0 (length is)) sized.sizes (λ y h. refl) in
    let all = all_heights a is t 0 (λ k. height_at a is k t) (λ i. ap (λ k. height_at a is k t) (same_place i)) in
    let same = fused d (x ∷ xs) in
    chain (sum_of d (x ∷ xs)) (total (map (λ k. height_at a is k t) (x ∷ xs))) _ _ _ same one two all
  where
    same_place : (i : ℕ) → 0 + i ≡ i
    same_place i = omega arith

    chain : (a b c d e : ℤ) → a ≡ b → a ≤ℤ c → c ≤ℤ d → d ≡ e → b ≤ℤ e
    chain a b c d e i j k l = omega (arith, ints, i, j, k, l)

-- and that is the level where no part is subtracted
pub level_is : (a : Assignment) (is : List Part) (t : ℤ) → list_all (λ i. not i.minus) is ≡ true → total (map (λ i. signed i.minus (shape_at a i.shape t)) is) ≡ total (map (λ i. shape_at a i.shape t) is)
level_is a [] t h = refl
level_is a (i ∷ is) t h =
    let two = both_true (not i.minus) (list_all (λ j. not j.minus) is) h in
    ap (λ z. z +ℤ total (map (λ j. signed j.minus (shape_at a j.shape t)) is)) (plain i.minus two.0) ∙ ap (λ z. shape_at a i.shape t +ℤ z) (level_is a is t two.1)
  where
    plain : (b : Bool) → not b ≡ true → signed b (shape_at a i.shape t) ≡ shape_at a i.shape t
    plain true h = absurd (true≢false (sym h))
    plain false h = refl
