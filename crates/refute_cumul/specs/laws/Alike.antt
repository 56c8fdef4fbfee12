-- The row reads no more than the bounds and the presence of the intervals of a function and of a window.
use Rattle.std.specs.Prelude.{◌≡◌, ℕ, ℤ, pos, neg_ℤ, ◌+ℤ◌, true, false, ◌&&◌, ◌||◌, if◌then◌else◌, List, [], ◌∷◌, ◌++◌, map, Option, Some, None, slice_get, nat_eq, int_le, int_lt}
use Rattle.std.specs.List.{flat_map}
use Rattle.std.proofs.Common.{refl, ap, ◌∙◌}
use Rattle.std.proofs.lemmas.Bool.{or_left}
use Rattle.sched_base.specs.declared.ids.Itv.{Itv}
use Rattle.sched_base.specs.declared.ids.Cum.{Cum}
use Rattle.sched_model.specs.declared.types.Shape.{Shape}
use Rattle.sched_model.specs.declared.types.Shape.TheVariants.{Pulse, Step, PulseOf, StepAtStart, StepAtEnd}
use Rattle.sched_model.specs.declared.types.Part.{Part}
use Rattle.sched_model.specs.declared.types.Window.{Window}
use Rattle.sched_model.specs.declared.types.Window.TheVariants.{Always, Moments, During}
use Rattle.sched_model.specs.declared.types.Constraint.{Constraint}
use Rattle.sched_model.specs.declared.types.Constraint.TheVariants as constraint
use Rattle.sched_model.specs.Words.{passes, total}
use Rattle.sched_model.specs.Data.{Data, same, has, parts_of}
use Rattle.sched_model.specs.Cumulative.{from_on, between}
use Rattle.region.specs.Cells.{Region, bounds_of, says_present, says_absent}
use Rattle.region.specs.Looks.{Seen, est_in, lst_in, ect_in, lct_in}
use Rattle.region.specs.laws.OneSequence.{same_self}
use Rattle.refute_cumul.specs.Levels.{shape_min, shape_max, part_min, part_max, level_min, level_max, is_surely_in}
use Rattle.refute_cumul.specs.Point.{leaves, point_case, point_of, point_row}
use Rattle.refute_cumul.specs.Listed.{shape_names, window_names, names_in, names_of}
use Rattle.sched_model.specs.laws.Names.{has_left, has_right}

-- the same is known of each of these intervals in two regions
abbrev pub SameEach : Region → Region → List Itv → Type 0
SameEach r q xs = (x : Itv) → has xs x ≡ true → bounds_of r x ≡ bounds_of q x

pub left_same : (r q : Region) (xs ys : List Itv) → SameEach r q (xs ++ ys) → SameEach r q xs
left_same r q xs ys each x here = each x (has_left xs ys x here)

pub right_same : (r q : Region) (xs ys : List Itv) → SameEach r q (xs ++ ys) → SameEach r q ys
right_same r q xs ys each x here = each x (has_right xs ys x here)

pub only_same : (r q : Region) (x : Itv) → SameEach r q (x ∷ []) → bounds_of r x ≡ bounds_of q x
only_same r q x each = each x (or_left (same x x) false (same_self x))

pub shape_min_alike : (r q : Region) (s : Shape) (t : ℤ) → SameEach r q (shape_names s) → shape_min r s t ≡ shape_min q s t
shape_min_alike r q (Pulse u v h) t each = refl
shape_min_alike r q (Step u h) t each = refl
shape_min_alike r q (PulseOf x h) t each = ap (λ c. if says_present c.presence then between (lst_in c) (ect_in c) h t else pos 0) (only_same r q x each)
shape_min_alike r q (StepAtStart x h) t each = ap (λ c. if says_present c.presence then from_on (lst_in c) h t else pos 0) (only_same r q x each)
shape_min_alike r q (StepAtEnd x h) t each = ap (λ c. if says_present c.presence then from_on (lct_in c) h t else pos 0) (only_same r q x each)

pub shape_max_alike : (r q : Region) (s : Shape) (t : ℤ) → SameEach r q (shape_names s) → shape_max r s t ≡ shape_max q s t
shape_max_alike r q (Pulse u v h) t each = refl
shape_max_alike r q (Step u h) t each = refl
shape_max_alike r q (PulseOf x h) t each = ap (λ c. if says_absent c.presence then pos 0 else between (est_in c) (lct_in c) h t) (only_same r q x each)
shape_max_alike r q (StepAtStart x h) t each = ap (λ c. if says_absent c.presence then pos 0 else from_on (est_in c) h t) (only_same r q x each)
shape_max_alike r q (StepAtEnd x h) t each = ap (λ c. if says_absent c.presence then pos 0 else from_on (ect_in c) h t) (only_same r q x each)

part_min_alike : (r q : Region) (i : Part) (t : ℤ) → SameEach r q (shape_names i.shape) → part_min r t i ≡ part_min q t i
part_min_alike r q i t each = ap (λ z. if i.minus then neg_ℤ (shape_max r i.shape t) else z) (shape_min_alike r q i.shape t each) ∙ ap (λ z. if i.minus then neg_ℤ z else shape_min q i.shape t) (shape_max_alike r q i.shape t each)

part_max_alike : (r q : Region) (i : Part) (t : ℤ) → SameEach r q (shape_names i.shape) → part_max r t i ≡ part_max q t i
part_max_alike r q i t each = ap (λ z. if i.minus then neg_ℤ (shape_min r i.shape t) else z) (shape_max_alike r q i.shape t each) ∙ ap (λ z. if i.minus then neg_ℤ z else shape_max q i.shape t) (shape_min_alike r q i.shape t each)

sum_alike : (f g : Part → ℤ) (r q : Region) (is : List Part) → ((i : Part) → SameEach r q (shape_names i.shape) → f i ≡ g i) → SameEach r q (flat_map (λ i. shape_names i.shape) is) → total (map f is) ≡ total (map g is)
sum_alike f g r q [] one each = refl
sum_alike f g r q (i ∷ is) one each =
    ap (λ z. z +ℤ total (map f is)) (one i (left_same r q (shape_names i.shape) (flat_map (λ j. shape_names j.shape) is) each))
    ∙ ap (λ z. g i +ℤ z) (sum_alike f g r q is one (right_same r q (shape_names i.shape) (flat_map (λ j. shape_names j.shape) is) each))

pub level_min_alike : (r q : Region) (is : List Part) (t : ℤ) → SameEach r q (flat_map (λ i. shape_names i.shape) is) → level_min r is t ≡ level_min q is t
level_min_alike r q is t each = sum_alike (part_min r t) (part_min q t) r q is (λ i. part_min_alike r q i t) each

pub level_max_alike : (r q : Region) (is : List Part) (t : ℤ) → SameEach r q (flat_map (λ i. shape_names i.shape) is) → level_max r is t ≡ level_max q is t
level_max_alike r q is t each = sum_alike (part_max r t) (part_max q t) r q is (λ i. part_max_alike r q i t) each

pub window_alike : (r q : Region) (w : Window) (t : ℤ) → SameEach r q (window_names w) → is_surely_in r w t ≡ is_surely_in q w t
window_alike r q Always t each = refl
window_alike r q (Moments u v) t each = refl
window_alike r q (During x) t each = ap (λ c. says_present c.presence && int_le (lst_in c) t && int_lt t (ect_in c)) (only_same r q x each)

case_alike : (m : Data) (r q : Region) (t : ℤ) (u : ℕ) (f : Cum) (w : Window) (lo hi : ℤ) → SameEach r q (names_in (parts_of m f) w) → point_case m r t u f w lo hi ≡ point_case m q t u f w lo hi
case_alike m r q t u f w lo hi each =
    let is = parts_of m f in
    let parts = right_same r q (window_names w) (flat_map (λ i. shape_names i.shape) is) each in
    ap (λ b. b && leaves r is lo hi u t) (window_alike r q w t (left_same r q (window_names w) (flat_map (λ i. shape_names i.shape) is) each))
    ∙ ap (λ z. is_surely_in q w t && ((nat_eq u 0 && int_lt hi z) || (nat_eq u 1 && int_lt (level_max r is t) lo))) (level_min_alike r q is t parts)
    ∙ ap (λ z. is_surely_in q w t && ((nat_eq u 0 && int_lt hi (level_min q is t)) || (nat_eq u 1 && int_lt z lo))) (level_max_alike r q is t parts)

-- POINT reads the bounds of the intervals of its function and of its window
pub point_alike : (m : Data) (l k : Seen) (c : ℕ) (t : ℤ) (u : ℕ) → SameEach l.region k.region (names_of m (slice_get m.constraints c)) → point_row m l c t u ≡ point_row m k c t u
point_alike m l k c t u h = at (slice_get m.constraints c) h
  where
    at : (o : Option Constraint) → SameEach l.region k.region (names_of m o) → passes (point_of m l.region t u) o ≡ passes (point_of m k.region t u) o
    at None h = refl
    at (Some (constraint.CumulIn f w lo hi)) h = case_alike m l.region k.region t u f w lo hi h
    at (Some other) h = refl
