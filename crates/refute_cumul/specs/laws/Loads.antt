-- The load of a cumulative function is its least level, and upside down its greatest, turned.
use Rattle.std.specs.Prelude.{◌≡◌, ℕ, ℤ, pos, neg_ℤ, ◌+ℤ◌, Bool, true, false, not, ◌&&◌, ◌||◌, if◌then◌else◌, List, [], ◌∷◌, int_le, int_lt}
use Rattle.std.proofs.Common.{refl, sym, ap, ◌∙◌, arith}
use Rattle.std.proofs.lemmas.Int.{ints}
use Rattle.sched_model.specs.declared.types.Shape.{Shape}
use Rattle.sched_model.specs.declared.types.Shape.TheVariants.{Pulse, Step, PulseOf, StepAtStart, StepAtEnd}
use Rattle.sched_model.specs.declared.types.Part.{Part}
use Rattle.sched_model.specs.declared.types.Window.{Window}
use Rattle.sched_model.specs.declared.types.Window.TheVariants.{Always, Moments, During}
use Rattle.sched_model.specs.Cumulative.{between, signed}
use Rattle.region.specs.Cells.{Region, is_there}
use Rattle.region.specs.Looks.{est_of, lst_of, ect_of, lct_of}
use Rattle.refute_cumul.specs.Levels.{is_away, shape_min, shape_max, part_min, part_max, level_min, level_max, is_surely_in}
use Rattle.refute_cumul.specs.code.Loads.{nothing, bounded_shape, height_at, bounded, load_of, load, is_over, is_from, window_of}
use Rattle.refute_cumul.specs.Point.{leaves}

empty : (t : ℤ) → between (pos 0) (pos 0) (pos 0) t ≡ pos 0
empty t = grind (arith, ints)

sure : (b : Bool) (s : Shape) (z t : ℤ) → height_at s t ≡ z → height_at (if b then s else nothing) t ≡ (if b then z else pos 0)
sure true s z t h = h
sure false s z t h = empty t

unless : (b : Bool) (s : Shape) (z t : ℤ) → height_at s t ≡ z → height_at (if not b then s else nothing) t ≡ (if b then pos 0 else z)
unless true s z t h = empty t
unless false s z t h = h

shape_least : (r : Region) (s : Shape) (t : ℤ) → height_at (bounded_shape r false s) t ≡ shape_min r s t
shape_least r (Pulse u v h) t = refl
shape_least r (Step u h) t = refl
shape_least r (PulseOf x h) t = sure (is_there r x) (Pulse (lst_of r x) (ect_of r x) h) _ t refl
shape_least r (StepAtStart x h) t = sure (is_there r x) (Step (lst_of r x) h) _ t refl
shape_least r (StepAtEnd x h) t = sure (is_there r x) (Step (lct_of r x) h) _ t refl

shape_greatest : (r : Region) (s : Shape) (t : ℤ) → height_at (bounded_shape r true s) t ≡ shape_max r s t
shape_greatest r (Pulse u v h) t = refl
shape_greatest r (Step u h) t = refl
shape_greatest r (PulseOf x h) t = unless (is_away r x) (Pulse (est_of r x) (lct_of r x) h) _ t refl
shape_greatest r (StepAtStart x h) t = unless (is_away r x) (Step (est_of r x) h) _ t refl
shape_greatest r (StepAtEnd x h) t = unless (is_away r x) (Step (ect_of r x) h) _ t refl

least_by : (r : Region) (minus : Bool) (s : Shape) (t : ℤ) → signed minus (height_at (bounded_shape r minus s) t) ≡ (if minus then neg_ℤ (shape_max r s t) else shape_min r s t)
least_by r true s t = ap neg_ℤ (shape_greatest r s t)
least_by r false s t = shape_least r s t

part_least : (r : Region) (i : Part) (t : ℤ) → load_of (bounded r false i) t ≡ part_min r t i
part_least r i t = least_by r i.minus i.shape t

twice : (z : ℤ) → neg_ℤ (neg_ℤ z) ≡ z
twice z = omega (arith, ints)

greatest_by : (r : Region) (minus : Bool) (s : Shape) (t : ℤ) → signed (not minus) (height_at (bounded_shape r (not minus) s) t) ≡ neg_ℤ (if minus then neg_ℤ (shape_min r s t) else shape_max r s t)
greatest_by r true s t = shape_least r s t ∙ sym (twice (shape_min r s t))
greatest_by r false s t = ap neg_ℤ (shape_greatest r s t)

part_greatest : (r : Region) (i : Part) (t : ℤ) → load_of (bounded r true i) t ≡ neg_ℤ (part_max r t i)
part_greatest r i t = greatest_by r i.minus i.shape t

pub load_least : (r : Region) (is : List Part) (t : ℤ) → load r false is t ≡ level_min r is t
load_least r [] t = refl
load_least r (i ∷ is) t = ap (λ z. z +ℤ load r false is t) (part_least r i t) ∙ ap (λ z. part_min r t i +ℤ z) (load_least r is t)

negated : (a b z : ℤ) → z ≡ neg_ℤ b → (neg_ℤ a +ℤ z) ≡ neg_ℤ (a +ℤ b)
negated a b z h = omega (arith, ints, h)

pub load_greatest : (r : Region) (is : List Part) (t : ℤ) → load r true is t ≡ neg_ℤ (level_max r is t)
load_greatest r [] t = refl
load_greatest r (i ∷ is) t = ap (λ z. z +ℤ load r true is t) (part_greatest r i t) ∙ negated (part_max r t i) (level_max r is t) (load r true is t) (load_greatest r is t)

-- so POINT asks whether the load passes its limit
over : (a b : ℤ) → int_lt (neg_ℤ a) (neg_ℤ b) ≡ int_lt b a
over a b = grind (arith, ints)

last : (b : Bool) → b ≡ (b || false)
last true = refl
last false = refl

-- the case of a side
abbrev pub side : Bool → ℕ
side true = 1
side false = 0

pub leaves_is : (r : Region) (is : List Part) (lo hi : ℤ) (below : Bool) (t : ℤ) → is_over r is lo hi below t ≡ leaves r is lo hi (side below) t
leaves_is r is lo hi false t = ap (int_lt hi) (load_least r is t) ∙ last (int_lt hi (level_min r is t))
leaves_is r is lo hi true t = ap (int_lt (neg_ℤ lo)) (load_greatest r is t) ∙ over lo (level_max r is t)

-- the moments of a window
nowhere : (t : ℤ) → is_from (pos 0) (pos 0) t ≡ false
nowhere t = grind (arith, ints)

amid_of : (b : Bool) (u v t : ℤ) → let w : ℤ × ℤ = if b then (u, v) else (pos 0, pos 0) in is_from w.0 w.1 t ≡ (b && int_le u t && int_lt t v)
amid_of true u v t = refl
amid_of false u v t = nowhere t

pub window_is : (r : Region) (w : Window) (t : ℤ) → is_from (window_of r w).0 (window_of r w).1 t ≡ is_surely_in r w t
window_is r Always t = refl
window_is r (Moments u v) t = refl
window_is r (During x) t = amid_of (is_there r x) (lst_of r x) (ect_of r x) t
