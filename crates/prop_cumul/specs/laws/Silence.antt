-- A bound that is further away than all parts together can come is never passed.
use Rattle.std.specs.Prelude.{◌≡◌, ℕ, suc, ◌*◌, ℤ, pos, ◌+ℤ◌, ◌≤ℤ◌, Bool, true, false, ◌&&◌, if◌then◌else◌, List, [], ◌∷◌, length, int_le, int_lt}
use Rattle.std.specs.List.{list_all}
use Rattle.std.proofs.Common.{refl, arith}
use Rattle.std.proofs.lemmas.Int.{ints}
use Rattle.sched_base.specs.declared.ids.Itv.{Itv}
use Rattle.sched_model.specs.declared.types.Shape.{Shape}
use Rattle.sched_model.specs.declared.types.Shape.TheVariants.{Pulse, Step, PulseOf, StepAtStart, StepAtEnd}
use Rattle.sched_model.specs.declared.types.Part.{Part}
use Rattle.sched_model.specs.Bounds.{is_amount, is_span_of_moments, is_moment}
use Rattle.sched_model.specs.Data.{Data, parts_of}
use Rattle.sched_model.specs.Valid.{IsValid, is_shape, is_itv}
use Rattle.sched_model.specs.Cumulative.{between, from_on, signed}
use Rattle.region.specs.Cells.{Region, bounds_of}
use Rattle.region.specs.Guesses.{with_guess}
use Rattle.region.specs.laws.Lists.{both_true}
use Rattle.refute_cumul.specs.declared.bound.Bound.{Bound}
use Rattle.refute_cumul.specs.Levels.{is_surely_in}
use Rattle.refute_cumul.specs.code.Loads.{nothing, counts, standing, bounded_shape, is_minus, bounded, height_at, load_of, load, limit_of, is_over}
use Rattle.refute_cumul.specs.laws.Levels.{valid_parts}
use Rattle.prop_cumul.specs.code.Asking.{NeverHigh, IsSideQuiet}
use Rattle.prop_cumul.specs.code.Silence.{is_out_of_reach}

-- a height that is at most a million, and at least 0
abbrev IsLow : ℤ → Type 0
IsLow z = (pos 0 ≤ℤ z) × (z ≤ℤ pos 1000000)

amount_low : (h : ℤ) → is_amount h ≡ true → IsLow h
amount_low h k = (grind (arith, ints, k), grind (arith, ints, k))

between_low : (u v h t : ℤ) → IsLow h → IsLow (between u v h t)
between_low u v h t k = let a = k.0 in let b = k.1 in (grind (arith, ints, a), grind (arith, ints, b))

from_low : (u h t : ℤ) → IsLow h → IsLow (from_on u h t)
from_low u h t k = let a = k.0 in let b = k.1 in (grind (arith, ints, a), grind (arith, ints, b))

unless_low : (b : Bool) (s : Shape) (t : ℤ) → IsLow (height_at s t) → IsLow (height_at (if b then s else nothing) t)
unless_low true s t k = k
unless_low false s t k = between_low (pos 0) (pos 0) (pos 0) t (omega (arith, ints), omega (arith, ints))

shape_low : (m : Data) (r : Region) (minus : Bool) (s : Shape) (t : ℤ) → is_shape m s ≡ true → IsLow (height_at (bounded_shape r minus s) t)
shape_low m r minus (Pulse u v h) t is = between_low u v h t (amount_low h (both_true (is_span_of_moments u v) (is_amount h) is).1)
shape_low m r minus (Step u h) t is = from_low u h t (amount_low h (both_true (is_moment u) (is_amount h) is).1)
shape_low m r minus (PulseOf x h) t is = unless_low (counts minus (bounds_of r x)) (standing minus (bounds_of r x) (PulseOf x h)) t (between_low _ _ h t (amount_low h (both_true (is_itv m x) (is_amount h) is).1))
shape_low m r minus (StepAtStart x h) t is = unless_low (counts minus (bounds_of r x)) (standing minus (bounds_of r x) (StepAtStart x h)) t (from_low _ h t (amount_low h (both_true (is_itv m x) (is_amount h) is).1))
shape_low m r minus (StepAtEnd x h) t is = unless_low (counts minus (bounds_of r x)) (standing minus (bounds_of r x) (StepAtEnd x h)) t (from_low _ h t (amount_low h (both_true (is_itv m x) (is_amount h) is).1))

signed_low : (minus : Bool) (z : ℤ) → IsLow z → signed minus z ≤ℤ pos 1000000
signed_low true z k = let a = k.0 in omega (arith, ints, a)
signed_low false z k = k.1

total_low : (z rest : ℤ) (n : ℕ) → z ≤ℤ pos 1000000 → rest ≤ℤ pos (1000000 * n) → (z +ℤ rest) ≤ℤ pos (1000000 * suc n)
total_low z rest n h k = omega (arith, ints, h, k)

pub load_low : (m : Data) (r : Region) (below : Bool) (is : List Part) (t : ℤ) → list_all (λ i. is_shape m i.shape) is ≡ true → load r below is t ≤ℤ pos (1000000 * length is)
load_low m r below [] t valid = omega (arith, ints)
load_low m r below (i ∷ is) t valid =
    let two = both_true (is_shape m i.shape) (list_all (λ j. is_shape m j.shape) is) valid in
    total_low (load_of (bounded r below i) t) (load r below is t) (length is) (signed_low (bounded r below i).minus _ (shape_low m r (is_minus below i.minus) i.shape t two.0)) (load_low m r below is t two.1)

pub never_high : (m : Data) (r : Region) (b : Bound) (below : Bool) → IsValid m → is_out_of_reach m b below ≡ true → NeverHigh m r b below
never_high m r b below valid far t = second_fails (is_surely_in r b.window t) (is_over r (parts_of m b.f) b.lo b.hi below t) (low (limit_of below b.lo b.hi) (pos (1000000 * length (parts_of m b.f))) (load r below (parts_of m b.f) t) far (load_low m r below (parts_of m b.f) t (valid_parts m b.f valid)))
  where
    low : (limit top z : ℤ) → int_le top limit ≡ true → z ≤ℤ top → int_lt limit z ≡ false
    low limit top z h k = grind (arith, ints, h, k)

    second_fails : (p q : Bool) → q ≡ false → (p && q) ≡ false
    second_fails true q h = h
    second_fails false q h = refl

pub out_of_reach : (m : Data) (r : Region) (b : Bound) (below : Bool) (xs : List Itv) → IsValid m → is_out_of_reach m b below ≡ true → IsSideQuiet m r b below xs
out_of_reach m r b below xs valid far = record { plain = never_high m r b below valid far; under = λ x here g on open_end. never_high m (with_guess g r) b below valid far }
