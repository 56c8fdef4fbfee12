-- A cumulative function from the side on which it must not rise: as it is for its upper bound, and upside down for its lower
-- bound. Of each part that leaves what stands at least, an elementary function with fixed moments.
use Rattle.std.specs.Prelude.{ℤ, pos, neg_ℤ, Bool, not, ◌&&◌, if◌then◌else◌, List, map, int_le, int_lt}
use Rattle.sched_model.specs.declared.types.Shape.{Shape}
use Rattle.sched_model.specs.declared.types.Shape.TheVariants.{Pulse, Step, PulseOf, StepAtStart, StepAtEnd}
use Rattle.sched_model.specs.declared.types.Part.{Part}
use Rattle.sched_model.specs.declared.types.Window.{Window}
use Rattle.sched_model.specs.declared.types.Window.TheVariants.{Always, Moments, During}
use Rattle.sched_model.specs.Words.{total}
use Rattle.sched_model.specs.Data.{horizon}
use Rattle.sched_model.specs.Cumulative.{from_on, between, signed}
use Rattle.region.specs.declared.types.Bounds.{Bounds}
use Rattle.region.specs.Cells.{Region, bounds_of, is_there, says_present, says_absent}
use Rattle.region.specs.Looks.{est_in, lst_in, ect_in, lct_in, lst_of, ect_of}

abbrev pub nothing : Shape
nothing = Pulse (pos 0) (pos 0) (pos 0)

-- of an interval with these bounds: whether what is added, or subtracted, stands at least, and from when until when
abbrev pub counts : Bool → Bounds → Bool
counts minus c = if minus then not (says_absent c.presence) else says_present c.presence

abbrev pub start_in : Bool → Bounds → ℤ
start_in minus c = if minus then est_in c else lst_in c

abbrev pub until_in : Bool → Bounds → ℤ
until_in minus c = if minus then lct_in c else ect_in c

abbrev pub end_in : Bool → Bounds → ℤ
end_in minus c = if minus then ect_in c else lct_in c

abbrev pub pulse_in : Bool → Bounds → ℤ → Shape
pulse_in minus c h = Pulse (start_in minus c) (until_in minus c) h

abbrev pub standing : Bool → Bounds → Shape → Shape
standing minus c (PulseOf x h) = pulse_in minus c h
standing minus c (StepAtStart x h) = Step (start_in minus c) h
standing minus c (StepAtEnd x h) = Step (end_in minus c) h
standing minus c s = s

abbrev pub bounded_of : Bool → Bounds → Shape → Shape
bounded_of minus c s = if counts minus c then standing minus c s else nothing

-- the same in a region; what names no interval stands as it is
abbrev pub bounded_shape : Region → Bool → Shape → Shape
bounded_shape r minus (Pulse u v h) = Pulse u v h
bounded_shape r minus (Step u h) = Step u h
bounded_shape r minus (PulseOf x h) = bounded_of minus (bounds_of r x) (PulseOf x h)
bounded_shape r minus (StepAtStart x h) = bounded_of minus (bounds_of r x) (StepAtStart x h)
bounded_shape r minus (StepAtEnd x h) = bounded_of minus (bounds_of r x) (StepAtEnd x h)

-- the height of a shape with fixed moments
abbrev pub height_at : Shape → ℤ → ℤ
height_at (Pulse u v h) t = between u v h t
height_at (Step u h) t = from_on u h t
height_at _ t = pos 0

-- a part that is subtracted is added upside down
abbrev pub is_minus : Bool → Bool → Bool
is_minus below minus = if below then not minus else minus

abbrev pub bounded : Region → Bool → Part → Part
bounded r below i = record { minus = is_minus below i.minus; shape = bounded_shape r (is_minus below i.minus) i.shape }

abbrev pub load_of : Part → ℤ → ℤ
load_of i t = signed i.minus (height_at i.shape t)

-- the load of some parts, and the number that it must not pass
abbrev pub load : Region → Bool → List Part → ℤ → ℤ
load r below is t = total (map (λ i. load_of (bounded r below i) t) is)

abbrev pub limit_of : Bool → ℤ → ℤ → ℤ
limit_of below lo hi = if below then neg_ℤ lo else hi

abbrev pub is_over : Region → List Part → ℤ → ℤ → Bool → ℤ → Bool
is_over r is lo hi below t = int_lt (limit_of below lo hi) (load r below is t)

-- the moments from the first until before the second
abbrev pub is_from : ℤ → ℤ → ℤ → Bool
is_from u v t = int_le u t && int_lt t v

-- those of a window
abbrev pub window_of : Region → Window → ℤ × ℤ
window_of r Always = (neg_ℤ horizon, horizon)
window_of r (Moments u v) = (u, v)
window_of r (During x) = if is_there r x then (lst_of r x, ect_of r x) else (pos 0, pos 0)
