-- Where no guess on an interval raises the level too far.
use Rattle.std.specs.Prelude.{◌≡◌, ℤ, pos, ◌+ℤ◌, ◌-ℤ◌, ◌≤ℤ◌, ◌<ℤ◌, Bool, true, not, ◌&&◌, if◌then◌else◌, List, Option, Some, None, int_le, int_lt}
use Rattle.std.specs.Int.{int_min, int_max}
use Rattle.sched_base.specs.declared.ids.Itv.{Itv}
use Rattle.sched_model.specs.declared.types.Shape.{Shape}
use Rattle.sched_model.specs.declared.types.Shape.TheVariants.{PulseOf, StepAtStart, StepAtEnd}
use Rattle.sched_model.specs.Data.{same}
use Rattle.region.specs.declared.types.Bounds.{Bounds}
use Rattle.region.specs.declared.types.Presence.{Presence}
use Rattle.region.specs.Cells.{Region, says_present}
use Rattle.region.specs.Looks.{lst_in, ect_in}
use Rattle.refute_cumul.specs.declared.bound.Bound.{Bound}
use Rattle.refute_cumul.specs.declared.profile.Level.{Level}
use Rattle.refute_cumul.specs.code.Loads.{limit_of, window_of}
use Rattle.refute_cumul.specs.code.Profiles.{level_in, StaysBelow}
use Rattle.prop_cumul.specs.declared.calm.Calm.{Calm}
use Rattle.prop_cumul.specs.declared.calm.Stretch.{Stretch}

-- these are the moments of the window under each guess, and the bound is passed at none of them as things stand
pub record IsCalm (b : Bound) (below : Bool) (ps : List Level) (calm : Calm) : Type 0 where
  pub window : (r : Region) → (calm.from, calm.to) ≡ window_of r b.window
  pub limit : calm.limit ≡ limit_of below b.lo b.hi
  pub low : StaysBelow ps calm.from calm.to calm.limit

-- how much a shape adds or takes away, where it is of this interval
abbrev pub height_of : Itv → Shape → Option ℤ
height_of x (PulseOf a h) = if same a x && int_le (pos 0) h then Some h else None
height_of x (StepAtStart a h) = if same a x && int_le (pos 0) h then Some h else None
height_of x (StepAtEnd a h) = if same a x && int_le (pos 0) h then Some h else None
height_of x _ = None

-- under no guess it has to run before the first, nor from the second on
abbrev pub least_start : Bounds → ℤ
least_start c = int_min c.smin (c.emin -ℤ c.pmin)

abbrev pub greatest_end : Bounds → ℤ
greatest_end c = int_max c.emax (c.smax +ℤ c.pmin)

-- where a guess may change what a part adds, or with minus what it takes away
abbrev pub pulse_stretch : Bool → Bounds → Stretch
pulse_stretch minus c = if minus then record { from = c.smin; to = c.emax; kept_from = c.smax; kept_to = c.emin } else record { from = least_start c; to = greatest_end c; kept_from = lst_in c; kept_to = ect_in c }

abbrev pub start_stretch : Bool → Bounds → ℤ → Stretch
start_stretch minus c end = if minus then record { from = c.smin; to = end; kept_from = c.smax; kept_to = end } else record { from = least_start c; to = end; kept_from = lst_in c; kept_to = end }

abbrev pub end_stretch : Bool → Bounds → ℤ → Stretch
end_stretch minus c end = if minus then record { from = ect_in c; to = end; kept_from = greatest_end c; kept_to = end } else record { from = c.emin; to = end; kept_from = c.emax; kept_to = end }

abbrev pub stretch_of : Bool → Shape → Bounds → ℤ → Stretch
stretch_of minus (StepAtStart a h) c end = start_stretch minus c end
stretch_of minus (StepAtEnd a h) c end = end_stretch minus c end
stretch_of minus _ c end = pulse_stretch minus c

abbrev pub is_kept : Stretch → Presence → ℤ → Bool
is_kept s there t = says_present there && int_le s.kept_from t && int_lt t s.kept_to

abbrev pub is_moved : Stretch → Presence → ℤ → Bool
is_moved s there t = int_le s.from t && int_lt t s.to && not (is_kept s there t)

-- there is room for so much more between two moments, where the bound binds
abbrev pub StaysLower : List Level → Calm → ℤ → ℤ → ℤ → Type 0
StaysLower ps calm from to h = (t : ℤ) → calm.from ≤ℤ t → t <ℤ calm.to → from ≤ℤ t → t <ℤ to → (level_in ps t +ℤ h) ≤ℤ calm.limit

-- and where some guess may raise the level
abbrev pub HasRoomAround : List Level → Calm → Stretch → Presence → ℤ → Type 0
HasRoomAround ps calm s there h = (t : ℤ) → calm.from ≤ℤ t → t <ℤ calm.to → is_moved s there t ≡ true → (level_in ps t +ℤ h) ≤ℤ calm.limit
