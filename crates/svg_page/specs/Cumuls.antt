-- The drawing of a cumulative function: its level over time, and its bounds.
use Rattle.std.specs.Prelude.{ℕ, ◌*◌, ℤ, pos, neg_ℤ, ◌+ℤ◌, ◌-ℤ◌, ◌*ℤ◌, ◌&&◌, if◌then◌else◌, nat_eq, int_lt, List, [], ◌++◌, Option, Some, None, fold, codes}
use Rattle.std.specs.Int.{int_max, int_min}
use Rattle.std.specs.List.{flat_map}
use Rattle.sched_model.specs.declared.types.Slot.{Slot}
use Rattle.sched_model.specs.declared.types.Slot.TheVariants.{Absent, Present}
use Rattle.sched_model.specs.declared.types.Window.{Window}
use Rattle.sched_model.specs.declared.types.Window.TheVariants.{Always, Moments, During}
use Rattle.sched_model.specs.declared.types.Constraint.{Constraint}
use Rattle.sched_model.specs.declared.types.Constraint.TheVariants.{CumulIn}
use Rattle.sched_model.specs.declared.types.CumulDef.{CumulDef}
use Rattle.sched_model.specs.declared.types.Assignment.{Assignment}
use Rattle.sched_model.specs.Data.{Data}
use Rattle.textline.specs.Lines.{Bytes}
use Rattle.svg_page.specs.declared.axis.Axis.{Axis}
use Rattle.svg_page.specs.declared.profiles.Step.{Step}
use Rattle.svg_page.specs.declared.cumuls.Bound.{Bound}
use Rattle.svg_page.specs.declared.cumuls.Reach.{Reach}
use Rattle.svg_page.specs.Texts.{number, group, scaled, label, numbered}
use Rattle.svg_page.specs.Axis.{lasting}
use Rattle.svg_page.specs.Bars.{slot_at, given_name}
use Rattle.svg_page.specs.Profiles.{profile_at}

-- a level that a page can show: 10^12 and more stand for no bound
abbrev pub shown : ℤ → Option ℤ
shown v = if int_lt (neg_ℤ (pos 1000000000000)) v && int_lt v (pos 1000000000000) then Some v else None

-- what a constraint bounds
abbrev pub bound_in : Constraint → Option Bound
bound_in (CumulIn f w lo hi) = Some (record { f = f; window = w; lo = lo; hi = hi })
bound_in c = None

-- How far up and down the drawing reaches: from 0 to 1 at least, over all levels and bounds.

abbrev pub widened : Reach → Option ℤ → Reach
widened r None = r
widened r (Some v) = record { low = int_min r.low v; high = int_max r.high v }

abbrev pub over_step : Reach → Step → Reach
over_step r s = widened r (shown s.level)

abbrev pub over_bound_if : ℕ → Reach → Option Bound → Reach
over_bound_if k r None = r
over_bound_if k r (Some b) = if nat_eq b.f.0 k then widened (widened r (shown b.lo)) (shown b.hi) else r

abbrev pub over_bound : ℕ → Reach → Constraint → Reach
over_bound k r c = over_bound_if k r (bound_in c)

abbrev pub reach_of : ℕ → List Constraint → List Step → Reach
reach_of k cs ss = fold over_step (fold (over_bound k) (record { low = pos 0; high = pos 1 }) cs) ss

-- The line of the levels: along to the moment of each step, then to its level.

abbrev pub step_text : Step → Bytes
step_text s = number (codes "H") s.t ++ number (codes "V") s.level

abbrev pub profile_text : Axis → List Step → Bytes
profile_text axis ss = number (codes "<path class='p' d='M") axis.from ++ codes " 0" ++ flat_map step_text ss ++ number (codes "H") axis.to ++ codes "V0z'/>\n"

-- What the bounds forbid: an area from the bound on to beyond the drawing.

abbrev pub area_text : ℤ → ℤ → ℤ → ℤ → Bytes
area_text s e v edge =
    number (codes "<path class='b' d='M") s ++ number (codes " ") v ++ number (codes "H") e ++ number (codes "V") edge ++ number (codes "H") s ++ codes "z'/>\n"

abbrev pub area_during : Slot → ℤ → ℤ → Bytes
area_during Absent v edge = []
area_during (Present s e) v edge = area_text s e v edge

-- over the window; always is from one end of the axis to the other
abbrev pub area_over : Axis → Assignment → Window → ℤ → ℤ → Bytes
area_over axis a Always v edge = area_text axis.from axis.to v edge
area_over axis a (Moments s e) v edge = area_text s e v edge
area_over axis a (During x) v edge = area_during (slot_at a x.0) v edge

abbrev pub area_if : Axis → Assignment → Window → Option ℤ → ℤ → Bytes
area_if axis a w None edge = []
area_if axis a w (Some v) edge = area_over axis a w v edge

abbrev pub above : Reach → ℤ
above r = r.high +ℤ (r.high -ℤ r.low)

abbrev pub beneath : Reach → ℤ
beneath r = r.low -ℤ (r.high -ℤ r.low)

abbrev pub both_areas : Axis → Assignment → Reach → Bound → Bytes
both_areas axis a r b = area_if axis a b.window (shown b.lo) (beneath r) ++ area_if axis a b.window (shown b.hi) (above r)

-- the areas that a constraint forbids to function k
abbrev pub areas_of : Axis → Assignment → ℕ → Reach → Option Bound → Bytes
areas_of axis a k r None = []
areas_of axis a k r (Some b) = if nat_eq b.f.0 k then both_areas axis a r b else []

abbrev pub areas : Axis → Assignment → ℕ → Reach → Constraint → Bytes
areas axis a k r c = areas_of axis a k r (bound_in c)

-- The whole drawing, 90 below the one before: levels go upwards, in eighths, so that an eighth of its height is left above and
-- below; beside it stand its name and how far it reaches.

abbrev pub top_of : Reach → ℤ
top_of r = (r.low -ℤ r.high) -ℤ pos 8 *ℤ r.high

abbrev pub units_of : Reach → ℤ
units_of r = pos 10 *ℤ (r.high -ℤ r.low)

abbrev pub cumul_drawing : Data → Assignment → Axis → ℕ → List Step → Reach → Bytes
cumul_drawing m a axis k ss r =
    group 160 (90 * k)
    ++ scaled 80 axis.from (top_of r) (lasting axis.from axis.to) (units_of r)
    ++ codes "<g transform='scale(1 -8)'>\n"
    ++ flat_map (areas axis a k r) m.constraints
    ++ profile_text axis ss
    ++ codes "</g></svg></g>\n"

abbrev pub cumul_names : ℕ → CumulDef → Reach → Bytes
cumul_names k d r =
    group 5 (90 * k) ++ label 0 30 150 20 (given_name k d.name) ++ label 110 0 45 16 (number [] r.high) ++ label 110 64 45 16 (number [] r.low) ++ codes "</g>\n"

abbrev pub cumul_of : Data → Assignment → Axis → ℕ → CumulDef → List Step → Reach → Bytes
cumul_of m a axis k d ss r = cumul_drawing m a axis k ss r ++ cumul_names k d r

abbrev pub cumul : Data → Assignment → Axis → List (List Step) → ℕ → CumulDef → Bytes
cumul m a axis profiles k d = cumul_of m a axis k d (profile_at profiles k) (reach_of k m.constraints (profile_at profiles k))

abbrev pub cumuls : Data → Assignment → Axis → List (List Step) → Bytes
cumuls m a axis profiles = numbered (cumul m a axis profiles) 0 m.cumuls
