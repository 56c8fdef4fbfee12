-- The axis of time.
use Rattle.std.specs.Prelude.{ℕ, zero, suc, ◌-◌, ◌*◌, ◌/◌, ℤ, pos, neg_ℤ, ◌+ℤ◌, ◌-ℤ◌, if◌then◌else◌, int_lt, nat_le, nat_eq, min, max, List, [], ◌∷◌, ◌++◌, fold, find, unwrap_or, codes, Option, Some, None}
use Rattle.std.specs.Int.RustNames.{int_rem, unsigned_abs}
use Rattle.std.specs.List.{flat_map}
use Rattle.sched_model.specs.declared.types.Slot.{Slot}
use Rattle.sched_model.specs.declared.types.Slot.TheVariants.{Absent, Present}
use Rattle.sched_model.specs.Data.{horizon}
use Rattle.sched_model.specs.Words.{is_between}
use Rattle.textline.specs.Lines.{Bytes}
use Rattle.svg_page.specs.declared.axis.Axis.{Axis}
use Rattle.svg_page.specs.Texts.{count, number}

-- the sooner of a moment and a start, and the later of a moment and an end
abbrev pub sooner : ℤ → Slot → ℤ
sooner t Absent = t
sooner t (Present s e) = if int_lt s t then s else t

abbrev pub later : ℤ → Slot → ℤ
later t Absent = t
later t (Present s e) = if int_lt t e then e else t

-- an axis has one unit of time at least
abbrev pub axis_between : ℤ → ℤ → Axis
axis_between s e = if int_lt s e then record { from = s; to = e } else if int_lt s horizon then record { from = s; to = s +ℤ pos 1 } else record { from = pos 0; to = pos 1 }

-- from the first start to the last end
abbrev pub axis_of : List Slot → Axis
axis_of slots = axis_between (fold sooner horizon slots) (fold later (neg_ℤ horizon) slots)

-- how long it is from one moment to another, and 0 backwards
abbrev pub lasting : ℤ → ℤ → ℕ
lasting s e = if int_lt s e then unsigned_abs (e -ℤ s) else 0

abbrev pub part_of : ℕ → ℕ → ℕ
part_of n whole = if nat_eq whole 0 then 0 else n / whole

-- the place of a moment, in thousandths of the axis
abbrev pub place : Axis → ℤ → ℕ
place axis t = min 1000 (part_of (1000 * lasting axis.from t) (lasting axis.from axis.to))

-- how wide what lasts from one moment to another is drawn; it is seen even where it lasts for no time
abbrev pub width : Axis → ℤ → ℤ → ℕ
width axis s e = max 1 (place axis e - place axis s)

-- Ticks.

-- the round lengths of time: 1, 2 and 5 times a power of ten
abbrev pub round_steps : List ℕ
round_steps = 1 ∷ 2 ∷ 5 ∷ 10 ∷ 20 ∷ 50 ∷ 100 ∷ 200 ∷ 500 ∷ 1000 ∷ 2000 ∷ 5000 ∷ 10000 ∷ 20000 ∷ 50000 ∷ 100000 ∷ 200000 ∷ 500000 ∷ 1000000 ∷ 2000000 ∷ 5000000 ∷ 10000000 ∷ 20000000 ∷ 50000000 ∷ 100000000 ∷ 200000000 ∷ []

-- the least of some lengths of which ten are so long
abbrev pub step_in : List ℕ → ℕ → ℕ
step_in steps long = unwrap_or (find (λ k. nat_le long (10 * k)) steps) 500000000

abbrev pub step_for : ℕ → ℕ
step_for long = max 1 (step_in round_steps long)

-- n moments, each a step behind the one before
unfoldable pub moments : ℕ → ℤ → ℤ → List ℤ
moments zero t step = []
moments (suc n) t step = t ∷ moments n (t +ℤ step) step

-- a multiple of the step
abbrev pub first_tick : ℤ → ℤ → ℤ
first_tick from step = from -ℤ int_rem from step

abbrev pub tick_text : ℕ → ℕ → ℤ → Bytes
tick_text height x t = count (codes "<path class='g' d='M") x ++ count (codes " -4V") height ++ count (codes "'/><text text-anchor='middle' y='-8' x='") x ++ number (codes "'>") t ++ codes "</text>\n"

-- the moment, where it is on the axis
abbrev pub on_axis : Axis → ℤ → Option ℤ
on_axis axis t = if is_between axis.from axis.to t then Some t else None

abbrev pub tick_at : Axis → ℕ → Option ℤ → Bytes
tick_at axis height None = []
tick_at axis height (Some t) = tick_text height (place axis t) t

abbrev pub tick : Axis → ℕ → ℤ → Bytes
tick axis height t = tick_at axis height (on_axis axis t)

abbrev pub ticks_by : Axis → ℕ → ℤ → Bytes
ticks_by axis height step = flat_map (tick axis height) (moments 12 (first_tick axis.from step) step)

abbrev pub ticks : Axis → ℕ → Bytes
ticks axis height = ticks_by axis height (pos (step_for (lasting axis.from axis.to)))
