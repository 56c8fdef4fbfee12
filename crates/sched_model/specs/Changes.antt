-- The changes of a cumulative function one by one, and its level as their sum.
use Rattle.std.specs.Prelude.{ℕ, ◌+◌, ◌<◌, ℤ, pos, ◌+ℤ◌, ◌≤ℤ◌, Bool, not, ◌&&◌, if◌then◌else◌, List, [], ◌∷◌, length, map, int_le, int_lt, slice_index_or}
use Rattle.std.specs.List.{filter, flat_map, list_all}
use Rattle.sched_base.specs.declared.ids.Cum.{Cum}
use Rattle.sched_model.specs.declared.types.Shape.{Shape}
use Rattle.sched_model.specs.declared.types.Shape.TheVariants.{Pulse, Step, PulseOf, StepAtStart, StepAtEnd}
use Rattle.sched_model.specs.declared.types.Part.{Part}
use Rattle.sched_model.specs.declared.types.Assignment.{Assignment}
use Rattle.sched_model.specs.declared.types.Window.{Window}
use Rattle.sched_model.specs.declared.types.Window.TheVariants.{Always, Moments, During}
use Rattle.sched_model.specs.declared.changes.Change.{Change}
use Rattle.sched_model.specs.declared.changes.Span.{Span}
use Rattle.sched_model.specs.Words.{◌implies◌, is_between, total}
use Rattle.sched_model.specs.Value.{is_present, start_of, end_of}
use Rattle.sched_model.specs.Cumulative.{signed, begin_of, is_in_window, is_level_at}
use Rattle.sched_model.specs.Data.{Data, horizon, parts_of}

abbrev pub change : ℤ → Bool → ℤ → Change
change t minus h = record { t = t; minus = minus; h = h }

abbrev pub rise : Change → ℤ
rise c = signed c.minus c.h

-- a pulse that isn't empty goes up and comes down
abbrev pub pulse_changes : Bool → ℤ → ℤ → ℤ → List Change
pulse_changes minus u v h = if int_lt u v then change u minus h ∷ change v (not minus) h ∷ [] else []

abbrev pub shape_changes : Assignment → Bool → Shape → List Change
shape_changes a minus (Pulse u v h) = pulse_changes minus u v h
shape_changes a minus (Step u h) = change u minus h ∷ []
shape_changes a minus (PulseOf x h) = if is_present a x then pulse_changes minus (start_of a x) (end_of a x) h else []
shape_changes a minus (StepAtStart x h) = if is_present a x then change (start_of a x) minus h ∷ [] else []
shape_changes a minus (StepAtEnd x h) = if is_present a x then change (end_of a x) minus h ∷ [] else []

abbrev pub changes_in : Assignment → List Part → List Change
changes_in a is = flat_map (λ i. shape_changes a i.minus i.shape) is

-- the sum of the changes until t
abbrev pub sum_until : ℤ → List Change → ℤ
sum_until t cs = total (map (λ c. if int_le c.t t then rise c else pos 0) cs)

abbrev pub keeps : Assignment → Window → ℤ → ℤ → ℤ → ℤ → Bool
keeps a w lo hi t level = is_in_window a w t implies is_between lo hi level

-- the same by changes on a level that was there before them
abbrev pub keeps_at : Assignment → Window → ℤ → ℤ → ℤ → List Change → ℤ → Bool
keeps_at a w lo hi before cs t = keeps a w lo hi t (before +ℤ sum_until t cs)

-- behind the first moment of a span, until the last
abbrev pub is_inside : Span → ℤ → Bool
is_inside s t = int_lt s.from t && int_le t s.to

abbrev pub changes_inside : Span → List Change → List Change
changes_inside s cs = filter (λ c. is_inside s c.t) cs

-- the level keeps its bounds at each change inside a span
abbrev pub keep_inside : Data → Assignment → Cum → Window → ℤ → ℤ → Span → Bool
keep_inside m a f w lo hi s = list_all (λ c. is_level_at m a f w lo hi c.t) (changes_inside s (changes_in a (parts_of m f)))

-- the moment at which a window ends
abbrev pub end_of_window : Assignment → Window → ℤ
end_of_window a Always = horizon
end_of_window a (Moments u v) = v
end_of_window a (During x) = end_of a x

abbrev pub window_span : Assignment → Window → Span
window_span a w = record { from = begin_of a w; to = end_of_window a w }

-- no change is later than the next
abbrev pub IsInOrder : List Change → Type 0
IsInOrder cs = (k : ℕ) (d : Change) → k + 1 < length cs → (slice_index_or cs k d).t ≤ℤ (slice_index_or cs (k + 1) d).t
