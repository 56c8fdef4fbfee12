-- Bars, and the names beside and upon them.
use Rattle.std.specs.Prelude.{ℕ, ◌+◌, ◌*◌, ◌/◌, ◌%◌, ℤ, Bool, false, if◌then◌else◌, nat_eq, List, [], ◌∷◌, ◌++◌, Option, Some, None, option_map, unwrap_or, slice_get, codes}
use Rattle.std.specs.List.{flat_map}
use Rattle.sched_base.specs.declared.ids.Itv.{Itv}
use Rattle.sched_model.specs.declared.types.Slot.{Slot}
use Rattle.sched_model.specs.declared.types.Slot.TheVariants.{Absent, Present}
use Rattle.sched_model.specs.declared.types.Assignment.{Assignment}
use Rattle.sched_model.specs.declared.types.Constraint.{Constraint}
use Rattle.sched_model.specs.declared.types.Constraint.TheVariants.{NoOverlap}
use Rattle.sched_model.specs.Data.{Data}
use Rattle.textline.specs.Lines.{Bytes}
use Rattle.svg_page.specs.declared.axis.Axis.{Axis}
use Rattle.svg_page.specs.declared.lanes.Lane.{Lane}
use Rattle.svg_page.specs.declared.lanes.Lane.TheVariants.{Sequence, Interval}
use Rattle.svg_page.specs.Texts.{count, number, escaped, framed, label, numbered}
use Rattle.svg_page.specs.Axis.{place, width}
use Rattle.svg_page.specs.Lanes.{row_height}
pub use Rattle.svg_page.specs.Shades.{name_at}
use Rattle.svg_page.specs.Shades.{shade, shade_in}

-- from s to e, a tenth below the upper edge of its row to a tenth above the lower, in a colour
abbrev pub outline : ℕ → ℤ → ℤ → ℕ → Bytes
outline shade s e row = count (codes "<path class='c") shade ++ number (codes "' d='M") s ++ count (codes " ") row ++ number (codes ".1H") e ++ number (codes "v.8H") s ++ codes "z'><title>"

abbrev pub told : ℤ → ℤ → Bytes
told s e = number (codes " ") s ++ number (codes " to ") e ++ codes "</title></path>\n"

-- the bar of an interval with this colour, start and end, in its row
abbrev pub bar_text : ℕ → ℤ → ℤ → ℕ → Bytes → Bytes
bar_text shade s e row name = outline shade s e row ++ escaped name ++ told s e

-- where an interval stands
abbrev pub slot_at : Assignment → ℕ → Slot
slot_at a i = unwrap_or (slice_get a.slots i) Absent

-- an interval that is absent has no bar
abbrev pub bar_of : ℕ → ℕ → Bytes → Slot → Bytes
bar_of row shade name Absent = []
bar_of row shade name (Present s e) = bar_text shade s e row name

abbrev pub bar : Data → Assignment → ℕ → ℕ → ℕ → Bytes
bar m a row shade i = bar_of row shade (name_at m i) (slot_at a i)

-- the order of a sequence
abbrev pub order_at : Assignment → ℕ → List Itv
order_at a i = unwrap_or (slice_get a.orders i) []

-- the bars of a row
abbrev pub lane_bars : Data → Assignment → ℕ → Lane → Bytes
lane_bars m a row (Sequence i) = flat_map (λ x. bar m a row (shade_in m i x.0) x.0) (order_at a i)
lane_bars m a row (Interval i) = bar m a row (shade m i) i

abbrev pub bars : Data → Assignment → List Lane → Bytes
bars m a all = numbered (lane_bars m a) 0 all

-- Names upon bars, in a page of n rows.

abbrev pub bar_name_of : Axis → ℕ → ℕ → Bytes → Slot → Bytes
bar_name_of axis n row name Absent = []
bar_name_of axis n row name (Present s e) = framed (place axis s) (row * row_height n) (width axis s e) (row_height n) name

abbrev pub bar_name : Data → Assignment → Axis → ℕ → ℕ → ℕ → Bytes
bar_name m a axis n row i = bar_name_of axis n row (name_at m i) (slot_at a i)

abbrev pub lane_bar_names : Data → Assignment → Axis → ℕ → ℕ → Lane → Bytes
lane_bar_names m a axis n row (Sequence i) = flat_map (λ x. bar_name m a axis n row x.0) (order_at a i)
lane_bar_names m a axis n row (Interval i) = bar_name m a axis n row i

abbrev pub bar_names : Data → Assignment → Axis → List Lane → ℕ → Bytes
bar_names m a axis all n = numbered (lane_bar_names m a axis n) 0 all

-- Names of rows: what has no name is told by its number.

abbrev pub given_name : ℕ → Option Bytes → Bytes
given_name i None = count (codes "#") i
given_name i (Some name) = name

-- a sequence without a name has its place in the text: that of the first constraint which says that its members don't overlap
abbrev pub is_overlap_of : ℕ → Constraint → Bool
is_overlap_of i (NoOverlap p matrix direct) = nat_eq p.0 i
is_overlap_of i _ = false

abbrev pub overlap_from : ℕ → ℕ → List Constraint → Option ℕ
overlap_from i k [] = None
overlap_from i k (c ∷ cs) = if is_overlap_of i c then Some k else overlap_from i (k + 1) cs

abbrev pub placed_name : ℕ → Option ℕ → Bytes
placed_name i None = count (codes "#") i
placed_name i (Some c) = count (codes "constraint ") c

abbrev pub sequence_name : Data → ℕ → Option Bytes → Bytes
sequence_name m i None = placed_name i (overlap_from i 0 m.constraints)
sequence_name m i (Some name) = name

abbrev pub lane_name : Data → Lane → Bytes
lane_name m (Sequence i) = unwrap_or (option_map (λ d. sequence_name m i d.name) (slice_get m.sequences i)) []
lane_name m (Interval i) = name_at m i

abbrev pub lane_label : Data → ℕ → ℕ → Lane → Bytes
lane_label m n row lane = label 0 (row * row_height n) 150 (row_height n) (lane_name m lane)

abbrev pub lane_labels : Data → List Lane → ℕ → Bytes
lane_labels m all n = numbered (lane_label m n) 0 all

-- Names of intervals that are absent, six in a line.

abbrev pub absent_name : Data → ℕ → ℕ → Bytes
absent_name m k i = label (160 * (k % 6)) (18 * (k / 6)) 155 18 (name_at m i)

abbrev pub absent_names : Data → List ℕ → Bytes
absent_names m is = numbered (absent_name m) 0 is
