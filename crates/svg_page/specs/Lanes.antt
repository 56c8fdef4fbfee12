-- The rows of a page.
use Rattle.std.specs.Prelude.{ℕ, Bool, not, ◌&&◌, if◌then◌else◌, nat_eq, nat_le, List, [], ◌∷◌, ◌++◌}
use Rattle.std.specs.List.{list_any}
use Rattle.sched_base.specs.declared.ids.Itv.{Itv}
use Rattle.sched_model.specs.declared.types.Slot.{Slot}
use Rattle.sched_model.specs.declared.types.SequenceDef.{SequenceDef}
use Rattle.sched_model.specs.declared.types.Assignment.{Assignment}
use Rattle.sched_model.specs.Data.{Data}
use Rattle.sched_model.specs.Words.{is_empty}
use Rattle.sched_model.specs.Value.{is_here}
use Rattle.svg_page.specs.declared.lanes.Lane.{Lane}
use Rattle.svg_page.specs.declared.lanes.Lane.TheVariants.{Sequence, Interval}
use Rattle.svg_page.specs.Texts.{numbered}

-- a row for each sequence that has members
abbrev pub sequence_lane : ℕ → SequenceDef → List Lane
sequence_lane i d = if is_empty d.members then [] else Sequence i ∷ []

-- a member of a sequence, and of some sequence
abbrev pub is_member : List Itv → ℕ → Bool
is_member xs i = list_any (λ x. nat_eq x.0 i) xs

abbrev pub is_listed : List SequenceDef → ℕ → Bool
is_listed ds i = list_any (λ d. is_member d.members i) ds

-- a row for each other interval that is present
abbrev pub single_lane : List SequenceDef → ℕ → Slot → List Lane
single_lane ds i s = if is_here s && not (is_listed ds i) then Interval i ∷ [] else []

abbrev pub lanes : Data → Assignment → List Lane
lanes m a = numbered sequence_lane 0 m.sequences ++ numbered (single_lane m.sequences) 0 a.slots

-- the intervals that are absent
abbrev pub absent_at : ℕ → Slot → List ℕ
absent_at i s = if is_here s then [] else i ∷ []

abbrev pub absent : List Slot → List ℕ
absent slots = numbered absent_at 0 slots

-- the height of a row and the size of letters, by how many rows there are
abbrev pub row_height : ℕ → ℕ
row_height n = if nat_le n 12 then 34 else if nat_le n 40 then 22 else 14

abbrev pub letter_size : ℕ → ℕ
letter_size n = if nat_le n 12 then 13 else if nat_le n 40 then 11 else 9
