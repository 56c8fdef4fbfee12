-- The lines of a schedule as lists of words.
use Rattle.std.specs.Prelude.{ℕ, ◌+◌, Bool, true, false, ◌&&◌, List, [], ◌∷◌, ◌++◌, codes, flat_map}
use Rattle.sched_base.specs.declared.ids.Itv.{Itv}
use Rattle.sched_model.specs.declared.types.IntervalDef.{IntervalDef}
use Rattle.sched_model.specs.declared.types.SequenceDef.{SequenceDef}
use Rattle.sched_model.specs.declared.types.StateDef.{StateDef}
use Rattle.sched_model.specs.declared.types.Slot.{Slot}
use Rattle.sched_model.specs.declared.types.Segment.{Segment}
use Rattle.sched_model.specs.declared.types.Assignment.{Assignment}
use Rattle.sched_model.specs.Data.{Data}
use Rattle.textline.specs.Lines.{Bytes}
use Rattle.sched_text.specs.Pieces.{interval_names}
use Rattle.sched_text.specs.Answers.{slot_words, label, segment_words}

-- one of an interval, of a sequence and of a state function; each is told its place
abbrev pub slot_row : ℕ → IntervalDef → Slot → List Bytes
slot_row i d slot = d.name ∷ slot_words slot

abbrev pub order_row : Data → ℕ → SequenceDef → List Itv → List Bytes
order_row m i d xs = codes "order" ∷ label i d.name ∷ interval_names m xs

abbrev pub state_row : ℕ → StateDef → List Segment → List Bytes
state_row i d ss = codes "state" ∷ d.name ∷ flat_map segment_words ss

-- those of the pairs at each place, as far as both lists reach
abbrev pub rows : {X Y : Type 0} → (ℕ → X → Y → List Bytes) → ℕ → List X → List Y → List (List Bytes)
rows g i (x ∷ xs) (y ∷ ys) = g i x y ∷ rows g (i + 1) xs ys
rows g i _ _ = []

abbrev pub end_row : List Bytes
end_row = codes "end" ∷ []

-- all lines but a header
abbrev pub body : Data → Assignment → List (List Bytes)
body m a = rows slot_row 0 m.intervals a.slots ++ (rows (order_row m) 0 m.sequences a.orders ++ (rows state_row 0 m.states a.segs ++ end_row ∷ []))

-- the test holds at each place that the second list reaches, and it is no longer than the first
abbrev pub begins : {X Y : Type 0} → (X → Y → Bool) → List X → List Y → Bool
begins r xs [] = true
begins r [] (y ∷ ys) = false
begins r (x ∷ xs) (y ∷ ys) = r x y && begins r xs ys
