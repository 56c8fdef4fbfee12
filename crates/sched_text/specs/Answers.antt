-- The text of an answer, and of a schedule: lines of words.
use Rattle.std.specs.Prelude.{ℕ, List, [], ◌∷◌, ◌++◌, map, Option, Some, None, codes, flat_map, ℤ}
use Rattle.std.specs.Fmt.{decimal, signed_decimal}
use Rattle.sched_base.specs.declared.ids.Itv.{Itv}
use Rattle.sched_model.specs.declared.types.IntervalDef.{IntervalDef}
use Rattle.sched_model.specs.declared.types.SequenceDef.{SequenceDef}
use Rattle.sched_model.specs.declared.types.StateDef.{StateDef}
use Rattle.sched_model.specs.declared.types.Slot.{Slot}
use Rattle.sched_model.specs.declared.types.Slot.TheVariants.{Absent, Present}
use Rattle.sched_model.specs.declared.types.Segment.{Segment}
use Rattle.sched_model.specs.declared.types.Assignment.{Assignment}
use Rattle.sched_model.specs.declared.types.Answer.{Answer}
use Rattle.sched_model.specs.declared.types.Answer.TheVariants.{Optimal, Feasible, Infeasible, Unfinished}
use Rattle.sched_model.specs.declared.types.Solved.{Solved}
use Rattle.sched_model.specs.declared.types.Verdict.{Verdict}
use Rattle.sched_model.specs.declared.types.Verdict.TheVariants as verdict
use Rattle.sched_model.specs.Answers.{verdict_in}
use Rattle.sched_model.specs.Data.{Data}
use Rattle.textline.specs.Lines.{Bytes, line}
use Rattle.sched_model.specs.Rank.{unranked_in}
use Rattle.sched_text.specs.Pieces.{commas, at_places, interval_names}

-- where an interval stands
abbrev pub slot_words : Slot → List Bytes
slot_words Absent = codes "absent" ∷ []
slot_words (Present s e) = signed_decimal s ∷ signed_decimal e ∷ []

abbrev pub slot_line : ℕ → IntervalDef → Slot → Bytes
slot_line i d slot = line (d.name ∷ slot_words slot)

-- a sequence without a name is told by its number
abbrev pub label : ℕ → Option Bytes → Bytes
label i None = codes "#" ++ decimal i
label i (Some n) = n

-- the members in their order
abbrev pub order_line : Data → ℕ → SequenceDef → List Itv → Bytes
order_line m i d xs = line (codes "order" ∷ label i d.name ∷ interval_names m xs)

abbrev pub segment_words : Segment → List Bytes
segment_words s = signed_decimal s.p ∷ signed_decimal s.q ∷ signed_decimal s.v ∷ []

abbrev pub segments_line : ℕ → StateDef → List Segment → Bytes
segments_line i d ss = line (codes "state" ∷ d.name ∷ flat_map segment_words ss)

-- a line for each interval, each sequence and each state function
abbrev pub schedule_lines : Data → Assignment → Bytes
schedule_lines m a = at_places slot_line 0 m.intervals a.slots ++ at_places (order_line m) 0 m.sequences a.orders ++ at_places segments_line 0 m.states a.segs

-- numbers in one word
abbrev pub numbers_word : List ℤ → Bytes
numbers_word vs = commas (map signed_decimal vs)

-- a value of the objective's expression, told by those of its criteria
abbrev pub values_word : Data → ℤ → Bytes
values_word m v = numbers_word (unranked_in m v)

abbrev pub unfinished_words : Data → Option ℤ → List Bytes
unfinished_words m None = codes "unfinished" ∷ codes "none" ∷ []
unfinished_words m (Some v) = codes "unfinished" ∷ values_word m v ∷ []

abbrev pub verdict_words : Data → Verdict → List Bytes
verdict_words m (verdict.Optimal v) = codes "optimal" ∷ values_word m v ∷ []
verdict_words m verdict.Feasible = codes "feasible" ∷ []
verdict_words m verdict.Infeasible = codes "infeasible" ∷ []
verdict_words m (verdict.Unclosed best) = unfinished_words m best

abbrev pub nodes_line : ℕ → Bytes
nodes_line n = line (codes "nodes" ∷ decimal n ∷ [])

abbrev pub end_line : Bytes
end_line = line (codes "end" ∷ [])

abbrev pub found_schedule : Data → Option (ℤ × Assignment) → Bytes
found_schedule m None = []
found_schedule m (Some va) = schedule_lines m va.1

abbrev pub shown_schedule : Data → Answer → Bytes
shown_schedule m (Optimal v a) = schedule_lines m a
shown_schedule m (Feasible a) = schedule_lines m a
shown_schedule m Infeasible = []
shown_schedule m (Unfinished found) = found_schedule m found

-- the verdict, the count of nodes, the schedule where there is one, and the end
abbrev pub answer_text : Data → Solved → Bytes
answer_text m s = line (verdict_words m (verdict_in s.answer)) ++ nodes_line s.nodes ++ shown_schedule m s.answer ++ end_line

-- the same without the schedule
abbrev pub summary_text : Data → Solved → Bytes
summary_text m s = line (verdict_words m (verdict_in s.answer)) ++ nodes_line s.nodes ++ end_line

-- that a log is accepted with this verdict, the count of nodes, and the end
abbrev pub check_text : Data → Verdict → ℕ → Bytes
check_text m v n = line (codes "accepted" ∷ verdict_words m v) ++ nodes_line n ++ end_line
