-- The canonical text of a model: one statement a line.
use Rattle.std.specs.Prelude.{◌^◌, ℕ, zero, suc, ℤ, pos, neg_ℤ, Bool, true, false, if◌then◌else◌, List, [], ◌∷◌, ◌++◌, map, flat_map, take, drop, Option, Some, None, codes, slice_get, option_map, unwrap_or}
use Rattle.std.specs.Fmt.{decimal, signed_decimal}
use Rattle.std.specs.Ordering.{int_eq}
use Rattle.sched_base.specs.declared.ids.Itv.{Itv}
use Rattle.sched_base.specs.declared.ids.Seq.{Seq}
use Rattle.sched_base.specs.declared.ids.Cum.{Cum}
use Rattle.sched_base.specs.declared.ids.Mat.{Mat}
use Rattle.sched_model.specs.declared.types.IntervalDef.{IntervalDef}
use Rattle.sched_model.specs.declared.types.MatrixDef.{MatrixDef}
use Rattle.sched_model.specs.declared.types.SequenceDef.{SequenceDef}
use Rattle.sched_model.specs.declared.types.CumulDef.{CumulDef}
use Rattle.sched_model.specs.declared.types.StateDef.{StateDef}
use Rattle.sched_model.specs.declared.types.Part.{Part}
use Rattle.sched_model.specs.declared.types.Shape.{Shape}
use Rattle.sched_model.specs.declared.types.Shape.TheVariants.{Pulse, Step, PulseOf, StepAtStart, StepAtEnd}
use Rattle.sched_model.specs.declared.types.Window.{Window}
use Rattle.sched_model.specs.declared.types.Window.TheVariants.{Always, Moments, During}
use Rattle.sched_model.specs.declared.types.End.{End}
use Rattle.sched_model.specs.declared.types.End.TheVariants.{Start, Finish}
use Rattle.sched_model.specs.declared.types.Constraint.{Constraint}
use Rattle.sched_model.specs.declared.types.Constraint.TheVariants.{Temporal, Logic, Span, Alternative, Synchronize, NoOverlap, First, Last, Before, Prev, CumulIn, AlwaysEqual, AlwaysNoState}
use Rattle.sched_model.specs.declared.types.Sense.{Sense}
use Rattle.sched_model.specs.declared.types.Sense.TheVariants.{Minimize, Maximize}
use Rattle.sched_model.specs.declared.types.Objective.{Objective}
use Rattle.sched_model.specs.Words.{is_empty}
use Rattle.sched_model.specs.Data.{Data}
use Rattle.textline.specs.Lines.{Bytes}
use Rattle.sched_text.specs.Pieces.{listed, call, range_text, interval_name, matrix_name, state_name, interval_names}
use Rattle.sched_text.specs.Shown.{shown, wholes}

-- a statement in a line of its own
abbrev pub statement : Bytes → Bytes
statement text = text ++ codes ";" ++ 10 ∷ []

abbrev pub definition : Bytes → Bytes → Bytes
definition name text = statement (name ++ codes " = " ++ text)

abbrev pub given : Bytes → Bytes → Bytes
given word text = word ++ codes "=" ++ text

-- definitions

abbrev pub optional_items : Bool → List Bytes
optional_items true = codes "optional" ∷ []
optional_items false = []

abbrev pub range_items : IntervalDef → List Bytes
range_items d = given (codes "start") (range_text d.start_lo d.start_hi) ∷ given (codes "end") (range_text d.end_lo d.end_hi) ∷ given (codes "size") (range_text d.size_lo d.size_hi) ∷ []

abbrev pub interval_text : IntervalDef → Bytes
interval_text d = definition d.name (call (codes "intervalVar") (optional_items d.optional ++ range_items d))

-- the cells in rows of this many; so many rows
abbrev pub rows : ℕ → ℕ → List ℤ → List Bytes
rows zero n cells = []
rows (suc k) n cells = listed (map signed_decimal (take n cells)) ∷ rows k n (drop n cells)

abbrev pub matrix_text : MatrixDef → Bytes
matrix_text d = definition d.name (call (codes "transitionMatrix") (listed (rows d.size d.size d.cells) ∷ []))

abbrev pub types_text : Option (List ℕ) → Bytes
types_text None = []
types_text (Some ts) = codes "," ++ given (codes "types") (listed (map decimal ts))

abbrev pub list_text : Data → List Itv → Bytes
list_text m xs = listed (interval_names m xs)

abbrev pub sequence_text : Data → Bytes → SequenceDef → Bytes
sequence_text m name d = definition name (call (codes "sequenceVar") ((list_text m d.members ++ types_text d.types) ∷ []))

abbrev pub named_sequence_text : Data → SequenceDef → Bytes
named_sequence_text m d = defined d.name where
  defined : Option Bytes → Bytes
  defined None = []
  defined (Some name) = sequence_text m name d

abbrev pub state_items : Data → Option Mat → List Bytes
state_items m None = []
state_items m (Some x) = matrix_name m x ∷ []

abbrev pub state_text : Data → StateDef → Bytes
state_text m d = definition d.name (call (codes "stateFunction") (state_items m d.matrix))

-- cumulative functions

abbrev pub shape_text : Data → Shape → Bytes
shape_text m (Pulse u v h) = call (codes "pulse") (signed_decimal u ∷ signed_decimal v ∷ signed_decimal h ∷ [])
shape_text m (Step u h) = call (codes "step") (signed_decimal u ∷ signed_decimal h ∷ [])
shape_text m (PulseOf x h) = call (codes "pulse") (interval_name m x ∷ signed_decimal h ∷ [])
shape_text m (StepAtStart x h) = call (codes "stepAtStart") (interval_name m x ∷ signed_decimal h ∷ [])
shape_text m (StepAtEnd x h) = call (codes "stepAtEnd") (interval_name m x ∷ signed_decimal h ∷ [])

-- a part behind the first, with its sign
abbrev pub later_part : Data → Part → Bytes
later_part m p = (if p.minus then codes "-" else codes "+") ++ shape_text m p.shape

-- the first part has no plus
abbrev pub parts_text : Data → List Part → Bytes
parts_text m [] = []
parts_text m (p ∷ ps) = (if p.minus then codes "-" else []) ++ shape_text m p.shape ++ flat_map (later_part m) ps

abbrev pub cumul_text : Data → CumulDef → Bytes
cumul_text m d = used d.name where
  used : Option Bytes → Bytes
  used None = parts_text m d.parts
  used (Some name) = name

abbrev pub named_cumul_text : Data → CumulDef → Bytes
named_cumul_text m d = defined d.name where
  defined : Option Bytes → Bytes
  defined None = []
  defined (Some name) = definition name (parts_text m d.parts)

-- a function in a constraint: by its name, or written out
abbrev pub function_text : Data → Cum → Bytes
function_text m f = unwrap_or (option_map (cumul_text m) (slice_get m.cumuls f.0)) []

-- constraints

abbrev pub flag : Bool → Bytes
flag b = if b then codes "1" else codes "0"

abbrev pub temporal_word : End → End → Bool → Bytes
temporal_word Start Start false = codes "startBeforeStart"
temporal_word Start Finish false = codes "startBeforeEnd"
temporal_word Finish Start false = codes "endBeforeStart"
temporal_word Finish Finish false = codes "endBeforeEnd"
temporal_word Start Start true = codes "startAtStart"
temporal_word Start Finish true = codes "startAtEnd"
temporal_word Finish Start true = codes "endAtStart"
temporal_word Finish Finish true = codes "endAtEnd"

abbrev pub use_text : Data → SequenceDef → Bytes
use_text m d = used d.name where
  used : Option Bytes → Bytes
  used None = list_text m d.members
  used (Some name) = name

-- a sequence in a constraint: by its name, or as its list
abbrev pub over_text : Data → Seq → Bytes
over_text m p = unwrap_or (option_map (use_text m) (slice_get m.sequences p.0)) []

-- the matrix and the flag of a noOverlap
abbrev pub distance_text : Data → Option Mat → Bool → Bytes
distance_text m None direct = []
distance_text m (Some x) direct = codes "," ++ matrix_name m x ++ codes "," ++ flag direct

abbrev pub least_level : ℤ
least_level = neg_ℤ (pos (2 ^ 62))

abbrev pub bounded_text : Bytes → ℤ → ℤ → Bytes
bounded_text f lo hi = if int_eq lo least_level then f ++ codes " <= " ++ signed_decimal hi else f ++ codes " >= " ++ signed_decimal lo

abbrev pub within_text : Data → Bytes → Window → ℤ → ℤ → Bytes
within_text m f Always lo hi = bounded_text f lo hi
within_text m f (Moments u v) lo hi = call (codes "alwaysIn") (f ∷ signed_decimal u ∷ signed_decimal v ∷ signed_decimal lo ∷ signed_decimal hi ∷ [])
within_text m f (During x) lo hi = call (codes "alwaysIn") (f ∷ interval_name m x ∷ signed_decimal lo ∷ signed_decimal hi ∷ [])

-- how many parts an alternative chooses, where it isn't one
abbrev pub count_items : ℤ → List Bytes
count_items n = if int_eq n (pos 1) then [] else signed_decimal n ∷ []

abbrev pub constraint_text : Data → Constraint → Bytes
constraint_text m (Temporal from to equal x y z) = call (temporal_word from to equal) (interval_name m x ∷ interval_name m y ∷ signed_decimal z ∷ [])
constraint_text m (Logic e) = (shown m e).whole
constraint_text m (Span x parts) = call (codes "span") (interval_name m x ∷ list_text m parts ∷ [])
constraint_text m (Alternative x parts n) = call (codes "alternative") (interval_name m x ∷ list_text m parts ∷ count_items n)
constraint_text m (Synchronize x parts) = call (codes "synchronize") (interval_name m x ∷ list_text m parts ∷ [])
constraint_text m (NoOverlap p matrix direct) = call (codes "noOverlap") ((over_text m p ++ distance_text m matrix direct) ∷ [])
constraint_text m (First p x) = call (codes "first") (over_text m p ∷ interval_name m x ∷ [])
constraint_text m (Last p x) = call (codes "last") (over_text m p ∷ interval_name m x ∷ [])
constraint_text m (Before p x y) = call (codes "before") (over_text m p ∷ interval_name m x ∷ interval_name m y ∷ [])
constraint_text m (Prev p x y) = call (codes "prev") (over_text m p ∷ interval_name m x ∷ interval_name m y ∷ [])
constraint_text m (CumulIn f window lo hi) = within_text m (function_text m f) window lo hi
constraint_text m (AlwaysEqual g x v i j) = call (codes "alwaysEqual") (state_name m g ∷ interval_name m x ∷ signed_decimal v ∷ flag i ∷ flag j ∷ [])
constraint_text m (AlwaysNoState g x) = call (codes "alwaysNoState") (state_name m g ∷ interval_name m x ∷ [])

abbrev pub sense_word : Sense → Bytes
sense_word Minimize = codes "minimize"
sense_word Maximize = codes "maximize"

-- the expression of an objective, or its criteria
abbrev pub aim_text : Data → Objective → Bytes
aim_text m o = if is_empty o.criteria then (shown m o.expr).whole else call (codes "staticLex") (listed (wholes (map (shown m) o.criteria)) ∷ [])

abbrev pub objective_text : Data → Option Objective → Bytes
objective_text m None = []
objective_text m (Some o) = statement (call (sense_word o.sense) (aim_text m o ∷ []))

-- intervals, matrices, named sequences, named functions, state functions, constraints, and the objective
abbrev pub canonical_text : Data → Bytes
canonical_text m = flat_map interval_text m.intervals ++ flat_map matrix_text m.matrices ++ flat_map (named_sequence_text m) m.sequences
    ++ flat_map (named_cumul_text m) m.cumuls ++ flat_map (state_text m) m.states ++ flat_map (λ c. statement (constraint_text m c)) m.constraints ++ objective_text m m.objective
