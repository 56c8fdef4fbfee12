-- The grammar: each tree has one spelling, a list of words. A run is a statement exactly where it is the spelling of a tree.
use Rattle.std.specs.Prelude.{◌≡◌, ℕ, ◌==◌, Bool, true, not, ◌&&◌, List, [], ◌∷◌, ◌++◌, map, length, nat_le, codes, Option, Some, None, option_to_list}
use Rattle.std.specs.List.{list_all}
use Rattle.cpo_text.specs.Words.{Word, square, call}
use Rattle.cpo_text.specs.Words.Word.{name, sign}
pub use Rattle.cpo_text.specs.Parts.{minus_words, int_words, int_items, name_words, names_words, ints_words, flag_words, given}
use Rattle.cpo_text.specs.Expressions.{logic_words, is_logic, are_logics}
use Rattle.cpo_text.specs.Cumulative.{cumul_words}
use Rattle.cpo_text.specs.declared.tree.Int.{Int}
use Rattle.cpo_text.specs.declared.tree.Range.{Range}
use Rattle.cpo_text.specs.declared.tree.Ivarg.{Ivarg}
use Rattle.cpo_text.specs.declared.tree.Ivarg.TheVariants.{Optional, Start, End, Size}
use Rattle.cpo_text.specs.declared.tree.StepPair.{StepPair}
use Rattle.cpo_text.specs.declared.tree.Definition.{Definition}
use Rattle.cpo_text.specs.declared.tree.Definition.TheVariants.{IntervalVar, SequenceVar, TransitionMatrix, StateFunction, StepFunction, Cumulative}
use Rattle.cpo_text.specs.declared.tree.Temporal.{Temporal}
use Rattle.cpo_text.specs.declared.tree.Temporal.TheVariants.{StartBeforeStart, StartBeforeEnd, EndBeforeStart, EndBeforeEnd, StartAtStart, StartAtEnd, EndAtStart, EndAtEnd}
use Rattle.cpo_text.specs.declared.tree.Hierarchy.{Hierarchy}
use Rattle.cpo_text.specs.declared.tree.Hierarchy.TheVariants.{Span, Synchronize}
use Rattle.cpo_text.specs.declared.tree.Over.{Over}
use Rattle.cpo_text.specs.declared.tree.Over.TheVariants.{Named, Listed}
use Rattle.cpo_text.specs.declared.tree.Spaced.{Spaced}
use Rattle.cpo_text.specs.declared.tree.Extreme.{Extreme}
use Rattle.cpo_text.specs.declared.tree.Extreme.TheVariants.{First, Last}
use Rattle.cpo_text.specs.declared.tree.Order.{Order}
use Rattle.cpo_text.specs.declared.tree.Order.TheVariants.{Before, Prev}
use Rattle.cpo_text.specs.declared.tree.Bound.{Bound}
use Rattle.cpo_text.specs.declared.tree.Bound.TheVariants.{AtMost, AtLeast}
use Rattle.cpo_text.specs.declared.tree.Moments.{Moments}
use Rattle.cpo_text.specs.declared.tree.Moments.TheVariants.{From, During}
use Rattle.cpo_text.specs.declared.tree.Constrained.{Constrained}
use Rattle.cpo_text.specs.declared.tree.Constrained.TheVariants as constrained
use Rattle.cpo_text.specs.declared.tree.Forbidden.{Forbidden}
use Rattle.cpo_text.specs.declared.tree.Forbidden.TheVariants as forbidden
use Rattle.cpo_text.specs.declared.tree.Sense.{Sense}
use Rattle.cpo_text.specs.declared.tree.Sense.TheVariants.{Minimize, Maximize}
use Rattle.cpo_text.specs.declared.tree.Statement.{Statement}
use Rattle.cpo_text.specs.declared.tree.Statement.TheVariants.{Empty, Define, Constrain, Forbid, Aim, Rank}

abbrev pub to_words : Option Int → List Word
to_words None = []
to_words (Some i) = sign (codes "..") ∷ int_words i

abbrev pub range_words : Range → List Word
range_words r = int_words r.from ++ to_words r.to

abbrev pub ivarg_words : Ivarg → List Word
ivarg_words Optional = name (codes "optional") ∷ []
ivarg_words (Start r) = given (codes "start") (range_words r)
ivarg_words (End r) = given (codes "end") (range_words r)
ivarg_words (Size r) = given (codes "size") (range_words r)

-- the types of a sequence's members, where they are there
abbrev pub types_items : Option (List Int) → List (List Word)
types_items None = []
types_items (Some is) = given (codes "types") (ints_words is) ∷ []

-- a moment of a step function, and the value from there on
abbrev pub step_words : StepPair → List Word
step_words p = square (int_words p.moment ∷ int_words p.value ∷ [])

abbrev pub definition_words : Definition → List Word
definition_words (IntervalVar args) = call (codes "intervalVar") (map ivarg_words args)
definition_words (SequenceVar ns types) = call (codes "sequenceVar") (names_words ns ∷ types_items types)
definition_words (TransitionMatrix rows) = call (codes "transitionMatrix") (square (map ints_words rows) ∷ [])
definition_words (StateFunction m) = call (codes "stateFunction") (map name_words (option_to_list m))
definition_words (StepFunction ps) = call (codes "stepFunction") (square (map step_words ps) ∷ [])
definition_words (Cumulative c) = cumul_words c

abbrev pub temporal_word : Temporal → List ℕ
temporal_word StartBeforeStart = codes "startBeforeStart"
temporal_word StartBeforeEnd = codes "startBeforeEnd"
temporal_word EndBeforeStart = codes "endBeforeStart"
temporal_word EndBeforeEnd = codes "endBeforeEnd"
temporal_word StartAtStart = codes "startAtStart"
temporal_word StartAtEnd = codes "startAtEnd"
temporal_word EndAtStart = codes "endAtStart"
temporal_word EndAtEnd = codes "endAtEnd"

abbrev pub hierarchy_word : Hierarchy → List ℕ
hierarchy_word Span = codes "span"
hierarchy_word Synchronize = codes "synchronize"

abbrev pub extreme_word : Extreme → List ℕ
extreme_word First = codes "first"
extreme_word Last = codes "last"

abbrev pub order_word : Order → List ℕ
order_word Before = codes "before"
order_word Prev = codes "prev"

abbrev pub bound_sign : Bound → List ℕ
bound_sign AtMost = codes "<="
bound_sign AtLeast = codes ">="

abbrev pub over_words : Over → List Word
over_words (Named p) = name_words p
over_words (Listed ns) = names_words ns

-- a matrix and its flag, where they are there
abbrev pub spaced_items : Option Spaced → List (List Word)
spaced_items None = []
spaced_items (Some s) = name_words s.matrix ∷ map flag_words (option_to_list s.direct)

abbrev pub moments_items : Moments → List (List Word)
moments_items (From u v) = int_words u ∷ int_words v ∷ []
moments_items (During a) = name_words a ∷ []

-- two flags, where they are there
abbrev pub aligned_items : Option (Bool × Bool) → List (List Word)
aligned_items None = []
aligned_items (Some p) = flag_words p.0 ∷ flag_words p.1 ∷ []

abbrev pub constraint_words : Constrained → List Word
constraint_words (constrained.Between t a b z) = call (temporal_word t) (name_words a ∷ name_words b ∷ int_items z)
constraint_words (constrained.Parts h a ns) = call (hierarchy_word h) (name_words a ∷ names_words ns ∷ [])
constraint_words (constrained.Alternative a ns n) = call (codes "alternative") (name_words a ∷ names_words ns ∷ int_items n)
constraint_words (constrained.NoOverlap p s) = call (codes "noOverlap") (over_words p ∷ spaced_items s)
constraint_words (constrained.Extreme e p a) = call (extreme_word e) (name_words p ∷ name_words a ∷ [])
constraint_words (constrained.Ordered o p a b) = call (order_word o) (name_words p ∷ name_words a ∷ name_words b ∷ [])
constraint_words (constrained.Bounded f b c) = cumul_words f ++ sign (bound_sign b) ∷ int_words c
constraint_words (constrained.AlwaysIn f w lo hi) = call (codes "alwaysIn") (cumul_words f ∷ moments_items w ++ int_words lo ∷ int_words hi ∷ [])
constraint_words (constrained.AlwaysEqual g a v ij) = call (codes "alwaysEqual") (name_words g ∷ name_words a ∷ int_words v ∷ aligned_items ij)
constraint_words (constrained.AlwaysNoState g a) = call (codes "alwaysNoState") (name_words g ∷ name_words a ∷ [])
constraint_words (constrained.Holds e) = logic_words e

abbrev pub sense_word : Sense → List ℕ
sense_word Minimize = codes "minimize"
sense_word Maximize = codes "maximize"

abbrev pub forbidden_word : Forbidden → List ℕ
forbidden_word forbidden.Start = codes "forbidStart"
forbidden_word forbidden.Extent = codes "forbidExtent"

abbrev pub statement_body : Statement → List Word
statement_body Empty = []
statement_body (Define n d) = name n ∷ sign (codes "=") ∷ definition_words d
statement_body (Constrain c) = constraint_words c
statement_body (Forbid w a f) = call (forbidden_word w) (name_words a ∷ name_words f ∷ [])
statement_body (Aim s e) = call (sense_word s) (logic_words e ∷ [])
statement_body (Rank s es) = call (sense_word s) (call (codes "staticLex") (square (map logic_words es) ∷ []) ∷ [])

-- the words of a statement, with its semicolon
abbrev pub spelling : Statement → List Word
spelling s = statement_body s ++ sign (codes ";") ∷ []

-- what the spelling doesn't say: each kind of argument of an interval at most once, a pair at least of a step function, an
-- expression at least of an objective, brackets where an operand needs them
abbrev pub ivarg_sort : Ivarg → ℕ
ivarg_sort Optional = 0
ivarg_sort (Start r) = 1
ivarg_sort (End r) = 2
ivarg_sort (Size r) = 3

abbrev pub are_distinct : List ℕ → Bool
are_distinct [] = true
are_distinct (x ∷ xs) = list_all (λ y. not (x == y)) xs && are_distinct xs

abbrev pub is_formed : Statement → Bool
is_formed (Define n (IntervalVar args)) = are_distinct (map ivarg_sort args)
is_formed (Define n (StepFunction ps)) = nat_le 1 (length ps)
is_formed (Constrain (constrained.Holds e)) = is_logic e
is_formed (Aim s e) = is_logic e
is_formed (Rank s es) = are_logics es
is_formed _ = true

-- the words are the statement
pub record IsStatement (ws : List Word) (s : Statement) : Type 0 where
  pub formed : is_formed s ≡ true
  pub spelt : ws ≡ spelling s
