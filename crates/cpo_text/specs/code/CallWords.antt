-- The words that begin calls. None is reserved: each is known by the bracket that follows it.
use Rattle.std.specs.Prelude.{ℕ, Bool, true, false, ◌||◌, List, [], ◌∷◌, codes, bytes_eq, Option, Some, None, is_some}
use Rattle.cpo_text.specs.Words.{Word}
use Rattle.cpo_text.specs.code.Rules.{Found, bound, behind, if_behind, name_at, with_rest, find_word}
use Rattle.cpo_text.specs.code.Levels.{measure_of, gather_of}
use Rattle.cpo_text.specs.declared.tree.Temporal.TheVariants.{StartBeforeStart, StartBeforeEnd, EndBeforeStart, EndBeforeEnd, StartAtStart, StartAtEnd, EndAtStart, EndAtEnd}
use Rattle.cpo_text.specs.declared.tree.Hierarchy.TheVariants.{Span, Synchronize}
use Rattle.cpo_text.specs.declared.tree.Extreme.TheVariants.{First, Last}
use Rattle.cpo_text.specs.declared.tree.Order.TheVariants.{Before, Prev}
use Rattle.cpo_text.specs.declared.tree.Forbidden.{Forbidden}
use Rattle.cpo_text.specs.declared.tree.Forbidden.TheVariants as forbidden
use Rattle.cpo_text.specs.declared.tree.Sense.{Sense}
use Rattle.cpo_text.specs.declared.tree.Sense.TheVariants.{Minimize, Maximize}
use Rattle.cpo_text.specs.declared.call_words.PartWord.{PartWord}
use Rattle.cpo_text.specs.declared.call_words.PartWord.TheVariants as part
use Rattle.cpo_text.specs.declared.call_words.DefinitionWord.{DefinitionWord}
use Rattle.cpo_text.specs.declared.call_words.DefinitionWord.TheVariants as definition
use Rattle.cpo_text.specs.declared.call_words.ConstraintWord.{ConstraintWord}
use Rattle.cpo_text.specs.declared.call_words.ConstraintWord.TheVariants.{Between, Parts, Alternative, NoOverlap, Extreme, Ordered, AlwaysIn, AlwaysEqual, AlwaysNoState}

-- parts of cumulative expressions
abbrev pub contributions : List (List ℕ × PartWord)
contributions = (codes "pulse", part.Pulse) ∷ (codes "step", part.Step) ∷ (codes "stepAtStart", part.StepAtStart) ∷ (codes "stepAtEnd", part.StepAtEnd) ∷ []

abbrev pub definitions : List (List ℕ × DefinitionWord)
definitions = (codes "intervalVar", definition.IntervalVar) ∷ (codes "sequenceVar", definition.SequenceVar) ∷ (codes "transitionMatrix", definition.TransitionMatrix)
    ∷ (codes "stateFunction", definition.StateFunction) ∷ (codes "stepFunction", definition.StepFunction) ∷ []

abbrev pub precedences : List (List ℕ × ConstraintWord)
precedences = (codes "startBeforeStart", Between StartBeforeStart) ∷ (codes "startBeforeEnd", Between StartBeforeEnd) ∷ (codes "endBeforeStart", Between EndBeforeStart)
    ∷ (codes "endBeforeEnd", Between EndBeforeEnd) ∷ (codes "startAtStart", Between StartAtStart) ∷ (codes "startAtEnd", Between StartAtEnd)
    ∷ (codes "endAtStart", Between EndAtStart) ∷ (codes "endAtEnd", Between EndAtEnd) ∷ []

-- on parts and on sequences
abbrev pub gatherings : List (List ℕ × ConstraintWord)
gatherings = (codes "span", Parts Span) ∷ (codes "alternative", Alternative) ∷ (codes "synchronize", Parts Synchronize) ∷ (codes "noOverlap", NoOverlap)
    ∷ (codes "first", Extreme First) ∷ (codes "last", Extreme Last) ∷ (codes "before", Ordered Before) ∷ (codes "prev", Ordered Prev) ∷ []

-- on functions
abbrev pub always : List (List ℕ × ConstraintWord)
always = (codes "alwaysIn", AlwaysIn) ∷ (codes "alwaysEqual", AlwaysEqual) ∷ (codes "alwaysNoState", AlwaysNoState) ∷ []

abbrev pub senses : List (List ℕ × Sense)
senses = (codes "minimize", Minimize) ∷ (codes "maximize", Maximize) ∷ []

-- on calendars
abbrev pub prohibitions : List (List ℕ × Forbidden)
prohibitions = (codes "forbidStart", forbidden.Start) ∷ (codes "forbidExtent", forbidden.Extent) ∷ []

abbrev pub or_else : {X : Type 0} → Option X → Option X → Option X
or_else None b = b
or_else (Some x) b = Some x

unfoldable pub constraint_of : List ℕ → Option ConstraintWord
constraint_of n = or_else (find_word precedences n) (or_else (find_word gatherings n) (find_word always n))

-- a call word of an expression
abbrev pub is_call : List ℕ → Bool
is_call n = bytes_eq n (codes "presenceOf") || is_some (measure_of n) || is_some (gather_of n)

-- the word of a definition with a bracket behind it; the bracket is left
unfoldable pub definition_word_at : List Word → Found DefinitionWord
definition_word_at ws = bound (name_at ws) (λ n r. if_behind (behind (codes "(") r) (λ r2. with_rest (find_word definitions n) r) None)

-- whether a name begins a cumulative expression: alone, or as the word of a part with a bracket behind it
abbrev pub is_part : Option (List Word) → List ℕ → Bool
is_part None n = true
is_part (Some r) n = is_some (find_word contributions n)

abbrev pub named_part : Found (List ℕ) → Bool
named_part None = false
named_part (Some p) = is_part (behind (codes "(") p.1) p.0

unfoldable pub begins_part : List Word → Bool
begins_part ws = named_part (name_at ws)

abbrev pub behind_minus : Option (List Word) → List Word → Bool
behind_minus None ws = begins_part ws
behind_minus (Some r) ws = begins_part r

-- whether a cumulative expression begins, with a minus or without
unfoldable pub begins_cumul : List Word → Bool
begins_cumul ws = behind_minus (behind (codes "-") ws) ws
