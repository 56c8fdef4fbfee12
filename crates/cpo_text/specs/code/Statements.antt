-- Statements read from left to right. The fuel is that of the expressions in them.
use Rattle.std.specs.Prelude.{ℕ, if◌then◌else◌, List, [], ◌∷◌, codes, Option, Some, None}
use Rattle.cpo_text.specs.Words.{Word}
use Rattle.cpo_text.specs.code.Rules.{Found, bound, behind, behind_word, if_behind, if_found, find_word, name_at, name_before, interval_at, between_at}
use Rattle.cpo_text.specs.code.Calls.{sequence_at, matrix_at, state_function_at, step_function_at, parts_at, alternative_at, no_overlap_at, pair_at, extreme_at, ordered_at, always_equal_at, always_no_state_at}
use Rattle.cpo_text.specs.code.CallWords.{senses, prohibitions, constraint_of, is_call, definition_word_at, begins_cumul}
use Rattle.cpo_text.specs.code.Contributions.{cumul_at, bounded_at, always_in_at}
use Rattle.cpo_text.specs.code.Levels.{read}
use Rattle.cpo_text.specs.code.Levels.Task.{logic, items}
use Rattle.cpo_text.specs.declared.expression.Logic.{Logic}
use Rattle.cpo_text.specs.declared.call_words.DefinitionWord.{DefinitionWord}
use Rattle.cpo_text.specs.declared.call_words.DefinitionWord.TheVariants as definition
use Rattle.cpo_text.specs.declared.call_words.ConstraintWord.{ConstraintWord}
use Rattle.cpo_text.specs.declared.call_words.ConstraintWord.TheVariants.{Between, Parts, Alternative, NoOverlap, Extreme, Ordered, AlwaysIn, AlwaysEqual, AlwaysNoState}
use Rattle.cpo_text.specs.declared.tree.Definition.{Definition}
use Rattle.cpo_text.specs.declared.tree.Definition.TheVariants.{Cumulative}
use Rattle.cpo_text.specs.declared.tree.Constrained.{Constrained}
use Rattle.cpo_text.specs.declared.tree.Constrained.TheVariants.{Holds}
use Rattle.cpo_text.specs.declared.tree.Forbidden.{Forbidden}
use Rattle.cpo_text.specs.declared.tree.Sense.{Sense}
use Rattle.cpo_text.specs.declared.tree.Statement.{Statement}
use Rattle.cpo_text.specs.declared.tree.Statement.TheVariants.{Empty, Define, Constrain, Forbid, Aim, Rank}

-- enough for the words of any text within its limit
unfoldable pub enough : ℕ
enough = 335544340

-- a list of one is the one
abbrev pub one_of : {X : Type 0} → Found (List X) → Found X
one_of None = None
one_of (Some p) = first_of p.0 p.1
  where
    first_of : {X : Type 0} → List X → List Word → Found X
    first_of (x ∷ []) ws = Some (x, ws)
    first_of _ ws = None

unfoldable pub logic_at : ℕ → List Word → Found Logic
logic_at f ws = one_of (read f logic ws)

unfoldable pub holds_at : ℕ → List Word → Found Statement
holds_at f ws = bound (logic_at f ws) (λ e r. Some (Constrain (Holds e), r))

-- one expression or more, behind the word of an objective that has several
unfoldable pub criteria_at : ℕ → List Word → Found (List Logic)
criteria_at f ws = if_behind (behind (codes "(") ws) (λ r. if_behind (behind (codes "[") r) (λ r2. bound (read f items r2) (λ es r3.
    if_behind (behind (codes "]") r3) (λ r4. if_behind (behind (codes ")") r4) (λ r5. Some (es, r5)) None) None)) None) None

unfoldable pub rank_at : ℕ → Sense → List Word → Found Statement
rank_at f s ws = bound (criteria_at f ws) (λ es r. if_behind (behind (codes ")") r) (λ r2. Some (Rank s es, r2)) None)

unfoldable pub aim_at : ℕ → Sense → List Word → Found Statement
aim_at f s ws = if_behind (behind (codes "(") ws) (λ r. if_behind (behind_word (codes "staticLex") r) (rank_at f s)
    (bound (logic_at f r) (λ e r2. if_behind (behind (codes ")") r2) (λ r3. Some (Aim s e, r3)) None))) None

-- definitions

-- behind the word of a definition
unfoldable pub defined_at : DefinitionWord → List Word → Found Definition
defined_at definition.IntervalVar ws = interval_at ws
defined_at definition.SequenceVar ws = sequence_at ws
defined_at definition.TransitionMatrix ws = matrix_at ws
defined_at definition.StateFunction ws = state_function_at ws
defined_at definition.StepFunction ws = step_function_at ws

-- a call, or else a cumulative expression
unfoldable pub definition_at : ℕ → List Word → Found Definition
definition_at f ws = if_found (definition_word_at ws) defined_at (bound (cumul_at f ws) (λ c r. Some (Cumulative c, r)))

-- constraints and objectives

-- behind the word of a constraint
unfoldable pub constraint_at : ℕ → ConstraintWord → List Word → Found Constrained
constraint_at f (Between t) ws = between_at t ws
constraint_at f (Parts h) ws = parts_at h ws
constraint_at f Alternative ws = alternative_at ws
constraint_at f NoOverlap ws = no_overlap_at ws
constraint_at f (Extreme e) ws = extreme_at e ws
constraint_at f (Ordered o) ws = ordered_at o ws
constraint_at f AlwaysIn ws = always_in_at f ws
constraint_at f AlwaysEqual ws = always_equal_at ws
constraint_at f AlwaysNoState ws = always_no_state_at ws

-- an interval and a step function
unfoldable pub forbid_at : Forbidden → List Word → Found Statement
forbid_at w ws = bound (pair_at ws) (λ p r. Some (Forbid w p.0 p.1, r))

abbrev pub by_forbidden : Option Forbidden → List Word → Found Statement
by_forbidden None ws = None
by_forbidden (Some w) ws = forbid_at w ws

abbrev pub by_sense : ℕ → Option Sense → Option Forbidden → List Word → Found Statement
by_sense f None w ws = by_forbidden w ws
by_sense f (Some s) w ws = aim_at f s ws

abbrev pub by_constraint : ℕ → Option ConstraintWord → Option Sense → Option Forbidden → List Word → Found Statement
by_constraint f (Some c) s w ws = bound (constraint_at f c ws) (λ c r. Some (Constrain c, r))
by_constraint f None s w ws = by_sense f s w ws

-- what begins with the call word of a constraint, of a calendar's sentence or of an objective
unfoldable pub called_at : ℕ → List ℕ → List Word → Found Statement
called_at f n ws = by_constraint f (constraint_of n) (find_word senses n) (find_word prohibitions n) ws

-- what begins with a call word, before the words behind it
unfoldable pub named_at : ℕ → List Word → List ℕ → List Word → Found Statement
named_at f ws n r = if is_call n then holds_at f ws else called_at f n r

-- a statement that is no definition
unfoldable pub clause_at : ℕ → List Word → Found Statement
clause_at f ws = if begins_cumul ws then bound (bounded_at f ws) (λ c r. Some (Constrain c, r)) else if_found (name_at ws) (named_at f ws) (holds_at f ws)

-- a statement without its semicolon
unfoldable pub body_at : ℕ → List Word → Found Statement
body_at f ws = if_found (name_before (codes "=") ws) (λ n r. bound (definition_at f r) (λ d r2. Some (Define n d, r2))) (clause_at f ws)

unfoldable pub statement_at : ℕ → List Word → Found Statement
statement_at f ws = if_behind (behind (codes ";") ws) (λ r. Some (Empty, r)) (bound (body_at f ws) (λ s r. if_behind (behind (codes ";") r) (λ r2. Some (s, r2)) None))
