-- What is spelled as a statement is read as that statement.
use Rattle.std.proofs.Common.{◌≡◌, ℕ, ◌+◌, ◌*◌, ◌≤◌, Bool, true, false, ◌&&◌, ◌||◌, cond, List, [], ◌∷◌, ◌++◌, length, map, Option, Some, None, refl, sym, ap, subst, ◌∙◌, arith, append_assoc, length-append}
use Rattle.std.specs.Prelude.{codes, bytes_eq, if◌then◌else◌}
use Rattle.cpo_text.specs.Words.{Word, is_sign, between, commas, round, call}
use Rattle.cpo_text.specs.Words.Word.{name, number, large, sign, quoted}
use Rattle.cpo_text.specs.Expressions.{measure_word, gather_word, link_sign, link_level, square, sum_words, logic_step, logic_words, level_step, level, at_least, all_at_least, are_many, is_logic, are_logics}
use Rattle.cpo_text.specs.Cumulative.{cumul_words}
use Rattle.cpo_text.specs.Spelling.{int_words, int_items, name_words, names_words, over_words, spaced_items, moments_items, aligned_items, bound_sign, definition_words, constraint_words, forbidden_word, sense_word, statement_body, spelling, is_formed}
use Rattle.cpo_text.specs.code.Rules.{behind, behind_word, if_found, name_at, name_before}
use Rattle.cpo_text.specs.code.CallWords.{is_call, definition_word_at, behind_minus, begins_part, begins_cumul}
use Rattle.cpo_text.specs.code.Statements.{one_of, logic_at, holds_at, criteria_at, rank_at, aim_at, defined_at, definition_at, constraint_at, forbid_at, called_at, named_at, clause_at, body_at, statement_at}
use Rattle.cpo_text.specs.declared.expression.Measure.{Measure}
use Rattle.cpo_text.specs.declared.expression.Measure.TheVariants.{StartOf, EndOf, SizeOf, LengthOf}
use Rattle.cpo_text.specs.declared.expression.Gather.{Gather}
use Rattle.cpo_text.specs.declared.expression.Gather.TheVariants as gather
use Rattle.cpo_text.specs.declared.expression.Logic.{Logic, roll-Logic}
use Rattle.cpo_text.specs.declared.expression.Logic.TheOpen.{Logic-F}
use Rattle.cpo_text.specs.declared.expression.Logic.TheOpen.Logic-F.{Lit, Group, PresenceOf, Measured, Gathered, Linked, Neg, Sum, Compare, Not, Implies}
use Rattle.cpo_text.specs.declared.expression.Logic.TheFolds.{fold-roll-Logic, ind-Logic, map-Logic}
use Rattle.cpo_text.specs.declared.call_words.DefinitionWord.{DefinitionWord}
use Rattle.cpo_text.specs.declared.call_words.DefinitionWord.TheVariants as word
use Rattle.cpo_text.specs.declared.call_words.ConstraintWord.{ConstraintWord}
use Rattle.cpo_text.specs.declared.call_words.ConstraintWord.TheVariants as words
use Rattle.cpo_text.specs.declared.tree.Definition.{Definition}
use Rattle.cpo_text.specs.declared.tree.Definition.TheVariants.{IntervalVar, SequenceVar, TransitionMatrix, StateFunction, StepFunction, Cumulative}
use Rattle.cpo_text.specs.declared.tree.Moments.{Moments}
use Rattle.cpo_text.specs.declared.tree.Moments.TheVariants.{From, During}
use Rattle.cpo_text.specs.declared.tree.Constrained.{Constrained}
use Rattle.cpo_text.specs.declared.tree.Constrained.TheVariants as constrained
use Rattle.cpo_text.specs.declared.tree.Forbidden.{Forbidden}
use Rattle.cpo_text.specs.declared.tree.Sense.{Sense}
use Rattle.cpo_text.specs.declared.tree.Statement.{Statement}
use Rattle.cpo_text.specs.declared.tree.Statement.TheVariants.{Empty, Define, Constrain, Forbid, Aim, Rank}
use Rattle.cpo_text.proofs.operands.Binds.{bytes_same, sign_same, word_again}
use Rattle.cpo_text.proofs.stating.Again.{interval_again, between_again}
use Rattle.cpo_text.proofs.stating.Tables.{definition_name, definition_found, part_no_call, constraint_name, IsOther, constraint_other, constraint_found, sense_other, sense_found, forbidden_other, forbidden_found}
use Rattle.cpo_text.proofs.levelled.PartsAgain.{cumul_again, cumul_long, cumul_sign, cumul_begins, cumul_undefined, cumul_no_definition, bound_after, bound_no_equals, bounded_again, always_in_again}
use Rattle.cpo_text.proofs.stating.Recalled.{sequence_again, matrix_again, state_function_again, step_function_again, parts_again, alternative_again, no_overlap_again, pair_again, extreme_again, ordered_again, always_equal_again, always_no_state_again}
use Rattle.cpo_text.proofs.operands.Nodes.{and_first, and_second, is_so}
use Rattle.cpo_text.proofs.operands.Openings.{front_between, front_sum}
use Rattle.cpo_text.proofs.operands.Ends.{signs, ends}
use Rattle.cpo_text.proofs.operands.Owns.{again, list_again}
use Rattle.cpo_text.proofs.operands.Takings.{gathered_words}
use Rattle.cpo_text.specs.lemmas.Folds.{composed}

-- how an expression begins, with no minus: with no name, or with one of its call words and a bracket
abbrev pub front : List Word → Bool
front [] = false
front (name n ∷ []) = false
front (name n ∷ w ∷ ws) = is_call n && is_sign (codes "(") w
front (number n ∷ ws) = true
front (large ∷ ws) = true
front (sign s ∷ ws) = bytes_eq s (codes "(") || bytes_eq s (codes "-") || bytes_eq s (codes "!")
front (quoted ∷ ws) = false

-- and behind its minus so too
abbrev pub minus_front : List Word → Bool
minus_front (sign s ∷ ws) = if bytes_eq (codes "-") s then front ws else true
minus_front ws = true

pub record IsStart (ws : List Word) : Type 0 where
  pub first : front ws ≡ true
  pub minus : minus_front ws ≡ true

front_append : (xs ys : List Word) → front xs ≡ true → front (xs ++ ys) ≡ true
front_append [] ys h = cc
front_append (name n ∷ []) ys h = cc
front_append (name n ∷ w ∷ ws) ys h = h
front_append (number n ∷ ws) ys h = refl
front_append (large ∷ ws) ys h = refl
front_append (sign s ∷ ws) ys h = h
front_append (quoted ∷ ws) ys h = cc

minus_append : (xs ys : List Word) → front xs ≡ true → minus_front xs ≡ true → minus_front (xs ++ ys) ≡ true
minus_append [] ys h k = cc
minus_append (name n ∷ ws) ys h k = refl
minus_append (number n ∷ ws) ys h k = refl
minus_append (large ∷ ws) ys h k = refl
minus_append (quoted ∷ ws) ys h k = refl
minus_append (sign s ∷ ws) ys h k = decided (bytes_eq (codes "-") s) k
  where
    decided : (b : Bool) → (if b then front ws else true) ≡ true → (if b then front (ws ++ ys) else true) ≡ true
    decided true k = front_append ws ys k
    decided false k = refl

starts_append : (xs ys : List Word) → IsStart xs → IsStart (xs ++ ys)
starts_append xs ys h = record { first = front_append xs ys h.first; minus = minus_append xs ys h.first h.minus }

abbrev Starts : Logic → Type 0
Starts e = (n : ℕ) → at_least n (level e) ≡ true → IsStart (logic_words e)

abbrev Known : Type 0
Known = (e : Logic) × Starts e

first_starts : (m : ℕ) (f : List (List Word) → List Word) → ((x : List Word) (xs : List (List Word)) → (rest : List Word) × (f (x ∷ xs) ≡ x ++ rest))
    → (ps : List Known) → (are_many (map (λ p. level p.0) ps) && all_at_least m (map (λ p. level p.0) ps)) ≡ true → IsStart (f (map (λ p. logic_words p.0) ps))
first_starts m f front [] h = cc
first_starts m f front (p ∷ ps) h =
    let first = front (logic_words p.0) (map (λ q. logic_words q.0) ps) in
    let tight = and_first _ _ (and_second (are_many (map (λ q. level q.0) (p ∷ ps))) _ h) in
    subst IsStart (sym first.1) (starts_append (logic_words p.0) first.0 (p.1 m tight))

measure_starts : (m : Measure) (ws : List Word) → IsStart (name (measure_word m) ∷ sign (codes "(") ∷ ws)
measure_starts StartOf ws = record { first = refl; minus = refl }
measure_starts EndOf ws = record { first = refl; minus = refl }
measure_starts SizeOf ws = record { first = refl; minus = refl }
measure_starts LengthOf ws = record { first = refl; minus = refl }

gather_starts : (g : Gather) (ws : List Word) → IsStart (name (gather_word g) ∷ sign (codes "(") ∷ ws)
gather_starts gather.Max ws = record { first = refl; minus = refl }
gather_starts gather.Min ws = record { first = refl; minus = refl }
gather_starts gather.Sum ws = record { first = refl; minus = refl }

step_starts : (y : Logic-F Known) (n : ℕ) → at_least n (level_step (map-Logic Known (Option ℕ) (λ p. level p.0) y)) ≡ true → IsStart (logic_step (map-Logic Known (List Word) (λ p. logic_words p.0) y))
step_starts (Lit (Some m)) n h = record { first = refl; minus = refl }
step_starts (Lit None) n h = record { first = refl; minus = refl }
step_starts (Group p) n h = record { first = refl; minus = refl }
step_starts (PresenceOf a) n h = record { first = refl; minus = refl }
step_starts (Measured m a d) n h = measure_starts m _
step_starts (Gathered g ps) n h = gather_starts g _
step_starts (Linked l ps) n h = first_starts _ (between (link_sign l)) (front_between (link_sign l)) ps (is_so n (link_level l) _ h)
step_starts (Neg p) n h = let inner = p.1 6 (is_so n 5 _ h) in record { first = refl; minus = inner.first }
step_starts (Sum ps) n h = first_starts 5 sum_words front_sum ps (is_so n 4 _ h)
step_starts (Compare op p q) n h = starts_append (logic_words p.0) _ (p.1 4 (and_first _ _ (is_so n 3 _ h)))
step_starts (Not p) n h = record { first = refl; minus = refl }
step_starts (Implies p q) n h = starts_append (logic_words p.0) _ (p.1 1 (and_first _ _ (is_so n 0 _ h)))

words_start : (e : Logic) → Starts e
words_start = ind-Logic Starts (λ x y is. subst (λ z. Starts (roll-Logic z)) is (λ n h.
    rw (fold-roll-Logic (List Word) logic_step, composed Starts (List Word) logic_words y)
    (step_starts y n (rw (fold-roll-Logic (Option ℕ) level_step, composed Starts (Option ℕ) level y) at h))))

-- so it is read as one

no_semicolon : (ws : List Word) → front ws ≡ true → behind (codes ";") ws ≡ None
no_semicolon [] h = cc
no_semicolon (name n ∷ ws) h = refl
no_semicolon (number n ∷ ws) h = refl
no_semicolon (large ∷ ws) h = refl
no_semicolon (quoted ∷ ws) h = refl
no_semicolon (sign s ∷ ws) h = decided (is_sign (codes ";") (sign s)) refl
  where
    decided : (b : Bool) → is_sign (codes ";") (sign s) ≡ b → cond b (Some ws) None ≡ None
    decided false is = refl
    decided true is = let e = subst (λ w. front (w ∷ ws) ≡ true) (sign_same (codes ";") (sign s) is) h in cc

-- no part of a cumulative expression
front_part : (ws : List Word) → front ws ≡ true → begins_part ws ≡ false
unfolding begins_part
front_part [] h = cc
front_part (name n ∷ []) h = cc
front_part (name n ∷ w ∷ ws) h =
    let call = and_first (is_call n) (is_sign (codes "(") w) h in
    let bracket = sign_same (codes "(") w (and_second (is_call n) (is_sign (codes "(") w) h) in
    rw bracket (part_no_call n call)
front_part (number n ∷ ws) h = refl
front_part (large ∷ ws) h = refl
front_part (sign s ∷ ws) h = refl
front_part (quoted ∷ ws) h = cc

start_cumul : (ws : List Word) → IsStart ws → begins_cumul ws ≡ false
unfolding begins_cumul
start_cumul [] h = let first = h.first in cc
start_cumul (name n ∷ ws) h = front_part (name n ∷ ws) h.first
start_cumul (number n ∷ ws) h = front_part (number n ∷ ws) h.first
start_cumul (large ∷ ws) h = front_part (large ∷ ws) h.first
start_cumul (quoted ∷ ws) h = front_part (quoted ∷ ws) h.first
start_cumul (sign s ∷ ws) h = decided (bytes_eq (codes "-") s) h.minus
  where
    decided : (b : Bool) → (if b then front ws else true) ≡ true → behind_minus (cond b (Some ws) None) (sign s ∷ ws) ≡ false
    decided true k = front_part ws k
    decided false k = front_part (sign s ∷ ws) h.first

front_undefined : (ws : List Word) → front ws ≡ true → name_before (codes "=") ws ≡ None
unfolding name_before
front_undefined [] h = cc
front_undefined (name n ∷ []) h = cc
front_undefined (name n ∷ w ∷ ws) h = let bracket = sign_same (codes "(") w (and_second (is_call n) (is_sign (codes "(") w) h) in rw bracket refl
front_undefined (number n ∷ ws) h = refl
front_undefined (large ∷ ws) h = refl
front_undefined (sign s ∷ ws) h = refl
front_undefined (quoted ∷ ws) h = cc

front_holds : (f : ℕ) (ws : List Word) → front ws ≡ true → if_found (name_at ws) (named_at f ws) (holds_at f ws) ≡ holds_at f ws
unfolding named_at
front_holds f [] h = cc
front_holds f (name n ∷ []) h = cc
front_holds f (name n ∷ w ∷ ws) h = let call = and_first (is_call n) (is_sign (codes "(") w) h in rw call refl
front_holds f (number n ∷ ws) h = refl
front_holds f (large ∷ ws) h = refl
front_holds f (sign s ∷ ws) h = refl
front_holds f (quoted ∷ ws) h = cc

body_holds : (f : ℕ) (ws : List Word) → IsStart ws → body_at f ws ≡ holds_at f ws
unfolding body_at clause_at
body_holds f ws h = rw (front_undefined ws h.first) (rw (start_cumul ws h) (front_holds f ws h.first))

logic_again : (f : ℕ) (e : Logic) (rest : List Word) → is_logic e ≡ true → ends (signs 0) rest ≡ true → 20 * length (logic_words e) + 11 ≤ f → logic_at f (logic_words e ++ rest) ≡ Some (e, rest)
unfolding logic_at
logic_again f e rest tight end big = ap one_of (again e 0 rest tight end f big)

holds_again : (f : ℕ) (e : Logic) (rest : List Word) → is_logic e ≡ true → ends (signs 0) rest ≡ true → 20 * length (logic_words e) + 11 ≤ f → holds_at f (logic_words e ++ rest) ≡ Some (Constrain (constrained.Holds e), rest)
unfolding holds_at
holds_again f e rest tight end big = rw (logic_again f e rest tight end big) refl

-- no expression begins with the word of an objective that has several
front_single : (ws : List Word) → front ws ≡ true → behind_word (codes "staticLex") ws ≡ None
unfolding behind_word
front_single [] h = cc
front_single (name n ∷ []) h = cc
front_single (number n ∷ ws) h = refl
front_single (large ∷ ws) h = refl
front_single (sign s ∷ ws) h = refl
front_single (quoted ∷ ws) h = cc
front_single (name n ∷ w ∷ ws) h = decided (bytes_eq n (codes "staticLex")) refl
  where
    decided : (b : Bool) → bytes_eq n (codes "staticLex") ≡ b → cond b (Some (w ∷ ws)) None ≡ None
    decided false is = refl
    decided true is = let wrong = subst (λ m. is_call m ≡ true) (bytes_same n (codes "staticLex") is) (and_first (is_call n) (is_sign (codes "(") w) h) in cc

aim_again : (f : ℕ) (s : Sense) (e : Logic) (rest : List Word) → is_logic e ≡ true → 20 * length (logic_words e) + 11 ≤ f → aim_at f s (round (logic_words e) ++ rest) ≡ Some (Aim s e, rest)
unfolding aim_at
aim_again f s e rest tight big =
    let close : List Word = sign (codes ")") ∷ rest in
    let start = starts_append (logic_words e) close (words_start e 0 tight) in
    let single = front_single (logic_words e ++ close) start.first in
    ap (λ xs. aim_at f s (sign (codes "(") ∷ xs)) (append_assoc (logic_words e) (sign (codes ")") ∷ []) rest) ∙ rw single (rw (logic_again f e close tight refl big) refl)

criteria_again : (f : ℕ) (es : List Logic) (rest : List Word) → are_logics es ≡ true → 20 * length (commas (map logic_words es)) + 12 ≤ f → criteria_at f (round (square (map logic_words es)) ++ rest) ≡ Some (es, rest)
unfolding criteria_at
criteria_again f [] rest formed big = cc
criteria_again f (e ∷ es) rest formed big =
    let got = list_again e es (sign (codes "]") ∷ sign (codes ")") ∷ rest) f (and_second _ _ formed) refl refl big in
    ap (criteria_at f) (gathered_words (e ∷ es) rest) ∙ rw got refl

rank_again : (f : ℕ) (s : Sense) (es : List Logic) (rest : List Word) → are_logics es ≡ true → 20 * length (commas (map logic_words es)) + 12 ≤ f
    → aim_at f s (round (call (codes "staticLex") (square (map logic_words es) ∷ [])) ++ rest) ≡ Some (Rank s es, rest)
unfolding aim_at rank_at
rank_again f s es rest formed big =
    let inner : List Word = round (square (map logic_words es)) in
    let close : List Word = sign (codes ")") ∷ rest in
    let words : (inner ++ sign (codes ")") ∷ []) ++ rest ≡ inner ++ close = append_assoc inner (sign (codes ")") ∷ []) rest in
    ap (λ xs. aim_at f s (sign (codes "(") ∷ name (codes "staticLex") ∷ xs)) words ∙ rw (word_again (codes "staticLex") (inner ++ close)) (rw (criteria_again f es close formed big) refl)

-- definitions

definition_word_again : (w : DefinitionWord) (r : List Word) → definition_word_at (name (definition_name w) ∷ sign (codes "(") ∷ r) ≡ Some (w, sign (codes "(") ∷ r)
unfolding definition_word_at
definition_word_again w r = rw (definition_found w) refl

definition_again : (f : ℕ) (n : List ℕ) (d : Definition) (rest : List Word) → is_formed (Define n d) ≡ true → 20 * length (definition_words d) + 11 ≤ f
    → definition_at f (definition_words d ++ sign (codes ";") ∷ rest) ≡ Some (d, sign (codes ";") ∷ rest)
unfolding definition_at defined_at
definition_again f n (IntervalVar args) rest formed big = rw (definition_word_again word.IntervalVar _) (interval_again args (sign (codes ";") ∷ rest) formed)
definition_again f n (SequenceVar ns types) rest formed big = rw (definition_word_again word.SequenceVar _) (sequence_again ns types (sign (codes ";") ∷ rest))
definition_again f n (TransitionMatrix rows) rest formed big = rw (definition_word_again word.TransitionMatrix _) (matrix_again rows (sign (codes ";") ∷ rest))
definition_again f n (StateFunction m) rest formed big = rw (definition_word_again word.StateFunction _) (state_function_again m (sign (codes ";") ∷ rest))
definition_again f n (StepFunction ps) rest formed big = rw (definition_word_again word.StepFunction _) (step_function_again ps (sign (codes ";") ∷ rest) formed)
definition_again f n (Cumulative c) rest formed big =
    let got = cumul_again f c (sign (codes ";") ∷ rest) (let long = cumul_long c in omega arith) (record { joint = refl; bracket = refl }) in
    rw (cumul_no_definition c (sign (codes ";") ∷ rest) refl) (rw got refl)

-- call words of constraints and objectives

call_body : (f : ℕ) (n : List ℕ) (r : List Word) → body_at f (name n ∷ sign (codes "(") ∷ r) ≡ clause_at f (name n ∷ sign (codes "(") ∷ r)
unfolding body_at name_before
call_body f n r = refl

call_clause : (f : ℕ) (n : List ℕ) (r : List Word) → IsOther n → clause_at f (name n ∷ sign (codes "(") ∷ r) ≡ called_at f n (sign (codes "(") ∷ r)
unfolding clause_at begins_cumul begins_part named_at
call_clause f n r other = rw (other.part, other.call) refl

constraint_called : (f : ℕ) (w : ConstraintWord) (c : Constrained) (ws rest : List Word) → constraint_at f w ws ≡ Some (c, rest) → called_at f (constraint_name w) ws ≡ Some (Constrain c, rest)
unfolding called_at
constraint_called f w c ws rest got = rw (constraint_found w) (rw got refl)

-- a constraint that is a call
call_again : (f : ℕ) (w : ConstraintWord) (c : Constrained) (inner rest : List Word) → constraint_at f w (round inner ++ rest) ≡ Some (c, rest) → body_at f (name (constraint_name w) ∷ round inner ++ rest) ≡ Some (Constrain c, rest)
call_again f w c inner rest got =
    let r : List Word = (inner ++ sign (codes ")") ∷ []) ++ rest in
    call_body f (constraint_name w) r ∙ call_clause f (constraint_name w) r (constraint_other w) ∙ constraint_called f w c (sign (codes "(") ∷ r) rest got

aim_called : (f : ℕ) (s : Sense) (e : Logic) (rest : List Word) → is_logic e ≡ true → 20 * length (logic_words e) + 11 ≤ f → called_at f (sense_word s) (round (logic_words e) ++ rest) ≡ Some (Aim s e, rest)
unfolding called_at
aim_called f s e rest tight big = let found = sense_found s in rw (found.0, found.1) (aim_again f s e rest tight big)

rank_called : (f : ℕ) (s : Sense) (es : List Logic) (rest : List Word) → are_logics es ≡ true → 20 * length (commas (map logic_words es)) + 12 ≤ f
    → called_at f (sense_word s) (round (call (codes "staticLex") (square (map logic_words es) ∷ [])) ++ rest) ≡ Some (Rank s es, rest)
unfolding called_at
rank_called f s es rest formed big = let found = sense_found s in rw (found.0, found.1) (rank_again f s es rest formed big)

forbid_again : (w : Forbidden) (a s : List ℕ) (rest : List Word) → forbid_at w (round (commas (name_words a ∷ name_words s ∷ [])) ++ rest) ≡ Some (Forbid w a s, rest)
unfolding forbid_at
forbid_again w a s rest = rw (pair_again a s rest) refl

forbid_called : (f : ℕ) (w : Forbidden) (a s : List ℕ) (rest : List Word) → called_at f (forbidden_word w) (round (commas (name_words a ∷ name_words s ∷ [])) ++ rest) ≡ Some (Forbid w a s, rest)
unfolding called_at
forbid_called f w a s rest = let found = forbidden_found w in rw (found.constraint, found.sense, found.found) (forbid_again w a s rest)

first_long : (x y : List Word) (ys : List (List Word)) → length x ≤ length (commas (x ∷ y ∷ ys))
first_long x y ys = omega (arith, length-append x (sign (codes ",") ∷ commas (y ∷ ys)))

window_long : (ws : List Word) (w : Moments) (is : List (List Word)) → length ws ≤ length (commas (ws ∷ moments_items w ++ is))
window_long ws (From u v) is = first_long ws (int_words u) (int_words v ∷ is)
window_long ws (During a) is = first_long ws (name_words a) is

constraint_again : (f : ℕ) (c : Constrained) (rest : List Word) → is_formed (Constrain c) ≡ true → 20 * length (constraint_words c) + 11 ≤ f
    → body_at f (constraint_words c ++ sign (codes ";") ∷ rest) ≡ Some (Constrain c, sign (codes ";") ∷ rest)
unfolding constraint_at body_at clause_at
constraint_again f (constrained.Between t a b z) rest formed big = call_again f (words.Between t) (constrained.Between t a b z) (commas (name_words a ∷ name_words b ∷ int_items z)) (sign (codes ";") ∷ rest) (between_again t a b z (sign (codes ";") ∷ rest))
constraint_again f (constrained.Parts h a ns) rest formed big = call_again f (words.Parts h) (constrained.Parts h a ns) (commas (name_words a ∷ names_words ns ∷ [])) (sign (codes ";") ∷ rest) (parts_again h a ns (sign (codes ";") ∷ rest))
constraint_again f (constrained.Alternative a ns n) rest formed big =
    call_again f words.Alternative (constrained.Alternative a ns n) (commas (name_words a ∷ names_words ns ∷ int_items n)) (sign (codes ";") ∷ rest) (alternative_again a ns n (sign (codes ";") ∷ rest))
constraint_again f (constrained.NoOverlap p s) rest formed big = call_again f words.NoOverlap (constrained.NoOverlap p s) (commas (over_words p ∷ spaced_items s)) (sign (codes ";") ∷ rest) (no_overlap_again p s (sign (codes ";") ∷ rest))
constraint_again f (constrained.Extreme e p a) rest formed big = call_again f (words.Extreme e) (constrained.Extreme e p a) (commas (name_words p ∷ name_words a ∷ [])) (sign (codes ";") ∷ rest) (extreme_again e p a (sign (codes ";") ∷ rest))
constraint_again f (constrained.Ordered o p a b) rest formed big =
    call_again f (words.Ordered o) (constrained.Ordered o p a b) (commas (name_words p ∷ name_words a ∷ name_words b ∷ [])) (sign (codes ";") ∷ rest) (ordered_again o p a b (sign (codes ";") ∷ rest))
constraint_again f (constrained.AlwaysIn c w lo hi) rest formed big =
    let inner : List Word = commas (cumul_words c ∷ moments_items w ++ int_words lo ∷ int_words hi ∷ []) in
    let size = length-append inner (sign (codes ")") ∷ []) in
    let long = window_long (cumul_words c) w (int_words lo ∷ int_words hi ∷ []) in
    let few = cumul_long c in
    call_again f words.AlwaysIn (constrained.AlwaysIn c w lo hi) inner (sign (codes ";") ∷ rest) (always_in_again f c w lo hi (sign (codes ";") ∷ rest) (omega arith))
constraint_again f (constrained.AlwaysEqual g a v ij) rest formed big =
    call_again f words.AlwaysEqual (constrained.AlwaysEqual g a v ij) (commas (name_words g ∷ name_words a ∷ int_words v ∷ aligned_items ij)) (sign (codes ";") ∷ rest) (always_equal_again g a v ij (sign (codes ";") ∷ rest))
constraint_again f (constrained.AlwaysNoState g a) rest formed big = call_again f words.AlwaysNoState (constrained.AlwaysNoState g a) (commas (name_words g ∷ name_words a ∷ [])) (sign (codes ";") ∷ rest) (always_no_state_again g a (sign (codes ";") ∷ rest))
constraint_again f (constrained.Bounded c b i) rest formed big =
    let end : List Word = sign (codes ";") ∷ rest in
    let behind_it : List Word = sign (bound_sign b) ∷ int_words i ++ end in
    let size = length-append (cumul_words c) (sign (bound_sign b) ∷ int_words i) in
    let few = cumul_long c in
    let open' : constraint_words (constrained.Bounded c b i) ++ end ≡ cumul_words c ++ behind_it = append_assoc (cumul_words c) (sign (bound_sign b) ∷ int_words i) end in
    let plain = subst (λ xs. name_before (codes "=") xs ≡ None) (sym open') (cumul_undefined c behind_it (bound_no_equals b (int_words i ++ end))) in
    let begins = subst (λ xs. begins_cumul xs ≡ true) (sym open') (let stop = bound_after b (int_words i ++ end) in cumul_begins c behind_it stop.bracket) in
    let got = bounded_again f c b i end (omega arith) in
    rw plain (rw begins (rw got refl))
constraint_again f (constrained.Holds e) rest formed big =
    body_holds f (logic_words e ++ sign (codes ";") ∷ rest) (starts_append (logic_words e) (sign (codes ";") ∷ rest) (words_start e 0 formed)) ∙ holds_again f e (sign (codes ";") ∷ rest) formed refl big

body_again : (f : ℕ) (s : Statement) (rest : List Word) → is_formed s ≡ true → 20 * length (statement_body s) + 11 ≤ f → (s ≡ Empty → ⊥) → body_at f (statement_body s ++ sign (codes ";") ∷ rest) ≡ Some (s, sign (codes ";") ∷ rest)
unfolding body_at name_before
body_again f Empty rest formed big some = absurd (some refl)
body_again f (Define n d) rest formed big some = let got = definition_again f n d rest formed (omega arith) in rw got refl
body_again f (Constrain c) rest formed big some = constraint_again f c rest formed big
body_again f (Forbid w a s) rest formed big some =
    let r : List Word = (commas (name_words a ∷ name_words s ∷ []) ++ sign (codes ")") ∷ []) ++ sign (codes ";") ∷ rest in
    call_body f (forbidden_word w) r ∙ call_clause f (forbidden_word w) r (forbidden_other w) ∙ forbid_called f w a s (sign (codes ";") ∷ rest)
body_again f (Aim s e) rest formed big some =
    let size = length-append (logic_words e) (sign (codes ")") ∷ []) in
    let r : List Word = (logic_words e ++ sign (codes ")") ∷ []) ++ sign (codes ";") ∷ rest in
    call_body f (sense_word s) r ∙ call_clause f (sense_word s) r (sense_other s) ∙ aim_called f s e (sign (codes ";") ∷ rest) formed (omega arith)
body_again f (Rank s es) rest formed big some =
    let inner : List Word = commas (map logic_words es) in
    let list : List Word = inner ++ sign (codes "]") ∷ [] in
    let size = length-append inner (sign (codes "]") ∷ []) in
    let size' = length-append list (sign (codes ")") ∷ []) in
    let size'' = length-append (list ++ sign (codes ")") ∷ []) (sign (codes ")") ∷ []) in
    let r : List Word = (call (codes "staticLex") (square (map logic_words es) ∷ []) ++ sign (codes ")") ∷ []) ++ sign (codes ";") ∷ rest in
    call_body f (sense_word s) r ∙ call_clause f (sense_word s) r (sense_other s) ∙ rank_called f s es (sign (codes ";") ∷ rest) formed (omega arith)

-- no statement but the empty one begins with its semicolon
constraint_open : (c : Constrained) (rest : List Word) → is_formed (Constrain c) ≡ true → behind (codes ";") (constraint_words c ++ rest) ≡ None
constraint_open (constrained.Between t a b z) rest formed = refl
constraint_open (constrained.Parts h a ns) rest formed = refl
constraint_open (constrained.Alternative a ns n) rest formed = refl
constraint_open (constrained.NoOverlap p s) rest formed = refl
constraint_open (constrained.Extreme e p a) rest formed = refl
constraint_open (constrained.Ordered o p a b) rest formed = refl
constraint_open (constrained.Bounded c b i) rest formed =
    subst (λ xs. behind (codes ";") xs ≡ None) (sym (append_assoc (cumul_words c) (sign (bound_sign b) ∷ int_words i) rest)) (cumul_sign (codes ";") refl c (sign (bound_sign b) ∷ int_words i ++ rest))
constraint_open (constrained.AlwaysIn c w lo hi) rest formed = refl
constraint_open (constrained.AlwaysEqual g a v ij) rest formed = refl
constraint_open (constrained.AlwaysNoState g a) rest formed = refl
constraint_open (constrained.Holds e) rest formed = let start = starts_append (logic_words e) rest (words_start e 0 formed) in no_semicolon (logic_words e ++ rest) start.first

body_open : (s : Statement) (rest : List Word) → is_formed s ≡ true → (s ≡ Empty → ⊥) → behind (codes ";") (statement_body s ++ rest) ≡ None
body_open Empty rest formed some = absurd (some refl)
body_open (Define n d) rest formed some = refl
body_open (Constrain c) rest formed some = constraint_open c rest formed
body_open (Forbid w a s) rest formed some = refl
body_open (Aim s e) rest formed some = refl
body_open (Rank s es) rest formed some = refl

some_again : (f : ℕ) (s : Statement) (rest : List Word) → is_formed s ≡ true → 20 * length (statement_body s) + 11 ≤ f → (s ≡ Empty → ⊥) → statement_at f (spelling s ++ rest) ≡ Some (s, rest)
unfolding statement_at
some_again f s rest formed big some =
    let words : spelling s ++ rest ≡ statement_body s ++ sign (codes ";") ∷ rest = append_assoc (statement_body s) (sign (codes ";") ∷ []) rest in
    let front = body_open s (sign (codes ";") ∷ rest) formed some in
    let got = body_again f s rest formed big some in
    ap (statement_at f) words ∙ rw (front, got) refl

pub statement_again : (f : ℕ) (s : Statement) (rest : List Word) → is_formed s ≡ true → 20 * length (spelling s) + 11 ≤ f → statement_at f (spelling s ++ rest) ≡ Some (s, rest)
unfolding statement_at
statement_again f Empty rest formed big = refl
statement_again f (Define n d) rest formed big = some_again f (Define n d) rest formed (let size = length-append (statement_body (Define n d)) (sign (codes ";") ∷ []) in omega arith) (λ e. cc e)
statement_again f (Constrain c) rest formed big = some_again f (Constrain c) rest formed (let size = length-append (statement_body (Constrain c)) (sign (codes ";") ∷ []) in omega arith) (λ e. cc e)
statement_again f (Forbid w a x) rest formed big = some_again f (Forbid w a x) rest formed (let size = length-append (statement_body (Forbid w a x)) (sign (codes ";") ∷ []) in omega arith) (λ e. cc e)
statement_again f (Rank s xs) rest formed big = some_again f (Rank s xs) rest formed (let size = length-append (statement_body (Rank s xs)) (sign (codes ";") ∷ []) in omega arith) (λ e. cc e)
statement_again f (Aim s x) rest formed big = some_again f (Aim s x) rest formed (let size = length-append (statement_body (Aim s x)) (sign (codes ";") ∷ []) in omega arith) (λ e. cc e)
