-- What is read as a statement is the spelling of that statement.
use Rattle.std.proofs.Common.{◌≡◌, ℕ, nat_le, Bool, true, false, cond, List, [], ◌∷◌, ◌++◌, map, length, Option, Some, None, refl, sym, ap, subst, ◌∙◌, arith, append_assoc}
use Rattle.std.specs.Prelude.{codes}
use Rattle.std.proofs.lemmas.Bool.{and_from}
use Rattle.std.proofs.lemmas.Bool.Decides.{nat_tests}
use Rattle.cpo_text.specs.Words.{Word, commas, square, round, call}
use Rattle.cpo_text.specs.Words.Word.{name, sign}
use Rattle.cpo_text.specs.Expressions.{logic_words, is_logic, are_logics}
use Rattle.cpo_text.specs.Cumulative.{cumul_words}
use Rattle.cpo_text.specs.Spelling.{name_words, definition_words, constraint_words, forbidden_word, sense_word, statement_body, spelling, is_formed}
use Rattle.cpo_text.specs.code.Rules.{Found, bound, behind, behind_word, if_behind, if_found, with_rest, find_word, name_at, name_before, int_behind, between_at}
use Rattle.cpo_text.specs.code.Levels.{Trees, read}
use Rattle.cpo_text.specs.code.Levels.Task.{logic, items}
use Rattle.cpo_text.specs.code.CallWords.{definitions, senses, prohibitions, constraint_of, is_call, definition_word_at, begins_cumul}
use Rattle.cpo_text.specs.code.Calls.{pair_at}
use Rattle.cpo_text.specs.code.Contributions.{cumul_at, bounded_at}
use Rattle.cpo_text.specs.code.Statements.{one_of, logic_at, holds_at, criteria_at, rank_at, aim_at, defined_at, definition_at, constraint_at, forbid_at, by_constraint, called_at, named_at, clause_at, body_at, statement_at}
use Rattle.cpo_text.specs.declared.expression.Logic.{Logic}
use Rattle.cpo_text.specs.declared.call_words.DefinitionWord.{DefinitionWord}
use Rattle.cpo_text.specs.declared.call_words.DefinitionWord.TheVariants as definition
use Rattle.cpo_text.specs.declared.call_words.ConstraintWord.{ConstraintWord}
use Rattle.cpo_text.specs.declared.call_words.ConstraintWord.TheVariants as word
use Rattle.cpo_text.specs.declared.tree.Temporal.{Temporal}
use Rattle.cpo_text.specs.declared.tree.Definition.{Definition}
use Rattle.cpo_text.specs.declared.tree.Definition.TheVariants.{Cumulative}
use Rattle.cpo_text.specs.declared.tree.Constrained.{Constrained}
use Rattle.cpo_text.specs.declared.tree.Constrained.TheVariants.{Between, Holds}
use Rattle.cpo_text.specs.declared.tree.Forbidden.{Forbidden}
use Rattle.cpo_text.specs.declared.tree.Sense.{Sense}
use Rattle.cpo_text.specs.declared.tree.Statement.{Statement}
use Rattle.cpo_text.specs.declared.tree.Statement.TheVariants.{Empty, Define, Constrain, Forbid, Aim, Rank}
use Rattle.cpo_text.proofs.operands.Binds.{both, bound_parts, need_parts, some_pair, behind_takes, name_takes, word_takes}
use Rattle.cpo_text.proofs.operands.Takes.{name_before_takes}
use Rattle.cpo_text.proofs.stating.Spelt.{interval_defined, IsSpelt, between_takes}
use Rattle.cpo_text.proofs.operands.Nodes.{all_tight}
use Rattle.cpo_text.proofs.operands.Takings.{takes, gathered_words}
use Rattle.cpo_text.proofs.stating.Tables.{found_is, definition_name, definition_table, constraint_name, constraint_is, sense_table, prohibition_table}
use Rattle.cpo_text.proofs.levelled.PartsTaken.{cumul_takes, bounded_takes, always_in_takes}
use Rattle.cpo_text.proofs.stating.Called.{IsDefinition, IsConstraint, closed_words, sequence_takes, matrix_takes, state_function_takes, step_function_takes, parts_takes, alternative_takes, no_overlap_takes, pair_takes, extreme_takes, ordered_takes, always_equal_takes, always_no_state_takes}

pub logic_takes : (f : ℕ) (ws : List Word) (e : Logic) (rest : List Word) → logic_at f ws ≡ Some (e, rest) → (is_logic e ≡ true) × (ws ≡ logic_words e ++ rest)
unfolding logic_at
logic_takes f ws e rest h = decided (read f logic ws) refl h
  where
    decided : (o : Trees) → read f logic ws ≡ o → one_of o ≡ Some (e, rest) → (is_logic e ≡ true) × (ws ≡ logic_words e ++ rest)
    decided None is h = cc
    decided (Some ([], r)) is h = cc
    decided (Some (x ∷ y ∷ xs, r)) is h = cc
    decided (Some (x ∷ [], r)) is h =
        let one = takes f logic ws (x ∷ []) r is in
        let same = some_pair x e r rest h in
        let alone : x ≡ one.tree = cc one.is in
        let tree : one.tree ≡ e = sym alone ∙ same.0 in
        (subst (λ y. is_logic y ≡ true) tree one.tight, one.spelt ∙ ap (λ y. logic_words y ++ r) tree ∙ ap (λ xs. logic_words e ++ xs) same.1)

holds_takes : (f : ℕ) (ws : List Word) (x : Statement) (rest : List Word) → holds_at f ws ≡ Some (x, rest) → IsSpelt x ws rest
unfolding holds_at
holds_takes f ws x rest h =
    let p = bound_parts (logic_at f ws) _ x rest h in
    let l = logic_takes f ws p.tree p.words p.first in
    let e = some_pair (Constrain (Holds p.tree)) x p.words rest p.then in
    subst (λ y. IsSpelt y ws rest) e.0 (l.0, l.1 ∙ ap (λ xs. logic_words p.tree ++ xs) e.1)

some_logics : (e : Logic) (es : List Logic) → all_tight 0 (e ∷ es) ≡ true → are_logics (e ∷ es) ≡ true
some_logics e es tight = let n = length es in let some : nat_le 1 (length (e ∷ es)) ≡ true = grind (arith, nat_tests) in and_from _ _ some tight

abbrev AreCriteria : List Logic → List Word → List Word → Type 0
AreCriteria es ws rest = (are_logics es ≡ true) × (ws ≡ round (square (map logic_words es)) ++ rest)

criteria_takes : (f : ℕ) (ws : List Word) (es : List Logic) (rest : List Word) → criteria_at f ws ≡ Some (es, rest) → AreCriteria es ws rest
unfolding criteria_at
criteria_takes f ws es rest h =
    let p = need_parts (behind (codes "(") ws) _ es rest h in
    let q = need_parts (behind (codes "[") p.words) _ es rest p.then in
    let l = bound_parts (read f items q.words) _ es rest q.then in
    let r = need_parts (behind (codes "]") l.words) _ es rest l.then in
    let t = need_parts (behind (codes ")") r.words) _ es rest r.then in
    let e = some_pair l.tree es t.words rest t.then in
    let all = takes f items q.words l.tree l.words l.first in
    let some : List Logic = all.first ∷ all.others in
    let is : some ≡ es = sym all.are ∙ e.0 in
    let list : q.words ≡ commas (map logic_words some) ++ sign (codes "]") ∷ sign (codes ")") ∷ t.words =
    all.spelt ∙ ap (λ xs. commas (map logic_words some) ++ xs) (behind_takes (codes "]") l.words r.words r.first ∙ ap (λ xs. sign (codes "]") ∷ xs) (behind_takes (codes ")") r.words t.words t.first)) in
    let words : ws ≡ round (square (map logic_words some)) ++ t.words =
    behind_takes (codes "(") ws p.words p.first ∙ ap (λ xs. sign (codes "(") ∷ xs) (behind_takes (codes "[") p.words q.words q.first ∙ ap (λ xs. sign (codes "[") ∷ xs) list) ∙ sym (gathered_words some t.words) in
    (subst (λ xs. are_logics xs ≡ true) is (some_logics all.first all.others all.tight), words ∙ both (λ xs ys. round (square (map logic_words xs)) ++ ys) is e.1)

aim_takes : (f : ℕ) (s : Sense) (ws : List Word) (x : Statement) (rest : List Word) → aim_at f s ws ≡ Some (x, rest) → IsSpelt x (name (sense_word s) ∷ ws) rest
unfolding aim_at rank_at
aim_takes f s ws x rest h =
    let p = need_parts (behind (codes "(") ws) _ x rest h in
    by_word p.words (behind_takes (codes "(") ws p.words p.first) (behind_word (codes "staticLex") p.words) refl p.then
  where
    by_word : (r : List Word) → ws ≡ sign (codes "(") ∷ r → (o : Option (List Word)) → behind_word (codes "staticLex") r ≡ o
        → if_behind o (rank_at f s) (bound (logic_at f r) (λ e r2. if_behind (behind (codes ")") r2) (λ r3. Some (Aim s e, r3)) None)) ≡ Some (x, rest) → IsSpelt x (name (sense_word s) ∷ ws) rest
    by_word r begun None is h =
        let q = bound_parts (logic_at f r) _ x rest h in
        let t = need_parts (behind (codes ")") q.words) _ x rest q.then in
        let e = some_pair (Aim s q.tree) x t.words rest t.then in
        let l = logic_takes f r q.tree q.words q.first in
        let words : ws ≡ round (logic_words q.tree) ++ rest = closed_words ws r (logic_words q.tree) q.words t.words rest begun l.1 (behind_takes (codes ")") q.words t.words t.first) e.1 in
        subst (λ y. IsSpelt y (name (sense_word s) ∷ ws) rest) e.0 (l.0, ap (λ xs. name (sense_word s) ∷ xs) words)
    by_word r begun (Some r2) is h =
        let q = bound_parts (criteria_at f r2) _ x rest h in
        let t = need_parts (behind (codes ")") q.words) _ x rest q.then in
        let e = some_pair (Rank s q.tree) x t.words rest t.then in
        let c = criteria_takes f r2 q.tree q.words q.first in
        let several : List Word = call (codes "staticLex") (square (map logic_words q.tree) ∷ []) in
        let inner : r ≡ several ++ q.words = word_takes (codes "staticLex") r r2 is ∙ ap (λ xs. name (codes "staticLex") ∷ xs) c.1 in
        let words : ws ≡ round several ++ rest = closed_words ws r several q.words t.words rest begun inner (behind_takes (codes ")") q.words t.words t.first) e.1 in
        subst (λ y. IsSpelt y (name (sense_word s) ∷ ws) rest) e.0 (c.0, ap (λ xs. name (sense_word s) ∷ xs) words)

between_formed : (t : Temporal) (ws : List Word) (c : Constrained) (rest : List Word) → between_at t ws ≡ Some (c, rest) → is_formed (Constrain c) ≡ true
unfolding between_at
between_formed t ws c rest h =
    let p = need_parts (behind (codes "(") ws) _ c rest h in
    let a = bound_parts (name_at p.words) _ c rest p.then in
    let q = need_parts (behind (codes ",") a.words) _ c rest a.then in
    let b = bound_parts (name_at q.words) _ c rest q.then in
    let z = bound_parts (int_behind (codes ",") b.words) _ c rest b.then in
    let r = need_parts (behind (codes ")") z.words) _ c rest z.then in
    let e = some_pair (Between t a.tree b.tree z.tree) c r.words rest r.then in
    subst (λ x. is_formed (Constrain x) ≡ true) e.0 refl

-- definitions

definition_word_takes : (ws : List Word) (d : DefinitionWord) (r : List Word) → definition_word_at ws ≡ Some (d, r) → ws ≡ name (definition_name d) ∷ r
unfolding definition_word_at
definition_word_takes ws d r h =
    let p = bound_parts (name_at ws) _ d r h in
    let q = need_parts (behind (codes "(") p.words) _ d r p.then in
    by_found p.tree p.words (name_takes ws p.tree p.words p.first) (find_word definitions p.tree) refl q.then
  where
    by_found : (n : List ℕ) (s : List Word) → ws ≡ name n ∷ s → (o : Option DefinitionWord) → find_word definitions n ≡ o → with_rest o s ≡ Some (d, r) → ws ≡ name (definition_name d) ∷ r
    by_found n s begun None is h = cc
    by_found n s begun (Some x) is h = let e = some_pair x d s r h in begun ∙ both (λ y ys. name y ∷ ys) (found_is definition_name definitions definition_table n x is ∙ ap definition_name e.0) e.1

defined_takes : (w : DefinitionWord) (ws : List Word) (d : Definition) (rest : List Word) → defined_at w ws ≡ Some (d, rest) → IsDefinition (definition_name w) ws d rest
unfolding defined_at
defined_takes definition.IntervalVar ws d rest h = interval_defined ws d rest h
defined_takes definition.SequenceVar ws d rest h = sequence_takes ws d rest h
defined_takes definition.TransitionMatrix ws d rest h = matrix_takes ws d rest h
defined_takes definition.StateFunction ws d rest h = state_function_takes ws d rest h
defined_takes definition.StepFunction ws d rest h = step_function_takes ws d rest h

abbrev Defines : Definition → List Word → List Word → Type 0
Defines d ws rest = ((n : List ℕ) → is_formed (Define n d) ≡ true) × (ws ≡ definition_words d ++ rest)

definition_takes : (f : ℕ) (ws : List Word) (d : Definition) (rest : List Word) → definition_at f ws ≡ Some (d, rest) → Defines d ws rest
unfolding definition_at
definition_takes f ws d rest h = by_word (definition_word_at ws) refl h
  where
    by_word : (o : Found DefinitionWord) → definition_word_at ws ≡ o → if_found o defined_at (bound (cumul_at f ws) (λ c r. Some (Cumulative c, r))) ≡ Some (d, rest) → Defines d ws rest
    by_word (Some q) is h = let t = defined_takes q.0 q.1 d rest h in (t.0, definition_word_takes ws q.0 q.1 is ∙ t.1)
    by_word None is h =
        let p = bound_parts (cumul_at f ws) _ d rest h in
        let e = some_pair (Cumulative p.tree) d p.words rest p.then in
        subst (λ x. Defines x ws rest) e.0 (λ n. refl, cumul_takes f ws p.tree p.words p.first ∙ ap (λ xs. cumul_words p.tree ++ xs) e.1)

-- constraints and objectives

constraint_takes : (f : ℕ) (w : ConstraintWord) (ws : List Word) (c : Constrained) (rest : List Word) → constraint_at f w ws ≡ Some (c, rest) → IsConstraint (constraint_name w) ws c rest
unfolding constraint_at
constraint_takes f (word.Between t) ws c rest h = (between_formed t ws c rest h, between_takes t ws c rest h)
constraint_takes f (word.Parts k) ws c rest h = parts_takes k ws c rest h
constraint_takes f word.Alternative ws c rest h = alternative_takes ws c rest h
constraint_takes f word.NoOverlap ws c rest h = no_overlap_takes ws c rest h
constraint_takes f (word.Extreme e) ws c rest h = extreme_takes e ws c rest h
constraint_takes f (word.Ordered o) ws c rest h = ordered_takes o ws c rest h
constraint_takes f word.AlwaysIn ws c rest h = always_in_takes f ws c rest h
constraint_takes f word.AlwaysEqual ws c rest h = always_equal_takes ws c rest h
constraint_takes f word.AlwaysNoState ws c rest h = always_no_state_takes ws c rest h

forbid_takes : (w : Forbidden) (ws : List Word) (x : Statement) (rest : List Word) → forbid_at w ws ≡ Some (x, rest) → IsSpelt x (name (forbidden_word w) ∷ ws) rest
unfolding forbid_at
forbid_takes w ws x rest h =
    let p = bound_parts (pair_at ws) _ x rest h in
    let e = some_pair (Forbid w p.tree.0 p.tree.1) x p.words rest p.then in
    subst (λ y. IsSpelt y (name (forbidden_word w) ∷ ws) rest) e.0
    (refl, ap (λ xs. name (forbidden_word w) ∷ xs) (pair_takes ws p.tree p.words p.first ∙ ap (λ xs. round (commas (name_words p.tree.0 ∷ name_words p.tree.1 ∷ [])) ++ xs) e.1))

called_takes : (f : ℕ) (n : List ℕ) (ws : List Word) (x : Statement) (rest : List Word) → called_at f n ws ≡ Some (x, rest) → IsSpelt x (name n ∷ ws) rest
unfolding called_at
called_takes f n ws x rest h = by_word (constraint_of n) refl (find_word senses n) refl (find_word prohibitions n) refl h
  where
    by_word : (w : Option ConstraintWord) → constraint_of n ≡ w → (s : Option Sense) → find_word senses n ≡ s → (o : Option Forbidden) → find_word prohibitions n ≡ o → by_constraint f w s o ws ≡ Some (x, rest) → IsSpelt x (name n ∷ ws) rest
    by_word (Some w) is s e o i h =
        let p = bound_parts (constraint_at f w ws) _ x rest h in
        let same = some_pair (Constrain p.tree) x p.words rest p.then in
        let t = constraint_takes f w ws p.tree p.words p.first in
        subst (λ y. IsSpelt y (name n ∷ ws) rest) same.0 (t.0, ap (λ y. name y ∷ ws) (constraint_is n w is) ∙ t.1 ∙ ap (λ xs. constraint_words p.tree ++ xs) same.1)
    by_word None is (Some s) e o i h = subst (λ y. IsSpelt x (name y ∷ ws) rest) (sym (found_is sense_word senses sense_table n s e)) (aim_takes f s ws x rest h)
    by_word None is None e (Some o) i h = subst (λ y. IsSpelt x (name y ∷ ws) rest) (sym (found_is forbidden_word prohibitions prohibition_table n o i)) (forbid_takes o ws x rest h)
    by_word None is None e None i h = cc

clause_takes : (f : ℕ) (ws : List Word) (x : Statement) (rest : List Word) → clause_at f ws ≡ Some (x, rest) → IsSpelt x ws rest
unfolding clause_at named_at
clause_takes f ws x rest h = by_front (begins_cumul ws) h
  where
    by_call : (n : List ℕ) (r : List Word) → ws ≡ name n ∷ r → (b : Bool) → cond b (holds_at f ws) (called_at f n r) ≡ Some (x, rest) → IsSpelt x ws rest
    by_call n r begun true h = holds_takes f ws x rest h
    by_call n r begun false h = subst (λ ys. IsSpelt x ys rest) (sym begun) (called_takes f n r x rest h)

    by_name : (o : Found (List ℕ)) → name_at ws ≡ o → if_found o (named_at f ws) (holds_at f ws) ≡ Some (x, rest) → IsSpelt x ws rest
    by_name None is h = holds_takes f ws x rest h
    by_name (Some p) is h = by_call p.0 p.1 (name_takes ws p.0 p.1 is) (is_call p.0) h

    by_front : (b : Bool) → cond b (bound (bounded_at f ws) (λ c r. Some (Constrain c, r))) (if_found (name_at ws) (named_at f ws) (holds_at f ws)) ≡ Some (x, rest) → IsSpelt x ws rest
    by_front true h =
        let p = bound_parts (bounded_at f ws) _ x rest h in
        let same = some_pair (Constrain p.tree) x p.words rest p.then in
        let t = bounded_takes f ws p.tree p.words p.first in
        subst (λ y. IsSpelt y ws rest) same.0 (t.0, t.1 ∙ ap (λ xs. constraint_words p.tree ++ xs) same.1)
    by_front false h = by_name (name_at ws) refl h

body_takes : (f : ℕ) (ws : List Word) (x : Statement) (rest : List Word) → body_at f ws ≡ Some (x, rest) → IsSpelt x ws rest
unfolding body_at
body_takes f ws x rest h = by_equals (name_before (codes "=") ws) refl h
  where
    by_equals : (o : Found (List ℕ)) → name_before (codes "=") ws ≡ o → if_found o (λ n r. bound (definition_at f r) (λ d r2. Some (Define n d, r2))) (clause_at f ws) ≡ Some (x, rest) → IsSpelt x ws rest
    by_equals None is h = clause_takes f ws x rest h
    by_equals (Some q) is h =
        let p = bound_parts (definition_at f q.1) _ x rest h in
        let same = some_pair (Define q.0 p.tree) x p.words rest p.then in
        let d = definition_takes f q.1 p.tree p.words p.first in
        subst (λ y. IsSpelt y ws rest) same.0
        (d.0 q.0, name_before_takes (codes "=") ws q.0 q.1 is ∙ ap (λ xs. name q.0 ∷ sign (codes "=") ∷ xs) d.1 ∙ ap (λ xs. statement_body (Define q.0 p.tree) ++ xs) same.1)

abbrev pub IsSpeltWhole : Statement → List Word → List Word → Type 0
IsSpeltWhole s ws rest = (is_formed s ≡ true) × (ws ≡ spelling s ++ rest)

pub statement_takes : (f : ℕ) (ws : List Word) (x : Statement) (rest : List Word) → statement_at f ws ≡ Some (x, rest) → IsSpeltWhole x ws rest
unfolding statement_at
statement_takes f ws x rest h = by_end (behind (codes ";") ws) refl h
  where
    by_end : (o : Option (List Word)) → behind (codes ";") ws ≡ o
        → if_behind o (λ r. Some (Empty, r)) (bound (body_at f ws) (λ s r. if_behind (behind (codes ";") r) (λ r2. Some (s, r2)) None)) ≡ Some (x, rest) → IsSpeltWhole x ws rest
    by_end (Some r) is h =
        let same = some_pair Empty x r rest h in
        subst (λ y. IsSpeltWhole y ws rest) same.0 (refl, behind_takes (codes ";") ws r is ∙ ap (λ xs. sign (codes ";") ∷ xs) same.1)
    by_end None is h =
        let p = bound_parts (body_at f ws) _ x rest h in
        let q = need_parts (behind (codes ";") p.words) _ x rest p.then in
        let same = some_pair p.tree x q.words rest q.then in
        let b = body_takes f ws p.tree p.words p.first in
        subst (λ y. IsSpeltWhole y ws rest) same.0
        (b.0, b.1 ∙ ap (λ xs. statement_body p.tree ++ xs) (behind_takes (codes ";") p.words q.words q.first ∙ ap (λ xs. sign (codes ";") ∷ xs) same.1) ∙ sym (append_assoc (statement_body p.tree) (sign (codes ";") ∷ []) rest))
