-- The canonical text of a model says the words of its statements, and each of these is formed.
use Rattle.std.proofs.Common.{ℕ, Bool, ◌&&◌, List, [], ◌∷◌, ◌++◌, map, refl, sym, subst, ◌∙◌}
use Rattle.std.specs.Prelude.{flat_map, IsTrue, option_map}
use Rattle.std.specs.List.{list_all}
use Rattle.std.proofs.lemmas.List.{append-nil}
use Rattle.std.proofs.lemmas.List.Folds.{list_all-map}
use Rattle.std.proofs.lemmas.Bool.{and_parts, and_from}
use Rattle.cpo_text.specs.Spelling.{spelling}
use Rattle.cpo_text.specs.declared.tree.Statement.TheVariants.{Constrain}
use Rattle.sched_model.specs.Data.{Data}
use Rattle.sched_model.specs.Words.{passes_if_any}
use Rattle.sched_model.specs.Valid.{IsValid, is_interval_def, is_matrix_def, is_sequence_def, is_state_def, is_constraint}
use Rattle.sched_text.specs.Canonical.{interval_text, matrix_text, named_sequence_text, named_cumul_text, state_text, constraint_text, statement, canonical_text}
use Rattle.read_back.specs.Trees.{interval_tree, matrix_tree, sequence_tree, cumul_tree, state_tree, constraint_tree, canonical_statements}
use Rattle.read_back.specs.Written.{IsWritten, is_written}
use Rattle.read_back.specs.Says.{Says}
use Rattle.read_back.specs.Laws.{ExpressionsAreSaid, ExpressionsAreFormed, CanonicalIsSaid}
use Rattle.read_back.proofs.Joined.{nothing}
use Rattle.read_back.proofs.said.Lines.{Lines, lines_both, lines_each, lines_of_some}
use Rattle.read_back.proofs.Spelt.{is_told, are_told}
use Rattle.read_back.proofs.said.Definitions.{interval_line, matrix_line, sequence_line, state_line}
use Rattle.read_back.proofs.said.Functions.{is_function, functions_of, function_line}
use Rattle.read_back.proofs.said.Uses.{Known}
use Rattle.read_back.proofs.said.Constraints.{constraint_line, objective_line, criteria_passed}

all_of_both : {X : Type 0} (p q : X → Bool) (xs : List X) → IsTrue (list_all p xs) → IsTrue (list_all q xs) → IsTrue (list_all (λ x. p x && q x) xs)
all_of_both p q [] first second = refl
all_of_both p q (x ∷ xs) first second =
    let here = and_parts (p x) (list_all p xs) first in
    let there = and_parts (q x) (list_all q xs) second in
    and_from (p x && q x) _ (and_from (p x) (q x) here.0 there.0) (all_of_both p q xs here.1 there.1)

-- those whose names are told, and that are as their kind wants
named_and : {X : Type 0} (name : X → List ℕ) (p : X → Bool) (xs : List X) → IsTrue (list_all is_told (map name xs)) → IsTrue (list_all p xs) → IsTrue (list_all (λ x. is_told (name x) && p x) xs)
named_and name p xs told are = all_of_both (λ x. is_told (name x)) p xs (sym (list_all-map is_told name xs) ∙ told) are

whole_lines : (m : Data) → Known m → ExpressionsAreSaid → ExpressionsAreFormed → Lines (canonical_text m) (canonical_statements m)
whole_lines m known said formed =
    let intervals = lines_each (λ d. is_told d.name && is_interval_def d) interval_text interval_tree
    (λ d is. let parts = and_parts (is_told d.name) (is_interval_def d) is in interval_line d parts.0 parts.1)
    m.intervals (named_and (λ d. d.name) is_interval_def m.intervals known.told.intervals known.valid.intervals) in
    let matrices = lines_each (λ d. is_told d.name && is_matrix_def d) matrix_text matrix_tree
    (λ d is. let parts = and_parts (is_told d.name) (is_matrix_def d) is in matrix_line d parts.0 parts.1)
    m.matrices (named_and (λ d. d.name) is_matrix_def m.matrices known.told.matrices known.valid.matrices) in
    let sequences = lines_of_some (λ d. passes_if_any is_told d.name && is_sequence_def m d) (named_sequence_text m) (λ d. option_map (sequence_tree m d) d.name)
    (λ d is. let parts = and_parts (passes_if_any is_told d.name) (is_sequence_def m d) is in sequence_line m d known.told parts.0 parts.1)
    m.sequences (all_of_both (λ d. passes_if_any is_told d.name) (is_sequence_def m) m.sequences known.told.sequences known.valid.sequences) in
    let functions = lines_of_some (is_function m) (named_cumul_text m) (λ d. option_map (cumul_tree m d) d.name) (λ d is. function_line m d known.told is) m.cumuls known.functions in
    let states = lines_each (λ d. is_told d.name && is_state_def m d) (state_text m) (state_tree m)
    (λ d is. let parts = and_parts (is_told d.name) (is_state_def m d) is in state_line m d known.told parts.0 parts.1)
    m.states (named_and (λ d. d.name) (is_state_def m) m.states known.told.states known.valid.states) in
    let constraints = lines_each (λ c. is_constraint m c && is_written m c) (λ c. statement (constraint_text m c)) (λ c. Constrain (constraint_tree m c))
    (λ c is. constraint_line m c known said formed is)
    m.constraints (all_of_both (is_constraint m) (is_written m) m.constraints known.valid.constraints known.written.constraints) in
    let objective = objective_line m m.objective known said formed (criteria_passed m m.objective known.valid.criteria known.valid.objective) known.written.objective in
    lines_both (lines_both (lines_both (lines_both (lines_both (lines_both intervals matrices) sequences) functions) states) constraints) objective

known_of : (m : Data) → IsValid m → IsWritten m → Known m
known_of m valid written =
    let told = are_told m valid written in
    record { valid = valid; written = written; told = told; functions = functions_of m m.cumuls told.cumuls written.parts valid.cumuls }

pub canonical_is_said : ExpressionsAreSaid → ExpressionsAreFormed → CanonicalIsSaid
canonical_is_said said formed m valid written =
    let lines = whole_lines m (known_of m valid written) said formed in
    let text = append-nil (canonical_text m) in
    let words = append-nil (flat_map spelling (canonical_statements m)) in
    (subst (λ t. Says t (flat_map spelling (canonical_statements m))) text (subst (Says (canonical_text m ++ [])) words (lines.said [] [] nothing)), lines.formed)
