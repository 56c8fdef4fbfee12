-- The number that a statement deserves behind the statements before it: a test for each line of the table of refusals.
use Rattle.std.specs.Prelude.{ℕ, ◌+◌, ℤ, pos, Bool, true, false, not, ◌&&◌, ◌||◌, List, ◌∷◌, [], map, length, sum_by, Option, Some, None, if◌then◌else◌, is_some, is_none, nat_eq, nat_lt, nat_le, int_lt}
use Rattle.std.specs.List.{list_all, list_any}
use Rattle.sched_model.specs.Words.{passes, passes_if_any}
use Rattle.sched_model.specs.Bounds.{is_moment}
use Rattle.sched_model.specs.Data.{Data, has, members_of, state_matrix, matrix_of}
use Rattle.sched_model.specs.Domain.{is_row}
use Rattle.sched_model.specs.declared.types.Expr.{Expr}
use Rattle.sched_model.specs.Hull.{hull_of}
use Rattle.sched_model.specs.Rank.{rank_within}
use Rattle.sched_model.specs.Valid.{are_distinct, node_count, node_total, is_within_limits, fits_types}
use Rattle.cpo_text.specs.declared.tree.Definition.{Definition}
use Rattle.cpo_text.specs.declared.tree.Definition.TheVariants.{SequenceVar, TransitionMatrix, StepFunction}
use Rattle.cpo_text.specs.declared.tree.Int.{Int}
use Rattle.cpo_text.specs.declared.tree.Over.{Over}
use Rattle.cpo_text.specs.declared.tree.Over.TheVariants as over
use Rattle.cpo_text.specs.declared.tree.Constrained.{Constrained}
use Rattle.cpo_text.specs.declared.tree.Constrained.TheVariants.{NoOverlap, Extreme, Ordered, AlwaysEqual}
use Rattle.cpo_text.specs.declared.tree.Statement.{Statement}
use Rattle.cpo_text.specs.declared.tree.Statement.TheVariants.{Define, Constrain, Forbid, Aim, Rank}
use Rattle.cpo_elab.specs.declared.factors.Factor.{Factor}
use Rattle.cpo_elab.specs.declared.factors.Factor.TheVariants.{Crowded}
use Rattle.cpo_elab.specs.Named.{NameTest, number_of, itv_of, itvs_of, mat_of, seq_of, stf_of, some_name, name_defined}
use Rattle.cpo_elab.specs.Literals.{int_of}
use Rattle.cpo_elab.specs.Held.{logics_in, criteria_in, some_bound, levels_in, some_size, some_amount, list_in, members_in, rows_in}
use Rattle.cpo_elab.specs.Elaborated.{after, expr_of}
use Rattle.cpo_elab.specs.Factors.{factor_of}
use Rattle.cpo_elab.specs.Stages.{Stage, pairs_named, is_function, is_known, steps_in, pairs_of, function_in, demand_of}
use Rattle.calendar.specs.Steps.{rises}
use Rattle.calendar.specs.Rules.{rules_of, with_constraints}

-- 4: a name that is defined already
abbrev pub defines_again : Stage → Statement → Bool
defines_again st s = passes (is_known st) (name_defined s)

-- 5: a name that no earlier statement defines
abbrev pub is_unknown : Stage → NameTest
is_unknown st sort n = not (is_known st n)

abbrev pub uses_unknown : Stage → Statement → Bool
uses_unknown st s = passes (λ f. not (is_known st f)) (function_in s) || some_name (is_unknown st) s

-- 6: a name of another sort than its place asks for, or an interval that is no member of the sequence named with it
abbrev pub is_of_other_sort : Data → NameTest
is_of_other_sort m sort n = is_none (number_of m sort n)

abbrev pub is_no_member : Data → List ℕ → List ℕ → Bool
is_no_member m p a = not (has (members_of m (seq_of m p)) (itv_of m a))

abbrev pub asks_others : Data → Constrained → Bool
asks_others m (Extreme e p a) = is_no_member m p a
asks_others m (Ordered o p a b) = is_no_member m p a || is_no_member m p b
asks_others m _ = false

abbrev pub lacks_member : Data → Statement → Bool
lacks_member m (Constrain c) = asks_others m c
lacks_member m _ = false

abbrev pub uses_wrong : Stage → Statement → Bool
uses_wrong st s = passes (λ f. not (is_function st f)) (function_in s) || (some_name (is_of_other_sort st.model) s || lacks_member st.model s)

-- 7: a range, a pair of moments or a pair lo, hi with its ends turned round, or a moment of a step function that isn't above those before it
abbrev pub is_reversed : ℤ × ℤ → Bool
is_reversed r = int_lt r.1 r.0

abbrev pub has_reversed : Statement → Bool
has_reversed s = not (rises (pairs_of (steps_in s))) || (some_bound is_reversed s || passes is_reversed (levels_in s))

-- 8: a negative size, count of an alternative, height, type, distance, state or value of a step function
abbrev pub is_negative : ℤ → Bool
is_negative z = int_lt z (pos 0)

abbrev pub has_negative : Statement → Bool
has_negative s = some_size is_negative s || some_amount is_negative s

-- 9: a matrix that isn't as many rows of as many numbers, or that is empty; another number of types than of members; a type or
-- a state that is no row of the matrix; a matrix over a sequence without types
abbrev pub is_square : List (List Int) → Bool
is_square rows = nat_le 1 (length rows) && list_all (λ row. nat_eq (length row) (length rows)) rows

abbrev pub has_rows_for : Data → Over → List ℕ → Bool
has_rows_for m (over.Named p) x = fits_types m (seq_of m p) (mat_of m x)
has_rows_for m (over.Listed ns) x = false

abbrev pub is_matched : Definition → Bool
is_matched (TransitionMatrix rows) = is_square rows
is_matched (SequenceVar ns (Some types)) = nat_eq (length types) (length ns)
is_matched _ = true

abbrev pub has_rows : Data → Constrained → Bool
has_rows m (NoOverlap p (Some s)) = has_rows_for m p s.matrix
has_rows m (AlwaysEqual g a v aligned) = is_row (matrix_of m (state_matrix m (stf_of m g))) (int_of v)
has_rows m _ = true

abbrev pub misfits : Data → Statement → Bool
misfits m (Define n d) = not (is_matched d)
misfits m (Constrain c) = not (has_rows m c)
misfits m _ = false

-- 10: an interval twice in one list, or twice in `before` or `prev`
abbrev pub has_twice : Data → Statement → Bool
has_twice m s = not (are_distinct (itvs_of m (list_in s)))

-- 11: a limit passed, by the statement itself or by the text up to it
abbrev pub is_outside : ℤ × ℤ → Bool
is_outside r = not (is_moment r.0) || not (is_moment r.1)

abbrev pub is_large : ℤ → Bool
is_large z = int_lt (pos 1000000) z

abbrev pub is_wide : Statement → Bool
is_wide s = nat_lt 8 (length (criteria_in s)) || (nat_lt 1000 (length (steps_in s))
    || (passes (λ n. nat_lt 64 (length n)) (name_defined s) || (some_bound is_outside s || (some_amount is_large s || nat_lt 200 (length (rows_in s))))))

abbrev pub statement_limit : ℕ
statement_limit = 100000

abbrev pub node_limit : ℕ
node_limit = 100000

-- the nodes of a second objective count beside those of the first
abbrev pub has_room : Data → Statement → Bool
has_room m (Aim sense e) = nat_le (node_total m + node_count (expr_of m e)) node_limit
has_room m (Rank sense es) = nat_le (node_total m + sum_by (λ e. node_count (expr_of m e)) es) node_limit
has_room m s = is_within_limits (after m s)

-- 200 step functions; the constraints that a calendar's sentence becomes count as others do
abbrev pub fits : Stage → Statement → Bool
fits st (Define n (StepFunction ps)) = nat_lt (length st.steps) 200
fits st (Forbid w a f) = passes_if_any (λ ps. is_within_limits (with_constraints (rules_of (demand_of w) (itv_of st.model a) ps) st.model)) (pairs_named st f)
fits st s = has_room st.model s

abbrev pub leaves_room : Stage → Statement → Bool
leaves_room st s = nat_le (length (members_in s)) 500 && fits st s

abbrev pub passes_limit : Stage → ℕ → Statement → Bool
passes_limit st k s = nat_lt statement_limit k || (is_wide s || not (leaves_room st s))

-- 12: a second objective
abbrev pub aims_again : Data → Statement → Bool
aims_again m (Aim sense e) = is_some m.objective
aims_again m (Rank sense es) = is_some m.objective
aims_again m _ = false

-- 13: an expression some part of which has no hull within the bound on literals; of several, that or their rank
abbrev pub lacks_hull : Data → List Expr → Bool
lacks_hull m [] = false
lacks_hull m (e ∷ []) = is_none (hull_of m e)
lacks_hull m es = is_none (rank_within m es)

abbrev pub has_no_hull : Data → Statement → Bool
has_no_hull m s = lacks_hull m (map (expr_of m) (logics_in s))

-- 14: a product with two factors that name an interval
abbrev pub is_crowded : Factor → Bool
is_crowded Crowded = true
is_crowded _ = false

abbrev pub has_crowded : Statement → Bool
has_crowded s = list_any (λ e. is_crowded (factor_of e)) (logics_in s)

-- the number of the first test that says so
abbrev pub first_of : List (Bool × ℕ) → Option ℕ
first_of [] = None
first_of (t ∷ ts) = if t.0 then Some t.1 else first_of ts

-- the number that the k-th statement deserves behind those before it
unfoldable pub number_in : Stage → ℕ → Statement → Option ℕ
number_in st k s = first_of
    ((defines_again st s, 4) ∷ (uses_unknown st s, 5) ∷ (uses_wrong st s, 6) ∷ (has_reversed s, 7) ∷ (has_negative s, 8) ∷ (misfits st.model s, 9)
    ∷ (has_twice st.model s, 10) ∷ (passes_limit st k s, 11) ∷ (aims_again st.model s, 12) ∷ (has_no_hull st.model s, 13) ∷ (has_crowded s, 14) ∷ [])
