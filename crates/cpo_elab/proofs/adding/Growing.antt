-- Expressions and constraints stay well made in a model with more in it, and expressions keep their hulls.
use Rattle.std.proofs.Common.{◌≡◌, ℕ, zero, suc, ℤ, pos, Bool, true, not, ◌&&◌, List, [], ◌∷◌, map, length, slice_index_or, Option, Some, None, is_some, nat_lt, int_le, refl, ap, subst, ◌∙◌}
use Rattle.std.specs.List.{list_all}
use Rattle.std.proofs.lemmas.Bool.{and_parts, and_from}
use Rattle.base_laws.specs.laws.Truth.{three_true, four_true, all_three, all_four, all_five}
use Rattle.base_laws.specs.laws.Items.{all_weaker}
use Rattle.sched_base.specs.declared.ids.Itv.{Itv}
use Rattle.sched_base.specs.declared.ids.Seq.{Seq}
use Rattle.sched_base.specs.declared.ids.Mat.{Mat}
use Rattle.sched_model.specs.declared.types.IntervalDef.{IntervalDef}
use Rattle.sched_model.specs.declared.types.StateDef.{StateDef}
use Rattle.sched_model.specs.declared.types.Objective.{Objective}
use Rattle.sched_model.specs.declared.types.Expr.{Expr}
use Rattle.sched_model.specs.declared.types.Expr.TheOpen.{Expr-F}
use Rattle.sched_model.specs.declared.types.Expr.TheOpen.Expr-F.{Lit, StartOf, EndOf, SizeOf, LengthOf, PresenceOf, Neg, Sum, Product, Max, Min, Compare, Not, And, Or, Implies}
use Rattle.sched_model.specs.declared.types.Expr.TheFolds.{fold-Expr, fold-roll-Expr, ind-Expr, map-Expr}
use Rattle.sched_model.specs.declared.types.Expr.TheViews.{roll-Expr}
use Rattle.sched_model.specs.declared.types.Constraint.{Constraint}
use Rattle.sched_model.specs.declared.types.Constraint.TheVariants as constraint
use Rattle.sched_model.specs.Words.{passes, passes_if_any, is_empty}
use Rattle.sched_model.specs.Data.{Data, same, state_matrix, matrix_of, sequence_of}
use Rattle.sched_model.specs.Domain.{is_row}
use Rattle.sched_model.specs.Ranges.{Ends, negated, total_range, product_range, greatest_range, least_range}
use Rattle.sched_model.specs.Hull.{limited, range_or, start_range, end_range, size_range, presence_range, of_one, of_all, truth_of, interval_hull, hull_step, hull_of}
use Rattle.sched_model.specs.Valid.{is_small, is_amount, is_itv, is_mat, is_seq, is_member, is_window, are_parts, expr_step, is_expr, fits_types, is_constraint, is_state_def}
use Rattle.sched_model.specs.laws.Held.{composed}
use Rattle.cpo_elab.proofs.adding.Extends.{Extends, itv_grows, mat_grows, seq_grows, cum_grows, stf_grows, same_sequence, same_state, same_matrix, member_grows, parts_grow, window_grows}

-- the tests of an expression but for its hull
abbrev pub is_tree : Data → Expr → Bool
is_tree m = fold-Expr Bool (expr_step m)

abbrev Grows : Data → Data → Expr → Type 0
Grows m n e = is_tree m e ≡ true → (is_tree n e ≡ true) × (hull_of n e ≡ hull_of m e)

abbrev Part : Data → Data → Type 0
Part m n = (e : Expr) × Grows m n e

each_grows : (m n : Data) (ps : List (Part m n)) → list_all (λ b. b) (map (λ p. is_tree m p.0) ps) ≡ true
    → (list_all (λ b. b) (map (λ p. is_tree n p.0) ps) ≡ true) × (map (λ p. hull_of n p.0) ps ≡ map (λ p. hull_of m p.0) ps)
each_grows m n [] h = (refl, refl)
each_grows m n (p ∷ ps) h =
    let parts = and_parts (is_tree m p.0) _ h in
    let first = p.1 parts.0 in
    let rest = each_grows m n ps parts.1 in
    (and_from (is_tree n p.0) _ first.0 rest.0, λ i. first.1 i ∷ rest.1 i)

some_grow : (m n : Data) (ps : List (Part m n)) → (not (is_empty (map (λ p. is_tree m p.0) ps)) && list_all (λ b. b) (map (λ p. is_tree m p.0) ps)) ≡ true
    → ((not (is_empty (map (λ p. is_tree n p.0) ps)) && list_all (λ b. b) (map (λ p. is_tree n p.0) ps)) ≡ true) × (map (λ p. hull_of n p.0) ps ≡ map (λ p. hull_of m p.0) ps)
some_grow m n [] h = cc
some_grow m n (p ∷ ps) h = each_grows m n (p ∷ ps) h

two_grow : (m n : Data) (p q : Part m n) → (is_tree m p.0 && is_tree m q.0) ≡ true → ((is_tree n p.0 && is_tree n q.0) ≡ true) × (truth_of (hull_of n p.0 ∷ hull_of n q.0 ∷ []) ≡ truth_of (hull_of m p.0 ∷ hull_of m q.0 ∷ []))
two_grow m n p q h =
    let parts = and_parts (is_tree m p.0) (is_tree m q.0) h in
    let first = p.1 parts.0 in
    let second = q.1 parts.1 in
    (and_from (is_tree n p.0) (is_tree n q.0) first.0 second.0, λ i. truth_of (first.1 i ∷ second.1 i ∷ []))

asked_grows : (m n : Data) → Extends m n → (f : IntervalDef → Ends) (x : Itv) (d : ℤ) → (is_itv m x && is_small d) ≡ true → ((is_itv n x && is_small d) ≡ true) × (interval_hull n f x d ≡ interval_hull m f x d)
asked_grows m n more f x d h =
    let parts = and_parts (is_itv m x) (is_small d) h in
    (and_from (is_itv n x) (is_small d) (itv_grows m n more x parts.0) parts.1, ap (λ o. limited (range_or f d o)) (more.itv x.0 parts.0))

level : (m n : Data) → Extends m n → (y : Expr-F (Part m n)) → expr_step m (map-Expr (Part m n) Bool (λ p. is_tree m p.0) y) ≡ true
    → (expr_step n (map-Expr (Part m n) Bool (λ p. is_tree n p.0) y) ≡ true) × (hull_step n (map-Expr (Part m n) (Option Ends) (λ p. hull_of n p.0) y) ≡ hull_step m (map-Expr (Part m n) (Option Ends) (λ p. hull_of m p.0) y))
level m n more (Lit k) h = (h, refl)
level m n more (StartOf x d) h = asked_grows m n more start_range x d h
level m n more (EndOf x d) h = asked_grows m n more end_range x d h
level m n more (SizeOf x d) h = asked_grows m n more size_range x d h
level m n more (LengthOf x d) h = asked_grows m n more size_range x d h
level m n more (PresenceOf x) h = (itv_grows m n more x h, ap (λ o. limited (range_or presence_range (pos 0) o)) (more.itv x.0 h))
level m n more (Neg p) h = let part = p.1 h in (part.0, ap (of_one negated) part.1)
level m n more (Sum ps) h = let parts = each_grows m n ps h in (parts.0, ap (of_all total_range) parts.1)
level m n more (Product ps) h = let parts = some_grow m n ps h in (parts.0, ap (of_all product_range) parts.1)
level m n more (Max ps) h = let parts = some_grow m n ps h in (parts.0, ap (of_all greatest_range) parts.1)
level m n more (Min ps) h = let parts = some_grow m n ps h in (parts.0, ap (of_all least_range) parts.1)
level m n more (Compare op p q) h = two_grow m n p q h
level m n more (Not p) h = let part = p.1 h in (part.0, λ i. truth_of (part.1 i ∷ []))
level m n more (And ps) h = let parts = some_grow m n ps h in (parts.0, ap truth_of parts.1)
level m n more (Or ps) h = let parts = some_grow m n ps h in (parts.0, ap truth_of parts.1)
level m n more (Implies p q) h = two_grow m n p q h

pub tree_grows : (m n : Data) → Extends m n → (e : Expr) → Grows m n e
tree_grows m n more = ind-Expr (Grows m n) (λ x y is. subst (λ z. Grows m n (roll-Expr z)) is (λ h.
    rw (fold-roll-Expr Bool (expr_step n), fold-roll-Expr (Option Ends) (hull_step n), fold-roll-Expr (Option Ends) (hull_step m), composed (Grows m n) Bool (is_tree n) y, composed (Grows m n) (Option Ends) (hull_of n) y, composed (Grows m n) (Option Ends) (hull_of m) y)
    (level m n more y (rw (fold-roll-Expr Bool (expr_step m), composed (Grows m n) Bool (is_tree m) y) at h))))

pub expr_grows : (m n : Data) → Extends m n → (e : Expr) → is_expr m e ≡ true → is_expr n e ≡ true
expr_grows m n more e h =
    let parts = and_parts (is_tree m e) (is_some (hull_of m e)) h in
    let grown = tree_grows m n more e parts.0 in
    and_from (is_tree n e) (is_some (hull_of n e)) grown.0 (ap is_some grown.1 ∙ parts.1)

pub objective_grows : (m n : Data) → Extends m n → (o : Option Objective) → passes_if_any (λ o. is_expr m o.expr) o ≡ true → passes_if_any (λ o. is_expr n o.expr) o ≡ true
objective_grows m n more None h = refl
objective_grows m n more (Some o) h = expr_grows m n more o.expr h

-- constraints

fits_grows : (m n : Data) → Extends m n → (p : Seq) → is_seq m p ≡ true → (x : Mat) → fits_types m p x ≡ true → fits_types n p x ≡ true
fits_grows m n more p there x h =
    let parts = and_parts (is_mat m x) (passes (λ ts. passes (λ d. list_all (λ t. nat_lt t d.size) ts) (matrix_of m (Some x))) (sequence_of m p).types) h in
    and_from (is_mat n x) _ (mat_grows m n more x parts.0)
    ((λ i. passes (λ ts. passes (λ d. list_all (λ t. nat_lt t d.size) ts) (same_matrix m n more (Some x) parts.0 i)) (same_sequence m n more p there i).types) ∙ parts.1)

fit_grows : (m n : Data) → Extends m n → (p : Seq) → is_seq m p ≡ true → (o : Option Mat) → passes_if_any (fits_types m p) o ≡ true → passes_if_any (fits_types n p) o ≡ true
fit_grows m n more p there None h = refl
fit_grows m n more p there (Some x) h = fits_grows m n more p there x h

-- a state function that is there has the matrix that it names
matrix_there : (m : Data) (gs : List StateDef) (i : ℕ) → list_all (is_state_def m) gs ≡ true → passes_if_any (is_mat m) (slice_index_or gs i (record { name = []; matrix = None })).matrix ≡ true
matrix_there m [] i all = refl
matrix_there m (g ∷ gs) zero all = (and_parts (is_state_def m g) _ all).0
matrix_there m (g ∷ gs) (suc i) all = matrix_there m gs i (and_parts (is_state_def m g) _ all).1

pub held_in : (p q : Bool) (r s t : Bool) → (p && q && r && s && t) ≡ true → (p ≡ true) × (q ≡ true) × (r ≡ true) × (s ≡ true) × (t ≡ true)
held_in p q r s t h =
    let last = and_parts (p && q && r && s) t h in
    let fourth = and_parts (p && q && r) s last.0 in
    let three = three_true p q r fourth.0 in
    (three.0, three.1, three.2, fourth.1, last.1)

over_grows : (m n : Data) → Extends m n → (a : Itv) (xs : List Itv) → (is_itv m a && are_parts m xs) ≡ true → (is_itv n a && are_parts n xs) ≡ true
over_grows m n more a xs h = let parts = and_parts (is_itv m a) (are_parts m xs) h in and_from (is_itv n a) (are_parts n xs) (itv_grows m n more a parts.0) (parts_grow m n more xs parts.1)

pair_grows : (m n : Data) → Extends m n → (p : Seq) (a b : Itv) → (is_member m p a && is_member m p b && not (same a b)) ≡ true → (is_member n p a && is_member n p b && not (same a b)) ≡ true
pair_grows m n more p a b h =
    let parts = three_true (is_member m p a) (is_member m p b) (not (same a b)) h in
    all_three (is_member n p a) (is_member n p b) (not (same a b)) (member_grows m n more p a parts.0) (member_grows m n more p b parts.1) parts.2

pub constraint_grows : (m n : Data) → Extends m n → list_all (is_state_def m) m.states ≡ true → (c : Constraint) → is_constraint m c ≡ true → is_constraint n c ≡ true
constraint_grows m n more states (constraint.Temporal from to equal a b z) h =
    let parts = three_true (is_itv m a) (is_itv m b) (is_small z) h in
    all_three (is_itv n a) (is_itv n b) (is_small z) (itv_grows m n more a parts.0) (itv_grows m n more b parts.1) parts.2
constraint_grows m n more states (constraint.Logic e) h = expr_grows m n more e h
constraint_grows m n more states (constraint.Span a xs) h = over_grows m n more a xs h
constraint_grows m n more states (constraint.Alternative a xs k) h =
    let parts = four_true (is_itv m a) (are_parts m xs) (is_small k) (int_le (pos 0) k) h in
    all_four (is_itv n a) (are_parts n xs) (is_small k) (int_le (pos 0) k) (itv_grows m n more a parts.0) (parts_grow m n more xs parts.1) parts.2 parts.3
constraint_grows m n more states (constraint.Synchronize a xs) h = over_grows m n more a xs h
constraint_grows m n more states (constraint.NoOverlap p matrix direct) h =
    let parts = and_parts (is_seq m p) (passes_if_any (fits_types m p) matrix) h in
    and_from (is_seq n p) (passes_if_any (fits_types n p) matrix) (seq_grows m n more p parts.0) (fit_grows m n more p parts.0 matrix parts.1)
constraint_grows m n more states (constraint.First p a) h = member_grows m n more p a h
constraint_grows m n more states (constraint.Last p a) h = member_grows m n more p a h
constraint_grows m n more states (constraint.Before p a b) h = pair_grows m n more p a b h
constraint_grows m n more states (constraint.Prev p a b) h = pair_grows m n more p a b h
constraint_grows m n more states (constraint.CumulIn f w lo hi) h =
    let parts = held_in (nat_lt f.0 (length m.cumuls)) (is_window m w) (is_small lo) (is_small hi) (int_le lo hi) h in
    all_five (nat_lt f.0 (length n.cumuls)) (is_window n w) (is_small lo) (is_small hi) (int_le lo hi) (cum_grows m n more f parts.0) (window_grows m n more w parts.1) parts.2 parts.3 parts.4
constraint_grows m n more states (constraint.AlwaysEqual g a v start end) h =
    let parts = four_true (nat_lt g.0 (length m.states)) (is_itv m a) (is_amount v) (is_row (matrix_of m (state_matrix m g)) v) h in
    let row = ap (λ o. is_row (matrix_of n o) v) (same_state m n more g parts.0) ∙ ap (λ d. is_row d v) (same_matrix m n more (state_matrix m g) (matrix_there m m.states g.0 states)) ∙ parts.3 in
    all_four (nat_lt g.0 (length n.states)) (is_itv n a) (is_amount v) (is_row (matrix_of n (state_matrix n g)) v) (stf_grows m n more g parts.0) (itv_grows m n more a parts.1) parts.2 row
constraint_grows m n more states (constraint.AlwaysNoState g a) h =
    let parts = and_parts (nat_lt g.0 (length m.states)) (is_itv m a) h in
    and_from (nat_lt g.0 (length n.states)) (is_itv n a) (stf_grows m n more g parts.0) (itv_grows m n more a parts.1)

pub constraints_grow : (m n : Data) → Extends m n → list_all (is_state_def m) m.states ≡ true → (cs : List Constraint) → list_all (is_constraint m) cs ≡ true → list_all (is_constraint n) cs ≡ true
constraints_grow m n more states cs all = all_weaker (is_constraint m) (is_constraint n) (constraint_grows m n more states) cs all
