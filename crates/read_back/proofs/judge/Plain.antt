-- The statement of a constraint between intervals, of an expression or on a state passes each test, and adds the constraint.
use Rattle.std.proofs.Common.{◌≡◌, ℤ, pos, Bool, true, false, not, ◌&&◌, if◌then◌else◌, List, [], ◌∷◌, ◌++◌, length, Option, Some, None, option_map, is_some, is_none, nat_lt, int_le, refl, ap, ◌∙◌, arith}
use Rattle.std.specs.List.{list_all}
use Rattle.std.specs.Ordering.{int_eq}
use Rattle.std.proofs.lemmas.Int.{ints}
use Rattle.std.proofs.lemmas.Bool.{and_parts, or_from, not_from_true, not-true}
use Rattle.base_laws.specs.laws.Truth.{three_true, four_true}
use Rattle.sched_base.specs.declared.ids.Itv.{Itv}
use Rattle.sched_base.specs.declared.ids.Stf.{Stf}
use Rattle.sched_model.specs.declared.types.SequenceDef.{SequenceDef}
use Rattle.sched_model.specs.declared.types.CumulDef.{CumulDef}
use Rattle.sched_model.specs.declared.types.Expr.{Expr}
use Rattle.sched_model.specs.declared.types.End.{End}
use Rattle.sched_model.specs.declared.types.End.TheVariants as point
use Rattle.sched_model.specs.declared.types.Constraint.{Constraint}
use Rattle.sched_model.specs.declared.types.Constraint.TheVariants as constraint
use Rattle.sched_model.specs.Words.{passes}
use Rattle.sched_model.specs.Data.{Data, state_matrix, matrix_of}
use Rattle.sched_model.specs.Domain.{is_row}
use Rattle.sched_model.specs.Hull.{hull_of}
use Rattle.sched_model.specs.Valid.{IsValid, is_expr, expr_step, is_itv, is_small, is_amount, are_parts, are_distinct}
use Rattle.sched_model.specs.declared.types.Expr.TheFolds.{fold-Expr}
use Rattle.sched_model.specs.laws.Small.{amount_small}
use Rattle.cpo_text.specs.declared.tree.Hierarchy.{Hierarchy}
use Rattle.cpo_text.specs.declared.tree.Hierarchy.TheVariants as hierarchy
use Rattle.cpo_text.specs.declared.tree.Constrained.TheVariants as constrained
use Rattle.cpo_elab.specs.declared.names.Sort.TheVariants.{Interval, State}
use Rattle.cpo_elab.specs.Named.{NameTest, some_in_logic}
use Rattle.cpo_elab.specs.Literals.{int_of, count_or_one}
use Rattle.cpo_elab.specs.Factors.{factor_of}
use Rattle.cpo_elab.specs.Elaborated.{expr_of, points_of, hierarchy_of}
use Rattle.cpo_elab.specs.Judged.{is_crowded, is_negative, is_large}
use Rattle.sched_text.specs.Pieces.{interval_name, interval_names, state_name}
use Rattle.read_back.specs.Trees.{int_tree, count_tree, temporal_tree, logic_tree, constraint_tree}
use Rattle.read_back.specs.Written.{is_written_expr, written_step, factor}
use Rattle.read_back.specs.Laws.{ExpressionsReturn, FactorsReturn, ExpressionsNameIntervals}
use Rattle.read_back.proofs.Numbers.{int_back}
use Rattle.read_back.proofs.Names.{number_itv, number_stf, itv_back, itvs_back, stf_back}
use Rattle.read_back.proofs.judge.Numbers.{amount_sign, amount_size}
use Rattle.read_back.proofs.judge.Names.{Blind, itvs_pass}
use Rattle.read_back.proofs.judge.Limits.{Front}
use Rattle.read_back.proofs.judge.Middle.{mid, Middle, Leaves, leaves}

-- where a constraint stands
pub record Place (m : Data) (s : List SequenceDef) (c : List CumulDef) (f : List Constraint) (con : Constraint) : Type 0 where
  pub valid : IsValid m
  pub middle : Middle m s c
  pub front : Front (f ++ con ∷ []) m.constraints

abbrev pub Stays : Data → List SequenceDef → List CumulDef → List Constraint → Constraint → Type 0
Stays m s c f con = Leaves (mid m s c f) (constraint_tree m con) (mid m s c (f ++ con ∷ []))

-- intervals

pub interval_passes : (m : Data) (s : List SequenceDef) (c : List CumulDef) (f : List Constraint) → IsValid m → (x : Itv) → is_itv m x ≡ true → (test : NameTest) → Blind (mid m s c f) test → test Interval (interval_name m x) ≡ false
interval_passes m s c f v x there test blind = blind Interval (interval_name m x) x.0 (number_itv m (mid m s c f) refl v x there)

points_back : (from to : End) (equal : Bool) → points_of (temporal_tree from to equal) ≡ (from, to, equal)
points_back point.Start point.Start false = refl
points_back point.Start point.Finish false = refl
points_back point.Finish point.Start false = refl
points_back point.Finish point.Finish false = refl
points_back point.Start point.Start true = refl
points_back point.Start point.Finish true = refl
points_back point.Finish point.Start true = refl
points_back point.Finish point.Finish true = refl

pub temporal_stays : (m : Data) (s : List SequenceDef) (c : List CumulDef) (f : List Constraint) (from to : End) (equal : Bool) (x y : Itv) (z : ℤ)
    → Place m s c f (constraint.Temporal from to equal x y z) → (is_itv m x && is_itv m y && is_small z) ≡ true → Stays m s c f (constraint.Temporal from to equal x y z)
temporal_stays m s c f from to equal x y z here it =
    let n = mid m s c f in
    let con = constraint.Temporal from to equal x y z in
    let v = here.valid in
    let parts = three_true (is_itv m x) (is_itv m y) (is_small z) it in
    let points = points_back from to equal in
    let first = itv_back m n refl v x parts.0 in
    let second = itv_back m n refl v y parts.1 in
    let delay = int_back z parts.2 in
    leaves m n (constraint_tree m con) con s c f v (record {
      names = λ test blind. or_from (test Interval (interval_name m x)) (test Interval (interval_name m y)) (interval_passes m s c f v x parts.0 test blind) (interval_passes m s c f v y parts.1 test blind);
      joins = refl;
      ordered = refl;
      signs = refl;
      fitting = refl;
      once = refl;
      inside = refl;
      small = refl;
      few = refl;
      hull = refl;
      sparse = refl;
    }) refl (λ i. constraint.Temporal (points i).0 (points i).1 (points i).2 (first i) (second i) (delay i)) here.middle.sequences here.middle.cumuls here.front

hierarchy_stays : (m : Data) (s : List SequenceDef) (c : List CumulDef) (f : List Constraint) (h : Hierarchy) (x : Itv) (xs : List Itv)
    → Place m s c f (hierarchy_of h x xs) → (is_itv m x && are_parts m xs) ≡ true → Leaves (mid m s c f) (constrained.Parts h (interval_name m x) (interval_names m xs)) (mid m s c (f ++ hierarchy_of h x xs ∷ []))
hierarchy_stays m s c f h x xs here it =
    let n = mid m s c f in
    let v = here.valid in
    let parts = and_parts (is_itv m x) (are_parts m xs) it in
    let all = and_parts (list_all (is_itv m) xs) (are_distinct xs) parts.1 in
    let first = itv_back m n refl v x parts.0 in
    let rest = itvs_back m n refl v xs all.0 in
    leaves m n (constrained.Parts h (interval_name m x) (interval_names m xs)) (hierarchy_of h x xs) s c f v (record {
      names = λ test blind. or_from (test Interval (interval_name m x)) _ (interval_passes m s c f v x parts.0 test blind) (itvs_pass m n refl v test blind xs all.0);
      joins = refl;
      ordered = refl;
      signs = refl;
      fitting = refl;
      once = ap are_distinct rest ∙ all.1;
      inside = refl;
      small = refl;
      few = refl;
      hull = refl;
      sparse = refl;
    }) refl (λ i. hierarchy_of h (first i) (rest i)) here.middle.sequences here.middle.cumuls here.front

pub span_stays : (m : Data) (s : List SequenceDef) (c : List CumulDef) (f : List Constraint) (x : Itv) (xs : List Itv) → Place m s c f (constraint.Span x xs) → (is_itv m x && are_parts m xs) ≡ true → Stays m s c f (constraint.Span x xs)
span_stays m s c f x xs here it = hierarchy_stays m s c f hierarchy.Span x xs here it

-- the count of an alternative comes back
count_back : (n : ℤ) → is_small n ≡ true → count_or_one (count_tree n) ≡ n
count_back n small = by (int_eq n (pos 1)) refl
  where
    is_one : (n : ℤ) → int_eq n (pos 1) ≡ true → pos 1 ≡ n
    is_one n h = grind (arith, ints)

    by : (b : Bool) → int_eq n (pos 1) ≡ b → count_or_one (if b then None else Some (int_tree n)) ≡ n
    by true is = is_one n is
    by false is = int_back n small

-- and is no negative size
count_sign : (n : ℤ) → is_small n ≡ true → int_le (pos 0) n ≡ true → passes is_negative (option_map int_of (count_tree n)) ≡ false
count_sign n small up = by (int_eq n (pos 1))
  where
    not_negative : (n : ℤ) → int_le (pos 0) n ≡ true → is_negative n ≡ false
    not_negative n h = grind (arith, ints)

    by : (b : Bool) → passes is_negative (option_map int_of (if b then None else Some (int_tree n))) ≡ false
    by true = refl
    by false = ap is_negative (int_back n small) ∙ not_negative n up

pub alternative_stays : (m : Data) (s : List SequenceDef) (c : List CumulDef) (f : List Constraint) (x : Itv) (xs : List Itv) (k : ℤ)
    → Place m s c f (constraint.Alternative x xs k) → (is_itv m x && are_parts m xs && is_small k && int_le (pos 0) k) ≡ true → Stays m s c f (constraint.Alternative x xs k)
alternative_stays m s c f x xs k here it =
    let n = mid m s c f in
    let con = constraint.Alternative x xs k in
    let v = here.valid in
    let parts = four_true (is_itv m x) (are_parts m xs) (is_small k) (int_le (pos 0) k) it in
    let all = and_parts (list_all (is_itv m) xs) (are_distinct xs) parts.1 in
    let first = itv_back m n refl v x parts.0 in
    let rest = itvs_back m n refl v xs all.0 in
    let count = count_back k parts.2 in
    leaves m n (constraint_tree m con) con s c f v (record {
      names = λ test blind. or_from (test Interval (interval_name m x)) _ (interval_passes m s c f v x parts.0 test blind) (itvs_pass m n refl v test blind xs all.0);
      joins = refl;
      ordered = refl;
      signs = or_from (passes is_negative (option_map int_of (count_tree k))) false (count_sign k parts.2 parts.3) refl;
      fitting = refl;
      once = ap are_distinct rest ∙ all.1;
      inside = refl;
      small = refl;
      few = refl;
      hull = refl;
      sparse = refl;
    }) refl (λ i. constraint.Alternative (first i) (rest i) (count i)) here.middle.sequences here.middle.cumuls here.front

pub synchronize_stays : (m : Data) (s : List SequenceDef) (c : List CumulDef) (f : List Constraint) (x : Itv) (xs : List Itv) → Place m s c f (constraint.Synchronize x xs) → (is_itv m x && are_parts m xs) ≡ true → Stays m s c f (constraint.Synchronize x xs)
synchronize_stays m s c f x xs here it = hierarchy_stays m s c f hierarchy.Synchronize x xs here it

-- expressions

none_some : {X : Type 0} (o : Option X) → is_some o ≡ true → is_none o ≡ false
none_some None h = cc
none_some (Some x) h = refl

pub hull_there : ExpressionsReturn → (m : Data) (s : List SequenceDef) (c : List CumulDef) (f : List Constraint) → IsValid m → (e : Expr) → is_expr m e ≡ true → is_written_expr e ≡ true
    → is_none (hull_of (mid m s c f) (expr_of (mid m s c f) (logic_tree m e))) ≡ false
hull_there return m s c f v e it written =
    ap (λ x. is_none (hull_of (mid m s c f) x)) (return m (mid m s c f) e v refl it written) ∙ none_some (hull_of m e) (and_parts (fold-Expr Bool (expr_step m) e) (is_some (hull_of m e)) it).1

pub names_there : ExpressionsNameIntervals → (m : Data) (s : List SequenceDef) (c : List CumulDef) (f : List Constraint) → IsValid m → (e : Expr) → is_expr m e ≡ true → (test : NameTest) → Blind (mid m s c f) test → some_in_logic test (logic_tree m e) ≡ false
names_there name m s c f v e it test blind = name m e test it (λ x there. interval_passes m s c f v x there test blind)

pub sparse_there : FactorsReturn → (m : Data) (e : Expr) → is_written_expr e ≡ true → is_crowded (factor_of (logic_tree m e)) ≡ false
sparse_there factors m e written = ap is_crowded (factors m e) ∙ not-true (is_crowded (factor e)) (and_parts (fold-Expr Bool written_step e) (not (is_crowded (factor e))) written).1

pub logic_stays : ExpressionsReturn → FactorsReturn → ExpressionsNameIntervals → (m : Data) (s : List SequenceDef) (c : List CumulDef) (f : List Constraint) (e : Expr)
    → Place m s c f (constraint.Logic e) → is_expr m e ≡ true → is_written_expr e ≡ true → Stays m s c f (constraint.Logic e)
logic_stays return factors name m s c f e here it written =
    let n = mid m s c f in
    let v = here.valid in
    leaves m n (constraint_tree m (constraint.Logic e)) (constraint.Logic e) s c f v (record {
      names = names_there name m s c f v e it;
      joins = refl;
      ordered = refl;
      signs = refl;
      fitting = refl;
      once = refl;
      inside = refl;
      small = refl;
      few = refl;
      hull = hull_there return m s c f v e it written;
      sparse = or_from (is_crowded (factor_of (logic_tree m e))) false (sparse_there factors m e written) refl;
    }) refl (ap (λ x. constraint.Logic x) (return m n e v refl it written)) here.middle.sequences here.middle.cumuls here.front

-- states

pub equal_stays : (m : Data) (s : List SequenceDef) (c : List CumulDef) (f : List Constraint) (g : Stf) (x : Itv) (w : ℤ) (i j : Bool) → Place m s c f (constraint.AlwaysEqual g x w i j)
    → (nat_lt g.0 (length m.states) && is_itv m x && is_amount w && is_row (matrix_of m (state_matrix m g)) w) ≡ true → Stays m s c f (constraint.AlwaysEqual g x w i j)
equal_stays m s c f g x w i j here it =
    let n = mid m s c f in
    let con = constraint.AlwaysEqual g x w i j in
    let v = here.valid in
    let parts = four_true (nat_lt g.0 (length m.states)) (is_itv m x) (is_amount w) (is_row (matrix_of m (state_matrix m g)) w) it in
    let state = stf_back m n refl v g parts.0 in
    let interval = itv_back m n refl v x parts.1 in
    let value = int_back w (amount_small w parts.2) in
    leaves m n (constraint_tree m con) con s c f v (record {
      names = λ test blind. or_from (test State (state_name m g)) (test Interval (interval_name m x)) (blind State (state_name m g) g.0 (number_stf m n refl v g parts.0)) (interval_passes m s c f v x parts.1 test blind);
      joins = refl;
      ordered = refl;
      signs = ap is_negative value ∙ amount_sign w parts.2;
      fitting = not_from_true _ ((λ k. is_row (matrix_of n (state_matrix n (state k))) (value k)) ∙ parts.3);
      once = refl;
      inside = refl;
      small = ap is_large value ∙ amount_size w parts.2;
      few = refl;
      hull = refl;
      sparse = refl;
    }) refl (λ k. constraint.AlwaysEqual (state k) (interval k) (value k) i j) here.middle.sequences here.middle.cumuls here.front

pub none_stays : (m : Data) (s : List SequenceDef) (c : List CumulDef) (f : List Constraint) (g : Stf) (x : Itv) → Place m s c f (constraint.AlwaysNoState g x)
    → (nat_lt g.0 (length m.states) && is_itv m x) ≡ true → Stays m s c f (constraint.AlwaysNoState g x)
none_stays m s c f g x here it =
    let n = mid m s c f in
    let con = constraint.AlwaysNoState g x in
    let v = here.valid in
    let parts = and_parts (nat_lt g.0 (length m.states)) (is_itv m x) it in
    let state = stf_back m n refl v g parts.0 in
    let interval = itv_back m n refl v x parts.1 in
    leaves m n (constraint_tree m con) con s c f v (record {
      names = λ test blind. or_from (test State (state_name m g)) (test Interval (interval_name m x)) (blind State (state_name m g) g.0 (number_stf m n refl v g parts.0)) (interval_passes m s c f v x parts.1 test blind);
      joins = refl;
      ordered = refl;
      signs = refl;
      fitting = refl;
      once = refl;
      inside = refl;
      small = refl;
      few = refl;
      hull = refl;
      sparse = refl;
    }) refl (λ k. constraint.AlwaysNoState (state k) (interval k)) here.middle.sequences here.middle.cumuls here.front
