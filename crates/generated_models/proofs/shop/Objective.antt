-- The objective of a job shop: its tests, its hull, its nodes and its factors.
use Rattle.std.proofs.Common.{◌≡◌, ◌+◌, ◌≤◌, ℤ, pos, Bool, true, false, not, List, [], ◌∷◌, map, length, fold, is_some, Some, slice_get, refl, ap, ◌∙◌, arith}
use Rattle.std.specs.List.{list_all, sum_by}
use Rattle.std.specs.Int.{int_max}
use Rattle.std.specs.Option.{option_map, option_and_then}
use Rattle.std.proofs.lemmas.Bool.{and_parts, and_from}
use Rattle.std.proofs.lemmas.List.Sums.{sum_by-cons}
use Rattle.sched_base.specs.declared.ids.Itv.{Itv}
use Rattle.sched_model.specs.Data.{Data, horizon}
use Rattle.sched_model.specs.Words.{all_of, is_empty}
use Rattle.sched_model.specs.Ranges.{Ends, greatest_range}
use Rattle.sched_model.specs.Bounds.{is_small}
use Rattle.sched_model.specs.Hull.{limited, hull_of, hull_step, range_or, end_range, widened}
use Rattle.sched_model.specs.Valid.{is_itv, expr_step, is_expr, count_step, node_count}
use Rattle.sched_model.specs.declared.types.IntervalDef.{IntervalDef}
use Rattle.sched_model.specs.declared.types.Expr.{Expr}
use Rattle.sched_model.specs.declared.types.Expr.TheOpen.{Expr-F as expr}
use Rattle.sched_model.specs.declared.types.Expr.TheFolds.{fold-Expr, fold-roll-Expr}
use Rattle.sched_model.specs.declared.types.Expr.TheViews.{roll-Expr}
use Rattle.cpo_elab.specs.declared.factors.Factor.TheVariants.{Named}
use Rattle.cpo_elab.specs.Factors.{beside, all_beside}
use Rattle.cpo_elab.specs.Judged.{is_crowded}
use Rattle.read_back.specs.Written.{written_step, factor_step, is_written_expr}

-- the end of each of some intervals, and the greatest of them
abbrev pub end_of : Itv → Expr
end_of x = roll-Expr (expr.EndOf x (pos 0))

abbrev pub greatest_end : List Itv → Expr
greatest_end xs = roll-Expr (expr.Max (map end_of xs))

-- what a fold makes of it where it makes the same of each end
folded_ends : {A : Type 0} (step : expr A → A) (a : A) (test : Itv → Bool) → ((x : Itv) → test x ≡ true → step (expr.EndOf x (pos 0)) ≡ a) → (xs : List Itv) → list_all test xs ≡ true
    → map (fold-Expr A step) (map end_of xs) ≡ map (λ x. a) xs
folded_ends {A} step a test each [] all = refl
folded_ends {A} step a test each (x ∷ xs) all =
    let parts = and_parts (test x) (list_all test xs) all in
    let here = fold-roll-Expr A step (expr.EndOf x (pos 0)) ∙ each x parts.0 in
    let rest = folded_ends step a test each xs parts.1 in
    λ i. here i ∷ rest i

folded : {A : Type 0} (step : expr A → A) (a : A) (test : Itv → Bool) → ((x : Itv) → test x ≡ true → step (expr.EndOf x (pos 0)) ≡ a) → (xs : List Itv) → list_all test xs ≡ true
    → fold-Expr A step (greatest_end xs) ≡ step (expr.Max (map (λ x. a) xs))
folded {A} step a test each xs all = fold-roll-Expr A step (expr.Max (map end_of xs)) ∙ ap (λ (ys : List A). step (expr.Max ys)) (folded_ends step a test each xs all)

all_true : (xs : List Itv) → list_all (λ b. b) (map (λ x. true) xs) ≡ true
all_true [] = refl
all_true (x ∷ xs) = all_true xs

some_left : {A : Type 0} (a : A) (xs : List Itv) → 1 ≤ length xs → not (is_empty (map (λ x. a) xs)) ≡ true
some_left a [] some = absurd (omega (arith, some))
some_left a (x ∷ xs) some = refl

tree_passes : (m : Data) (xs : List Itv) → 1 ≤ length xs → list_all (is_itv m) xs ≡ true → fold-Expr Bool (expr_step m) (greatest_end xs) ≡ true
tree_passes m xs some all =
    folded (expr_step m) true (is_itv m) (λ x there. and_from (is_itv m x) (is_small (pos 0)) there refl) xs all
    ∙ and_from _ _ (some_left true xs some) (all_true xs)

-- the hull

abbrev whole : Ends
whole = (pos 0, horizon)

all_whole : (xs : List Itv) → all_of (map (λ x. Some whole) xs) ≡ Some (map (λ x. whole) xs)
all_whole [] = refl
all_whole (x ∷ xs) = ap (option_map (λ rs. whole ∷ rs)) (all_whole xs)

greatest_same : (z : ℤ) → int_max z z ≡ z → (xs : List Itv) → fold int_max z (map (λ x. z) xs) ≡ z
greatest_same z same [] = refl
greatest_same z same (x ∷ xs) = ap (λ y. fold int_max y (map (λ x. z) xs)) same ∙ greatest_same z same xs

each_same : {A : Type 0} (a : A) (f : Ends → A) (xs : List Itv) → f whole ≡ a → map f (map (λ x. whole) xs) ≡ map (λ x. a) xs
each_same a f [] is = refl
each_same a f (x ∷ xs) is = let rest = each_same a f xs is in λ i. is i ∷ rest i

greatest_whole : (xs : List Itv) → 1 ≤ length xs → greatest_range (map (λ x. whole) xs) ≡ whole
greatest_whole [] some = absurd (omega (arith, some))
greatest_whole (x ∷ xs) some =
    let low = ap (fold int_max (pos 0)) (each_same (pos 0) (λ r. r.0) xs refl) ∙ greatest_same (pos 0) refl xs in
    let high = ap (fold int_max horizon) (each_same horizon (λ r. r.1) xs refl) ∙ greatest_same horizon refl xs in
    λ i. (low i, high i)

hull_passes : (m : Data) (xs : List Itv) (test : Itv → Bool) → ((x : Itv) → test x ≡ true → hull_step m (expr.EndOf x (pos 0)) ≡ Some whole) → 1 ≤ length xs → list_all test xs ≡ true → is_some (hull_of m (greatest_end xs)) ≡ true
unfolding limited
hull_passes m xs test each some all =
    ap is_some (folded (hull_step m) (Some whole) test each xs all
    ∙ ap (option_and_then (λ rs. limited (greatest_range rs))) (all_whole xs)
    ∙ ap limited (greatest_whole xs some))

pub expr_passes : (m : Data) (xs : List Itv) (test : Itv → Bool) → ((x : Itv) → test x ≡ true → hull_step m (expr.EndOf x (pos 0)) ≡ Some (pos 0, horizon)) → 1 ≤ length xs → list_all test xs ≡ true
    → list_all (is_itv m) xs ≡ true → is_expr m (greatest_end xs) ≡ true
expr_passes m xs test each some all there = and_from _ _ (tree_passes m xs some there) (hull_passes m xs test each some all)

-- an interval that ends from 0 to H, and may not be absent
pub end_hull : (m : Data) (x : Itv) (d : IntervalDef) → slice_get m.intervals x.0 ≡ Some d → d.optional ≡ false → d.end_lo ≡ pos 0 → d.end_hi ≡ horizon → hull_step m (expr.EndOf x (pos 0)) ≡ Some (pos 0, horizon)
unfolding limited
end_hull m x d at there low high =
    ap (λ o. limited (range_or end_range (pos 0) o)) at ∙ (λ i. limited (widened (there i) (pos 0) (low i, high i)))

-- the nodes

one_each : (xs : List Itv) → sum_by (λ n. n) (map (λ x. 1) xs) ≡ length xs
one_each [] = refl
one_each (x ∷ xs) = let rest = one_each xs in omega (arith, rest, sum_by-cons (λ n. n) 1 (map (λ x. 1) xs))

always : (xs : List Itv) → list_all (λ x. true) xs ≡ true
always [] = refl
always (x ∷ xs) = always xs

pub nodes_are : (xs : List Itv) → node_count (greatest_end xs) ≡ 1 + length xs
nodes_are xs = folded count_step 1 (λ x. true) (λ x h. refl) xs (always xs) ∙ ap (λ n. 1 + n) (one_each xs)

-- as a text can write it

all_named : (xs : List Itv) → fold beside Named (map (λ x. Named) xs) ≡ Named
all_named [] = refl
all_named (x ∷ xs) = all_named xs

not_crowded : (xs : List Itv) → not (is_crowded (all_beside (map (λ x. Named) xs))) ≡ true
not_crowded [] = refl
not_crowded (x ∷ xs) = ap (λ f. not (is_crowded f)) (all_named xs)

pub expr_written : (xs : List Itv) → is_written_expr (greatest_end xs) ≡ true
expr_written xs = and_from _ _
    (folded written_step true (λ x. true) (λ x h. refl) xs (always xs) ∙ all_true xs)
    (ap (λ f. not (is_crowded f)) (folded factor_step Named (λ x. true) (λ x h. refl) xs (always xs)) ∙ not_crowded xs)
