-- The criteria of an objective are expressions where their rank is one.
use Rattle.std.proofs.Common.{◌≡◌, ℕ, ◌+◌, pos, Bool, true, false, ◌&&◌, if◌then◌else◌, List, [], ◌∷◌, map, sum_by, Option, Some, None, is_some, unwrap_or, refl, sym, ap, ◌∙◌}
use Rattle.std.specs.List.{list_all}
use Rattle.std.proofs.lemmas.Bool.{and_parts, and_from}
use Rattle.std.proofs.lemmas.List.Sums.{sum_by-cons}
use Rattle.sched_model.specs.declared.types.Objective.{Objective}
use Rattle.sched_model.specs.declared.types.Expr.{Expr}
use Rattle.sched_model.specs.declared.types.Expr.TheOpen.{Expr-F as expr}
use Rattle.sched_model.specs.declared.types.Expr.TheFolds.{fold-Expr, fold-roll-Expr}
use Rattle.sched_model.specs.declared.types.Expr.TheViews.{roll-Expr}
use Rattle.sched_model.specs.Words.{all_of, is_empty}
use Rattle.sched_model.specs.Ranges.{Ends}
use Rattle.sched_model.specs.Data.{Data}
use Rattle.sched_model.specs.Hull.{hull_of}
use Rattle.sched_model.specs.Valid.{is_small, expr_step, is_expr, node_count}
use Rattle.sched_model.specs.Rank.{weight, times, weighted, rank_of, criteria_of, IsRanked}
use Rattle.sched_model.specs.laws.Ranked.{HaveHulls, have_hulls}
use Rattle.cpo_text.specs.declared.expression.Logic.{Logic}
use Rattle.cpo_elab.specs.Elaborated.{expr_of}

-- an answer that is there

abbrev pub Found : {X : Type 0} → Option X → Type 0
Found {X} o = (x : X) × (o ≡ Some x)

pub found : {X : Type 0} (o : Option X) → is_some o ≡ true → Found o
found None h = cc
found (Some x) h = (x, refl)

-- well made, but for the hull
abbrev is_tree : Data → Expr → Bool
is_tree m = fold-Expr Bool (expr_step m)

pub product_tree : (m : Data) (e : Expr) (w : ℕ) → is_tree m (times e w) ≡ (is_tree m e && (is_small (pos w) && true))
product_tree m e w =
    fold-roll-Expr Bool (expr_step m) (expr.Product (e ∷ roll-Expr (expr.Lit (pos w)) ∷ []))
    ∙ ap (λ b. is_tree m e && (b && true)) (fold-roll-Expr Bool (expr_step m) (expr.Lit (pos w)))

pub sum_tree : (m : Data) (es : List Expr) → is_tree m (roll-Expr (expr.Sum es)) ≡ list_all (λ b. b) (map (is_tree m) es)
sum_tree m es = fold-roll-Expr Bool (expr_step m) (expr.Sum es)

pub rank_by : (m : Data) (es : List Expr) (rs : List Ends) → all_of (map (hull_of m) es) ≡ Some rs → rank_of m es ≡ roll-Expr (expr.Sum (weighted rs es))
rank_by m es rs is = ap (λ q. roll-Expr (expr.Sum (weighted (unwrap_or q []) es))) is

criteria_trees : (m : Data) (rs : List Ends) (es : List Expr) → HaveHulls m es rs → list_all (λ b. b) (map (is_tree m) (weighted rs es)) ≡ true → list_all (is_tree m) es ≡ true
criteria_trees m [] [] hulls h = refl
criteria_trees m (r ∷ rs) [] hulls h = absurd hulls
criteria_trees m [] (e ∷ es) hulls h = absurd hulls
criteria_trees m (r ∷ rs) (e ∷ es) hulls h =
    let parts = and_parts (is_tree m (times e (weight rs))) _ h in
    let first = and_parts (is_tree m e) (is_small (pos (weight rs)) && true) (sym (product_tree m e (weight rs)) ∙ parts.0) in
    and_from (is_tree m e) (list_all (is_tree m) es) first.0 (criteria_trees m rs es hulls.1 parts.1)

pub rank_trees : (m : Data) (o : Objective) → IsRanked m o → is_expr m o.expr ≡ true → is_empty o.criteria ≡ false → list_all (is_tree m) o.criteria ≡ true
rank_trees m o r h some =
    let there = found (all_of (map (hull_of m) o.criteria)) r.hulls in
    let tree = and_parts (is_tree m o.expr) (is_some (hull_of m o.expr)) h in
    let is = r.rank some ∙ rank_by m o.criteria there.0 there.1 in
    criteria_trees m there.0 o.criteria (have_hulls m o.criteria there.0 there.1) (sym (sum_tree m (weighted there.0 o.criteria)) ∙ sym (ap (is_tree m) is) ∙ tree.0)

all_exprs : (m : Data) (es : List Expr) (rs : List Ends) → HaveHulls m es rs → list_all (is_tree m) es ≡ true → list_all (is_expr m) es ≡ true
all_exprs m [] [] hulls h = refl
all_exprs m [] (r ∷ rs) hulls h = absurd hulls
all_exprs m (e ∷ es) [] hulls h = absurd hulls
all_exprs m (e ∷ es) (r ∷ rs) hulls h =
    let parts = and_parts (is_tree m e) (list_all (is_tree m) es) h in
    and_from (is_expr m e) (list_all (is_expr m) es) (and_from (is_tree m e) (is_some (hull_of m e)) parts.0 (ap is_some hulls.0)) (all_exprs m es rs hulls.1 parts.1)

-- the law
pub criteria_are : (m : Data) (o : Objective) → IsRanked m o → is_expr m o.expr ≡ true → list_all (is_expr m) (criteria_of o) ≡ true
criteria_are m o r h = by (is_empty o.criteria) refl
  where
    by : (b : Bool) → is_empty o.criteria ≡ b → list_all (is_expr m) (if b then o.expr ∷ [] else o.criteria) ≡ true
    by true none = and_from (is_expr m o.expr) true h refl
    by false some =
        let there = found (all_of (map (hull_of m) o.criteria)) r.hulls in
        all_exprs m o.criteria there.0 (have_hulls m o.criteria there.0 there.1) (rank_trees m o r h some)

-- the nodes of some expressions, by those of a text
pub nodes_mapped : (m : Data) (es : List Logic) → sum_by node_count (map (expr_of m) es) ≡ sum_by (λ e. node_count (expr_of m e)) es
nodes_mapped m [] = refl
nodes_mapped m (e ∷ es) =
    sum_by-cons node_count (expr_of m e) (map (expr_of m) es)
    ∙ ap (λ n. node_count (expr_of m e) + n) (nodes_mapped m es)
    ∙ sym (sum_by-cons (λ x. node_count (expr_of m x)) e es)
