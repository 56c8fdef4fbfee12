-- The rank of criteria: that it is well made, and that it stays the rank in a model with more in it.
use Rattle.std.proofs.Common.{◌≡◌, pos, Bool, true, false, ◌&&◌, if◌then◌else◌, List, [], ◌∷◌, map, Option, Some, None, is_some, is_none, unwrap_or, refl, sym, ap, ◌∙◌}
use Rattle.std.specs.Option.{IfSome}
use Rattle.std.specs.List.{list_all}
use Rattle.std.proofs.lemmas.Bool.{and_parts, and_from}
use Rattle.sched_model.specs.declared.types.Objective.{Objective}
use Rattle.sched_model.specs.declared.types.Expr.{Expr}
use Rattle.sched_model.specs.declared.types.Expr.TheOpen.{Expr-F as expr}
use Rattle.sched_model.specs.declared.types.Expr.TheViews.{roll-Expr}
use Rattle.sched_model.specs.Words.{all_of, is_empty, passes_if_any}
use Rattle.sched_model.specs.Ranges.{Ends}
use Rattle.sched_model.specs.Data.{Data}
use Rattle.sched_model.specs.Hull.{hull_of}
use Rattle.sched_model.specs.Valid.{is_small, is_expr}
use Rattle.sched_model.specs.Rank.{weight, times, weighted, rank_of, rank_within, IsRanked}
use Rattle.sched_model.specs.laws.Ranked.{HaveHulls, have_hulls, AreSmallWeights, weights_small, parts_of_sum}
use Rattle.cpo_elab.specs.lemmas.Criteria.{found, product_tree, sum_tree, rank_by, rank_trees}
use Rattle.cpo_elab.proofs.adding.Extends.{Extends}
use Rattle.cpo_elab.proofs.adding.Growing.{is_tree, tree_grows}

-- where the criteria keep their hulls

pub ranked_by : (m n : Data) (o : Objective) → map (hull_of n) o.criteria ≡ map (hull_of m) o.criteria → IsRanked m o → IsRanked n o
ranked_by m n o same r = record {
  many = r.many;
  hulls = ap (λ hs. is_some (all_of hs)) same ∙ r.hulls;
  rank = λ some. r.rank some ∙ ap (λ hs. roll-Expr (expr.Sum (weighted (unwrap_or (all_of hs) []) o.criteria))) (sym same);
}

all_same : (m n : Data) → ((e : Expr) → hull_of n e ≡ hull_of m e) → (es : List Expr) → map (hull_of n) es ≡ map (hull_of m) es
all_same m n same [] = refl
all_same m n same (e ∷ es) = λ i. same e i ∷ all_same m n same es i

pub criteria_stay : (m n : Data) → ((e : Expr) → hull_of n e ≡ hull_of m e) → (o : Option Objective) → IfSome o (IsRanked m) → IfSome o (IsRanked n)
criteria_stay m n same None r = tt
criteria_stay m n same (Some o) r = ranked_by m n o (all_same m n same o.criteria) r

-- a rank is well made where its criteria are and its weights are small

weighted_trees : (m : Data) (rs : List Ends) (es : List Expr) → HaveHulls m es rs → AreSmallWeights rs → list_all (is_tree m) es ≡ true → list_all (λ b. b) (map (is_tree m) (weighted rs es)) ≡ true
weighted_trees m [] [] hulls small h = refl
weighted_trees m (r ∷ rs) [] hulls small h = absurd hulls
weighted_trees m [] (e ∷ es) hulls small h = absurd hulls
weighted_trees m (r ∷ rs) (e ∷ es) hulls small h =
    let parts = and_parts (is_tree m e) (list_all (is_tree m) es) h in
    and_from (is_tree m (times e (weight rs))) _
    (product_tree m e (weight rs) ∙ and_from (is_tree m e) (is_small (pos (weight rs)) && true) parts.0 (and_from (is_small (pos (weight rs))) true small.0 refl))
    (weighted_trees m rs es hulls.1 small.1 parts.1)

-- in a larger model

each_same : (m n : Data) → Extends m n → (es : List Expr) → list_all (is_tree m) es ≡ true → map (hull_of n) es ≡ map (hull_of m) es
each_same m n more [] h = refl
each_same m n more (e ∷ es) h =
    let parts = and_parts (is_tree m e) (list_all (is_tree m) es) h in
    let first = tree_grows m n more e parts.0 in
    λ i. first.1 i ∷ each_same m n more es parts.1 i

none_same : (m n : Data) (es : List Expr) → is_empty es ≡ true → map (hull_of n) es ≡ map (hull_of m) es
none_same m n [] h = refl
none_same m n (e ∷ es) h = cc

pub criteria_grow : (m n : Data) → Extends m n → (o : Option Objective) → passes_if_any (λ o. is_expr m o.expr) o ≡ true → IfSome o (IsRanked m) → IfSome o (IsRanked n)
criteria_grow m n more None h r = tt
criteria_grow m n more (Some o) h r = by (is_empty o.criteria) refl
  where
    by : (b : Bool) → is_empty o.criteria ≡ b → IsRanked n o
    by true none = ranked_by m n o (none_same m n o.criteria none) r
    by false some = ranked_by m n o (each_same m n more o.criteria (rank_trees m o r h some)) r

-- a rank within the bounds

pub record HasRank (m : Data) (es : List Expr) : Type 0 where
  pub hulls : is_some (all_of (map (hull_of m) es)) ≡ true
  pub hull : is_some (hull_of m (rank_of m es)) ≡ true

pub has_rank : (m : Data) (es : List Expr) → is_none (rank_within m es) ≡ false → HasRank m es
has_rank m es h = by (is_some (all_of (map (hull_of m) es))) refl (is_some (hull_of m (rank_of m es))) refl h
  where
    by : (a : Bool) → is_some (all_of (map (hull_of m) es)) ≡ a → (b : Bool) → is_some (hull_of m (rank_of m es)) ≡ b → is_none (if a && b then Some (rank_of m es) else None) ≡ false → HasRank m es
    by true is true also h = record { hulls = is; hull = also }
    by true is false also h = cc
    by false is true also h = cc
    by false is false also h = cc

pub rank_made : (m : Data) (es : List Expr) → list_all (is_tree m) es ≡ true → HasRank m es → is_expr m (rank_of m es) ≡ true
rank_made m es trees has =
    let there = found (all_of (map (hull_of m) es)) has.hulls in
    let hulls = have_hulls m es there.0 there.1 in
    let is = rank_by m es there.0 there.1 in
    let hull = found (hull_of m (rank_of m es)) has.hull in
    let parts = parts_of_sum m (weighted there.0 es) hull.0 (sym (ap (hull_of m) is) ∙ hull.1) in
    let small = weights_small m es there.0 parts.0 hulls parts.1 in
    and_from (is_tree m (rank_of m es)) (is_some (hull_of m (rank_of m es)))
    (ap (is_tree m) is ∙ sum_tree m (weighted there.0 es) ∙ weighted_trees m there.0 es hulls small trees) has.hull
