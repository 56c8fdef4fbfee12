-- Which of two assignments is better, by the value of the objective's expression.
use Rattle.std.specs.Prelude.{◌≡◌, ℤ, true, [], Option, Some, None, IfSome, option_map, unwrap_or, is_some}
use Rattle.std.proofs.Common.{refl, sym, ap, subst, ◌∙◌}
use Rattle.std.proofs.lemmas.Bool.{and_parts}
use Rattle.sched_model.specs.declared.types.Assignment.{Assignment}
use Rattle.sched_model.specs.declared.types.Expr.{Expr}
use Rattle.sched_model.specs.declared.types.Objective.{Objective}
use Rattle.sched_model.specs.Words.{passes, passes_if_any}
use Rattle.sched_model.specs.Data.{Data}
use Rattle.sched_model.specs.Ranges.{Ends}
use Rattle.sched_model.specs.Hull.{hull_of}
use Rattle.sched_model.specs.Value.{value_of}
use Rattle.sched_model.specs.Domain.{is_in_domain}
use Rattle.sched_model.specs.Rank.{values_of, beats_first, unranked, unranked_in, IsRanked}
use Rattle.sched_model.specs.Solution.{objective_of, is_better, betters, beats, criteria_values}
use Rattle.sched_model.specs.Valid.{IsValid, is_expr}
use Rattle.sched_model.specs.laws.Domain.{slots_fit}
use Rattle.sched_model.specs.laws.Ranked.{better_values, values_given_back}

-- the objective of a valid model, and the hull of its expression
pub record Aimed (m : Data) (o : Objective) : Type 0 where
  pub ranked : IsRanked m o
  pub ends : Ends
  pub hull : hull_of m o.expr ≡ Some ends

some_hull : (m : Data) (e : Expr) (h : Option Ends) → hull_of m e ≡ h → is_some h ≡ true → (r : Ends) × (hull_of m e ≡ Some r)
some_hull m e None is some = cc
some_hull m e (Some r) is some = (r, is)

pub aimed : (m : Data) (o : Objective) → IsValid m → m.objective ≡ Some o → Aimed m o
aimed m o valid is =
    let fine = subst (λ q. passes_if_any (λ p. is_expr m p.expr) q ≡ true) is valid.objective in
    let h = some_hull m o.expr (hull_of m o.expr) refl (and_parts _ (is_some (hull_of m o.expr)) fine).1 in
    record { ranked = subst (λ q. IfSome q (IsRanked m)) is valid.criteria; ends = h.0; hull = h.1 }

-- the law: better than the value of one is better than that one, on the first criterion on which they differ
pub better_told : (m : Data) (a b : Assignment) (v : ℤ) → IsValid m → is_in_domain m a ≡ true → is_in_domain m b ≡ true → objective_of m a ≡ Some v → is_better m (Some v) b ≡ betters m b a
better_told m a b v valid first second is = by_objective m.objective refl
  where
    by_objective : (q : Option Objective) → m.objective ≡ q → is_better m (Some v) b ≡ betters m b a
    by_objective None none =
        ap (passes (λ o. beats o.sense (value_of b o.expr) v)) none ∙ sym (ap (passes (λ o. beats_first o.sense (values_of b o) (values_of a o))) none)
    by_objective (Some o) some =
        let k = aimed m o valid some in
        let same : value_of a o.expr ≡ v = value_is (value_of a o.expr) (sym (ap (option_map (λ p. value_of a p.expr)) some) ∙ is) in
        ap (passes (λ p. beats p.sense (value_of b p.expr) v)) some
        ∙ ap (λ z. beats o.sense (value_of b o.expr) z) (sym same)
        ∙ better_values m o k.ends b a valid.intervals k.ranked k.hull (slots_fit m b second) (slots_fit m a first)
        ∙ sym (ap (passes (λ p. beats_first p.sense (values_of b p) (values_of a p))) some)
      where
        value_is : (z : ℤ) → Some z ≡ Some v → z ≡ v
        value_is z h = cc

-- the law: of the value of an assignment the values of the criteria are told
pub values_told : (m : Data) (a : Assignment) (v : ℤ) → IsValid m → is_in_domain m a ≡ true → objective_of m a ≡ Some v → unranked_in m v ≡ criteria_values m a
values_told m a v valid domain is = by_objective m.objective refl
  where
    by_objective : (q : Option Objective) → m.objective ≡ q → unranked_in m v ≡ criteria_values m a
    by_objective None none = ap (λ q. unwrap_or (option_map (λ o. unranked m o v) q) []) none ∙ sym (ap (λ q. unwrap_or (option_map (values_of a) q) []) none)
    by_objective (Some o) some =
        let k = aimed m o valid some in
        let same : value_of a o.expr ≡ v = value_is (value_of a o.expr) (sym (ap (option_map (λ p. value_of a p.expr)) some) ∙ is) in
        ap (λ q. unwrap_or (option_map (λ o. unranked m o v) q) []) some
        ∙ ap (unranked m o) (sym same)
        ∙ values_given_back m o k.ends a valid.intervals k.ranked k.hull (slots_fit m a domain)
        ∙ sym (ap (λ q. unwrap_or (option_map (values_of a) q) []) some)
      where
        value_is : (z : ℤ) → Some z ≡ Some v → z ≡ v
        value_is z h = cc
