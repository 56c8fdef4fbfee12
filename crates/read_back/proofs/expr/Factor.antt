-- The tree of an expression names an interval, and multiplies two that do, where the expression does.
use Rattle.std.proofs.Common.{◌≡◌, ◌∙◌, ℤ, pos, negsuc, List, [], ◌∷◌, map, refl, sym, ap, ap₂, subst}
use Rattle.sched_model.specs.declared.types.Expr.{Expr}
use Rattle.sched_model.specs.declared.types.Expr.TheOpen.{Expr-F, Expr-F as expr}
use Rattle.sched_model.specs.declared.types.Expr.TheFolds.{map-Expr}
use Rattle.sched_model.specs.Data.{Data}
use Rattle.cpo_text.specs.declared.expression.Gather.TheVariants as gather
use Rattle.cpo_text.specs.declared.expression.Link.{Link}
use Rattle.cpo_text.specs.declared.expression.Link.TheVariants as link
use Rattle.cpo_text.specs.declared.expression.Logic.{Logic}
use Rattle.cpo_text.specs.declared.expression.Logic.TheOpen.{Logic-F}
use Rattle.cpo_text.specs.declared.expression.Logic.TheOpen.Logic-F.{Lit, Group, PresenceOf, Measured, Gathered, Linked, Neg, Sum, Compare, Not, Implies}
use Rattle.cpo_text.specs.declared.expression.Logic.TheFolds.{fold-roll-Logic, map-Logic}
use Rattle.cpo_text.specs.declared.expression.Logic.TheViews.{roll-Logic}
use Rattle.cpo_elab.specs.declared.factors.Factor.{Factor}
use Rattle.cpo_elab.specs.Factors as tree
use Rattle.cpo_elab.specs.Factors.{beside, all_beside, linked, factor_of}
use Rattle.read_back.specs.Trees.{Told, composed, wholes, operands, summed, comparison_tree, told_step, told}
use Rattle.read_back.specs.Written.{factor_step, factor}
use Rattle.read_back.proofs.expr.Folds.{Known, made, folded, by_levels, Thrice, of_plain, of_composed, of_negated}

abbrev Has : Factor → Logic → Type 0
Has f l = factor_of l ≡ f

abbrev Same : Data → Expr → Type 0
Same m e = Thrice (Has (factor e)) (told m e)

abbrev Part : Data → Type 0
Part m = Known (Same m)

out : (z : Logic-F Logic) → factor_of (roll-Logic z) ≡ tree.factor_step (map-Logic Logic Factor factor_of z)
out z = fold-roll-Logic Factor tree.factor_step z

group : (f : Factor) (l : Logic) → Has f l → Has f (roll-Logic (Group l))
group f l h = out (Group l) ∙ h

abbrev factors : (m : Data) → List (Part m) → List Factor
factors m ps = map (λ p. factor p.0) ps

abbrev tolds : (m : Data) → List (Part m) → List Told
tolds m ps = map (λ p. told m p.0) ps

record Rows (fs : List Factor) (ts : List Told) : Type 0 where
  wholes_have : map factor_of (wholes ts) ≡ fs
  operands_have : map factor_of (operands ts) ≡ fs
  laters_have : map factor_of (map (λ t. t.later) ts) ≡ fs

each : (m : Data) (ps : List (Part m)) → Rows (factors m ps) (tolds m ps)
each m [] = record { wholes_have = refl; operands_have = refl; laters_have = refl }
each m (p ∷ ps) =
    let rest = each m ps in
    record { wholes_have = λ i. p.1.whole i ∷ rest.wholes_have i; operands_have = λ i. p.1.operand i ∷ rest.operands_have i; laters_have = λ i. p.1.later i ∷ rest.laters_have i }

sum_has : (m : Data) (ps : List (Part m)) → Thrice (Has (all_beside (factors m ps))) (summed (tolds m ps))
sum_has m [] = of_composed _ (group _) _ (out (Gathered gather.Sum []))
sum_has m (p ∷ []) = of_composed _ (group _) _ (out (Gathered gather.Sum ((told m p.0).whole ∷ [])) ∙ ap all_beside (each m (p ∷ [])).wholes_have)
sum_has m (p ∷ q ∷ ps) =
    let rest = (each m (q ∷ ps)).laters_have in
    of_composed _ (group _) _ (out (Sum ((told m p.0).operand ∷ map (λ t. t.later) (tolds m (q ∷ ps)))) ∙ (λ i. all_beside (p.1.operand i ∷ rest i)))

linked_has : (m : Data) (l : Link) (ps : List (Part m)) → Thrice (Has (linked l (factors m ps))) (composed (roll-Logic (Linked l (operands (tolds m ps)))))
linked_has m l ps = of_composed _ (group _) _ (out (Linked l (operands (tolds m ps))) ∙ ap (linked l) (each m ps).operands_have)

literal_has : (m : Data) (z : ℤ) → Thrice (Has (factor_step (expr.Lit z))) (told_step m (expr.Lit z))
literal_has m (pos n) = of_plain _ _ (out (Lit _))
literal_has m (negsuc n) = of_plain _ _ (out (Lit _))

level : (m : Data) (y : Expr-F (Part m)) → Thrice (Has (factor_step (map-Expr (Part m) Factor (λ p. factor p.0) y))) (told_step m (map-Expr (Part m) Told (λ p. told m p.0) y))
level m (expr.Lit z) = literal_has m z
level m (expr.StartOf x d) = of_plain _ _ (out (Measured _ _ _))
level m (expr.EndOf x d) = of_plain _ _ (out (Measured _ _ _))
level m (expr.SizeOf x d) = of_plain _ _ (out (Measured _ _ _))
level m (expr.LengthOf x d) = of_plain _ _ (out (Measured _ _ _))
level m (expr.PresenceOf x) = of_plain _ _ (out (PresenceOf _))
level m (expr.Neg p) = of_negated _ (group _) _ (out (Neg (told m p.0).operand) ∙ p.1.operand)
level m (expr.Sum ps) = sum_has m ps
level m (expr.Product ps) = linked_has m link.Times ps
level m (expr.Max ps) = of_plain _ _ (out (Gathered gather.Max (wholes (tolds m ps))) ∙ ap all_beside (each m ps).wholes_have)
level m (expr.Min ps) = of_plain _ _ (out (Gathered gather.Min (wholes (tolds m ps))) ∙ ap all_beside (each m ps).wholes_have)
level m (expr.Compare o p q) = of_composed _ (group _) _ (out (Compare (comparison_tree o) (told m p.0).operand (told m q.0).operand) ∙ ap₂ beside p.1.operand q.1.operand)
level m (expr.Not p) = of_composed _ (group _) _ (out (Not (told m p.0).operand) ∙ p.1.operand)
level m (expr.And ps) = linked_has m link.And ps
level m (expr.Or ps) = linked_has m link.Or ps
level m (expr.Implies p q) = of_composed _ (group _) _ (out (Implies (told m p.0).operand (told m q.0).operand) ∙ ap₂ beside p.1.operand q.1.operand)

all_same : (m : Data) (e : Expr) → Same m e
all_same m = by_levels (Same m) (λ y. subst (Thrice (Has (factor (made (Same m) y)))) (sym (folded (Same m) Told (told_step m) y))
    (subst (λ f. Thrice (Has f) (told_step m (map-Expr (Part m) Told (λ p. told m p.0) y))) (sym (folded (Same m) Factor factor_step y)) (level m y)))

pub factors_return : (m : Data) (e : Expr) → factor_of (told m e).whole ≡ factor e
factors_return m e = (all_same m e).whole
