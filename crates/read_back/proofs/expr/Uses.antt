-- The tree of an expression names no interval but those of the model.
use Rattle.std.proofs.Common.{◌≡◌, ◌∙◌, ℤ, pos, negsuc, Bool, true, false, not, ◌&&◌, List, [], ◌∷◌, map, refl, sym, subst}
use Rattle.std.specs.List.{list_all, list_any}
use Rattle.std.proofs.lemmas.Bool.{and_parts, or_from}
use Rattle.sched_base.specs.declared.ids.Itv.{Itv}
use Rattle.sched_model.specs.declared.types.Expr.{Expr}
use Rattle.sched_model.specs.declared.types.Expr.TheOpen.{Expr-F, Expr-F as expr}
use Rattle.sched_model.specs.declared.types.Expr.TheFolds.{map-Expr}
use Rattle.sched_model.specs.Data.{Data}
use Rattle.sched_model.specs.Words.{is_empty}
use Rattle.sched_model.specs.Valid.{is_itv, is_expr, expr_step}
use Rattle.cpo_text.specs.declared.expression.Gather.TheVariants as gather
use Rattle.cpo_text.specs.declared.expression.Link.{Link}
use Rattle.cpo_text.specs.declared.expression.Link.TheVariants as link
use Rattle.cpo_text.specs.declared.expression.Logic.{Logic}
use Rattle.cpo_text.specs.declared.expression.Logic.TheOpen.{Logic-F}
use Rattle.cpo_text.specs.declared.expression.Logic.TheOpen.Logic-F.{Lit, Group, PresenceOf, Measured, Gathered, Linked, Neg, Sum, Compare, Not, Implies}
use Rattle.cpo_text.specs.declared.expression.Logic.TheFolds.{fold-roll-Logic, map-Logic}
use Rattle.cpo_text.specs.declared.expression.Logic.TheViews.{roll-Logic}
use Rattle.cpo_elab.specs.declared.names.Sort.TheVariants.{Interval}
use Rattle.cpo_elab.specs.Named.{NameTest, logic_step, some_in_logic}
use Rattle.sched_text.specs.Pieces.{interval_name}
use Rattle.read_back.specs.Trees.{Told, composed, wholes, operands, summed, comparison_tree, told_step, told}
use Rattle.read_back.proofs.expr.Folds.{Known, folded, by_levels, Thrice, of_plain, of_composed, of_negated, is_tree}

module _ (m : Data) (test : NameTest) (intervals : (x : Itv) → is_itv m x ≡ true → test Interval (interval_name m x) ≡ false) where
  abbrev None : Logic → Type 0
  None l = some_in_logic test l ≡ false

  abbrev Clear : Expr → Type 0
  Clear e = is_tree m e ≡ true → Thrice None (told m e)

  abbrev Part : Type 0
  Part = Known Clear

  out : (z : Logic-F Logic) → some_in_logic test (roll-Logic z) ≡ logic_step test (map-Logic Logic Bool (some_in_logic test) z)
  out z = fold-roll-Logic Bool (logic_step test) z

  group : (l : Logic) → None l → None (roll-Logic (Group l))
  group l h = out (Group l) ∙ h

  abbrev tolds : List Part → List Told
  tolds ps = map (λ p. told m p.0) ps

  abbrev none_in : List Logic → Type 0
  none_in ls = list_any (λ b. b) (map (some_in_logic test) ls) ≡ false

  record Rows (ts : List Told) : Type 0 where
    wholes_clear : none_in (wholes ts)
    operands_clear : none_in (operands ts)
    laters_clear : none_in (map (λ t. t.later) ts)

  each : (ps : List Part) → list_all (λ b. b) (map (λ p. is_tree m p.0) ps) ≡ true → Rows (tolds ps)
  each [] h = record { wholes_clear = refl; operands_clear = refl; laters_clear = refl }
  each (p ∷ ps) h =
      let tree = and_parts (is_tree m p.0) _ h in
      let first = p.1 tree.0 in
      let rest = each ps tree.1 in
      record { wholes_clear = or_from _ _ first.whole rest.wholes_clear; operands_clear = or_from _ _ first.operand rest.operands_clear; laters_clear = or_from _ _ first.later rest.laters_clear }

  sum_clear : (ps : List Part) → list_all (λ b. b) (map (λ p. is_tree m p.0) ps) ≡ true → Thrice None (summed (tolds ps))
  sum_clear [] h = of_composed None group _ (out (Gathered gather.Sum []))
  sum_clear (p ∷ []) h = of_composed None group _ (out (Gathered gather.Sum ((told m p.0).whole ∷ [])) ∙ (each (p ∷ []) h).wholes_clear)
  sum_clear (p ∷ q ∷ ps) h =
      let tree = and_parts (is_tree m p.0) _ h in
      of_composed None group _ (out (Sum ((told m p.0).operand ∷ map (λ t. t.later) (tolds (q ∷ ps)))) ∙ or_from _ _ (p.1 tree.0).operand (each (q ∷ ps) tree.1).laters_clear)

  linked_clear : (l : Link) (ps : List Part) → (not (is_empty (map (λ p. is_tree m p.0) ps)) && list_all (λ b. b) (map (λ p. is_tree m p.0) ps)) ≡ true
      → Thrice None (composed (roll-Logic (Linked l (operands (tolds ps)))))
  linked_clear l ps h = of_composed None group _ (out (Linked l (operands (tolds ps))) ∙ (each ps (and_parts _ _ h).1).operands_clear)

  literal_clear : (z : ℤ) → Thrice None (told_step m (expr.Lit z))
  literal_clear (pos n) = of_plain None _ (out (Lit _))
  literal_clear (negsuc n) = of_plain None _ (out (Lit _))

  level : (y : Expr-F Part) → expr_step m (map-Expr Part Bool (λ p. is_tree m p.0) y) ≡ true → Thrice None (told_step m (map-Expr Part Told (λ p. told m p.0) y))
  level (expr.Lit z) h = literal_clear z
  level (expr.StartOf x d) h = of_plain None _ (out (Measured _ _ _) ∙ intervals x (and_parts (is_itv m x) _ h).0)
  level (expr.EndOf x d) h = of_plain None _ (out (Measured _ _ _) ∙ intervals x (and_parts (is_itv m x) _ h).0)
  level (expr.SizeOf x d) h = of_plain None _ (out (Measured _ _ _) ∙ intervals x (and_parts (is_itv m x) _ h).0)
  level (expr.LengthOf x d) h = of_plain None _ (out (Measured _ _ _) ∙ intervals x (and_parts (is_itv m x) _ h).0)
  level (expr.PresenceOf x) h = of_plain None _ (out (PresenceOf _) ∙ intervals x h)
  level (expr.Neg p) h = of_negated None group _ (out (Neg (told m p.0).operand) ∙ (p.1 h).operand)
  level (expr.Sum ps) h = sum_clear ps h
  level (expr.Product ps) h = linked_clear link.Times ps h
  level (expr.Max ps) h = of_plain None _ (out (Gathered gather.Max (wholes (tolds ps))) ∙ (each ps (and_parts _ _ h).1).wholes_clear)
  level (expr.Min ps) h = of_plain None _ (out (Gathered gather.Min (wholes (tolds ps))) ∙ (each ps (and_parts _ _ h).1).wholes_clear)
  level (expr.Compare o p q) h =
      let tree = and_parts (is_tree m p.0) (is_tree m q.0) h in
      of_composed None group _ (out (Compare (comparison_tree o) (told m p.0).operand (told m q.0).operand) ∙ or_from _ _ (p.1 tree.0).operand (q.1 tree.1).operand)
  level (expr.Not p) h = of_composed None group _ (out (Not (told m p.0).operand) ∙ (p.1 h).operand)
  level (expr.And ps) h = linked_clear link.And ps h
  level (expr.Or ps) h = linked_clear link.Or ps h
  level (expr.Implies p q) h =
      let tree = and_parts (is_tree m p.0) (is_tree m q.0) h in
      of_composed None group _ (out (Implies (told m p.0).operand (told m q.0).operand) ∙ or_from _ _ (p.1 tree.0).operand (q.1 tree.1).operand)

  tree_clear : (e : Expr) → Clear e
  tree_clear = by_levels Clear (λ y h. subst (Thrice None) (sym (folded Clear Told (told_step m) y)) (level y (sym (folded Clear Bool (expr_step m) y) ∙ h)))

pub names_intervals : (m : Data) (e : Expr) (test : NameTest) → is_expr m e ≡ true → ((x : Itv) → is_itv m x ≡ true → test Interval (interval_name m x) ≡ false) → some_in_logic test (told m e).whole ≡ false
names_intervals m e test h intervals = (tree_clear m test intervals e (and_parts (is_tree m e) _ h).0).whole
