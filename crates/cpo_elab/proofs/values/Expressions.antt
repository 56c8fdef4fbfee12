-- An expression whose names are right, and whose nodes have their operands, is well made.
use Rattle.std.proofs.Common.{◌≡◌, ℕ, pos, Bool, true, false, not, ◌&&◌, ◌||◌, List, [], ◌∷◌, map, Option, Some, None, is_some, is_none, refl, subst, ◌∙◌}
use Rattle.std.specs.List.{list_all, list_any}
use Rattle.std.proofs.lemmas.Bool.{and_parts, and_from, or_parts}
use Rattle.sched_model.specs.declared.types.Expr.{Expr}
use Rattle.sched_model.specs.declared.types.Expr.TheOpen.{Expr-F}
use Rattle.sched_model.specs.declared.types.Expr.TheFolds.{fold-roll-Expr, map-Expr}
use Rattle.sched_model.specs.declared.types.Expr.TheViews.{roll-Expr}
use Rattle.sched_model.specs.Words.{is_empty}
use Rattle.sched_model.specs.Data.{Data}
use Rattle.sched_model.specs.Hull.{hull_of}
use Rattle.sched_model.specs.Valid.{is_expr, is_itv, is_small}
use Rattle.sched_model.specs.Valid as valid
use Rattle.cpo_text.specs.declared.tree.Int.{Int}
use Rattle.cpo_text.specs.declared.expression.Measure.{Measure}
use Rattle.cpo_text.specs.declared.expression.Measure.TheVariants.{StartOf, EndOf, SizeOf, LengthOf}
use Rattle.cpo_text.specs.declared.expression.Gather.{Gather}
use Rattle.cpo_text.specs.declared.expression.Gather.TheVariants as gather
use Rattle.cpo_text.specs.declared.expression.Link.{Link}
use Rattle.cpo_text.specs.declared.expression.Link.TheVariants as link
use Rattle.cpo_text.specs.declared.expression.Logic.{Logic}
use Rattle.cpo_text.specs.declared.expression.Logic.TheOpen.{Logic-F}
use Rattle.cpo_text.specs.declared.expression.Logic.TheOpen.Logic-F.{Lit, Group, PresenceOf, Measured, Gathered, Linked, Neg, Sum, Compare, Not, Implies}
use Rattle.cpo_text.specs.declared.expression.Logic.TheFolds.{fold-roll-Logic, ind-Logic, map-Logic}
use Rattle.cpo_text.specs.declared.expression.Logic.TheViews.{roll-Logic}
use Rattle.cpo_text.specs.lemmas.Folds.{composed}
use Rattle.cpo_elab.specs.declared.names.Sort.TheVariants.{Interval}
use Rattle.cpo_elab.specs.Named.{itv_of, logic_step, some_in_logic}
use Rattle.cpo_elab.specs.Literals.{size_of, int_or_zero}
use Rattle.cpo_elab.specs.Elaborated.{measure_of, gather_of, link_of, compare_of, expr_step, expr_of}
use Rattle.cpo_elab.specs.Judged.{is_of_other_sort}
use Rattle.cpo_elab.specs.Shaped.{operands_step, has_operands, gathers_some, all_true}
use Rattle.cpo_elab.proofs.adding.Growing.{is_tree}
use Rattle.cpo_elab.proofs.named.Ids.{right_itv}
use Rattle.cpo_elab.proofs.values.Amounts.{literal_small, delay_small}

abbrev pub Made : Data → Logic → Type 0
Made m e = some_in_logic (is_of_other_sort m) e ≡ false → has_operands e ≡ true → is_tree m (expr_of m e) ≡ true

abbrev Part : Data → Type 0
Part m = (e : Logic) × Made m e

rolled : (m : Data) (z : Expr-F Expr) → valid.expr_step m (map-Expr Expr Bool (is_tree m) z) ≡ true → is_tree m (roll-Expr z) ≡ true
rolled m z h = fold-roll-Expr Bool (valid.expr_step m) z ∙ h

trees : (m : Data) (ps : List (Part m)) → list_any (λ b. b) (map (λ p. some_in_logic (is_of_other_sort m) p.0) ps) ≡ false → list_all (λ b. b) (map (λ p. has_operands p.0) ps) ≡ true
    → list_all (λ b. b) (map (is_tree m) (map (λ p. expr_of m p.0) ps)) ≡ true
trees m [] right shaped = refl
trees m (p ∷ ps) right shaped =
    let r = or_parts (some_in_logic (is_of_other_sort m) p.0) _ right in
    let s = and_parts (has_operands p.0) _ shaped in
    and_from (is_tree m (expr_of m p.0)) _ (p.1 r.0 s.0) (trees m ps r.1 s.1)

some_trees : (m : Data) (ps : List (Part m)) → list_any (λ b. b) (map (λ p. some_in_logic (is_of_other_sort m) p.0) ps) ≡ false
    → (not (is_empty (map (λ p. has_operands p.0) ps)) && list_all (λ b. b) (map (λ p. has_operands p.0) ps)) ≡ true
    → (not (is_empty (map (is_tree m) (map (λ p. expr_of m p.0) ps))) && list_all (λ b. b) (map (is_tree m) (map (λ p. expr_of m p.0) ps))) ≡ true
some_trees m [] right shaped = cc
some_trees m (p ∷ ps) right shaped = trees m (p ∷ ps) right shaped

two_trees : (m : Data) (p q : Part m) → (some_in_logic (is_of_other_sort m) p.0 || some_in_logic (is_of_other_sort m) q.0) ≡ false → (has_operands p.0 && has_operands q.0) ≡ true
    → (is_tree m (expr_of m p.0) && is_tree m (expr_of m q.0)) ≡ true
two_trees m p q right shaped =
    let r = or_parts (some_in_logic (is_of_other_sort m) p.0) (some_in_logic (is_of_other_sort m) q.0) right in
    let s = and_parts (has_operands p.0) (has_operands q.0) shaped in
    and_from (is_tree m (expr_of m p.0)) (is_tree m (expr_of m q.0)) (p.1 r.0 s.0) (q.1 r.1 s.1)

measured : (m : Data) (how : Measure) (a : List ℕ) (d : Option Int) → is_of_other_sort m Interval a ≡ false → is_tree m (measure_of how (itv_of m a) (int_or_zero d)) ≡ true
measured m StartOf a d right = rolled m (Expr-F.StartOf (itv_of m a) (int_or_zero d)) (and_from (is_itv m (itv_of m a)) (is_small (int_or_zero d)) (right_itv m a right) (delay_small d))
measured m EndOf a d right = rolled m (Expr-F.EndOf (itv_of m a) (int_or_zero d)) (and_from (is_itv m (itv_of m a)) (is_small (int_or_zero d)) (right_itv m a right) (delay_small d))
measured m SizeOf a d right = rolled m (Expr-F.SizeOf (itv_of m a) (int_or_zero d)) (and_from (is_itv m (itv_of m a)) (is_small (int_or_zero d)) (right_itv m a right) (delay_small d))
measured m LengthOf a d right = rolled m (Expr-F.LengthOf (itv_of m a) (int_or_zero d)) (and_from (is_itv m (itv_of m a)) (is_small (int_or_zero d)) (right_itv m a right) (delay_small d))

gathered : (m : Data) (g : Gather) (ps : List (Part m)) → list_any (λ b. b) (map (λ p. some_in_logic (is_of_other_sort m) p.0) ps) ≡ false
    → (gathers_some g (map (λ p. has_operands p.0) ps) && all_true (map (λ p. has_operands p.0) ps)) ≡ true → is_tree m (gather_of g (map (λ p. expr_of m p.0) ps)) ≡ true
gathered m gather.Max ps right shaped = rolled m (Expr-F.Max (map (λ p. expr_of m p.0) ps)) (some_trees m ps right shaped)
gathered m gather.Min ps right shaped = rolled m (Expr-F.Min (map (λ p. expr_of m p.0) ps)) (some_trees m ps right shaped)
gathered m gather.Sum ps right shaped = rolled m (Expr-F.Sum (map (λ p. expr_of m p.0) ps)) (trees m ps right shaped)

linked : (m : Data) (l : Link) (ps : List (Part m)) → list_any (λ b. b) (map (λ p. some_in_logic (is_of_other_sort m) p.0) ps) ≡ false
    → (not (is_empty (map (λ p. has_operands p.0) ps)) && all_true (map (λ p. has_operands p.0) ps)) ≡ true → is_tree m (link_of l (map (λ p. expr_of m p.0) ps)) ≡ true
linked m link.Times ps right shaped = rolled m (Expr-F.Product (map (λ p. expr_of m p.0) ps)) (some_trees m ps right shaped)
linked m link.And ps right shaped = rolled m (Expr-F.And (map (λ p. expr_of m p.0) ps)) (some_trees m ps right shaped)
linked m link.Or ps right shaped = rolled m (Expr-F.Or (map (λ p. expr_of m p.0) ps)) (some_trees m ps right shaped)

level : (m : Data) (y : Logic-F (Part m)) → logic_step (is_of_other_sort m) (map-Logic (Part m) Bool (λ p. some_in_logic (is_of_other_sort m) p.0) y) ≡ false
    → operands_step (map-Logic (Part m) Bool (λ p. has_operands p.0) y) ≡ true → is_tree m (expr_step m (map-Logic (Part m) Expr (λ p. expr_of m p.0) y)) ≡ true
level m (Lit n) right shaped = rolled m (Expr-F.Lit (pos (size_of n))) (literal_small n)
level m (Group p) right shaped = p.1 right shaped
level m (PresenceOf a) right shaped = rolled m (Expr-F.PresenceOf (itv_of m a)) (right_itv m a right)
level m (Measured how a d) right shaped = measured m how a d right
level m (Gathered g ps) right shaped = gathered m g ps right shaped
level m (Linked l ps) right shaped = linked m l ps right shaped
level m (Neg p) right shaped = rolled m (Expr-F.Neg (expr_of m p.0)) (p.1 right shaped)
level m (Sum ps) right shaped = rolled m (Expr-F.Sum (map (λ p. expr_of m p.0) ps)) (trees m ps right shaped)
level m (Compare op p q) right shaped = rolled m (Expr-F.Compare (compare_of op) (expr_of m p.0) (expr_of m q.0)) (two_trees m p q right shaped)
level m (Not p) right shaped = rolled m (Expr-F.Not (expr_of m p.0)) (p.1 right shaped)
level m (Implies p q) right shaped = rolled m (Expr-F.Implies (expr_of m p.0) (expr_of m q.0)) (two_trees m p q right shaped)

pub made : (m : Data) (e : Logic) → Made m e
made m = ind-Logic (Made m) (λ x y is. subst (λ z. Made m (roll-Logic z)) is (λ right shaped.
    rw (fold-roll-Logic Expr (expr_step m), composed (Made m) Expr (expr_of m) y)
    (level m y (rw (fold-roll-Logic Bool (logic_step (is_of_other_sort m)), composed (Made m) Bool (some_in_logic (is_of_other_sort m)) y) at right)
    (rw (fold-roll-Logic Bool operands_step, composed (Made m) Bool has_operands y) at shaped))))

there : {X : Type 0} (o : Option X) → is_none o ≡ false → is_some o ≡ true
there None h = cc
there (Some x) h = refl

pub expr_made : (m : Data) (e : Logic) → some_in_logic (is_of_other_sort m) e ≡ false → has_operands e ≡ true → is_none (hull_of m (expr_of m e)) ≡ false → is_expr m (expr_of m e) ≡ true
expr_made m e right shaped hull = and_from (is_tree m (expr_of m e)) (is_some (hull_of m (expr_of m e))) (made m e right shaped) (there (hull_of m (expr_of m e)) hull)
