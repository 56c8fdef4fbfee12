-- The tree of an expression means that expression in each model with the same intervals.
use Rattle.std.proofs.Common.{◌≡◌, ◌∙◌, ℤ, pos, negsuc, Bool, true, not, ◌&&◌, List, [], ◌∷◌, map, Some, int_le, refl, sym, ap, ap₂, subst}
use Rattle.std.specs.List.{list_all}
use Rattle.std.proofs.lemmas.Bool.{and_parts}
use Rattle.sched_base.specs.declared.ids.Itv.{Itv}
use Rattle.sched_model.specs.declared.types.CompareOp.{CompareOp}
use Rattle.sched_model.specs.declared.types.CompareOp.TheVariants as op
use Rattle.sched_model.specs.declared.types.Expr.{Expr}
use Rattle.sched_model.specs.declared.types.Expr.TheOpen.{Expr-F}
use Rattle.sched_model.specs.declared.types.Expr.TheOpen.{Expr-F as expr}
use Rattle.sched_model.specs.declared.types.Expr.TheFolds.{map-Expr}
use Rattle.sched_model.specs.declared.types.Expr.TheViews.{roll-Expr}
use Rattle.sched_model.specs.Data.{Data}
use Rattle.sched_model.specs.Words.{is_empty}
use Rattle.sched_model.specs.Bounds.{is_small}
use Rattle.sched_model.specs.Valid.{IsValid, is_itv, is_expr, expr_step}
use Rattle.cpo_text.specs.Expressions.{are_many}
use Rattle.cpo_text.specs.declared.expression.Measure.{Measure}
use Rattle.cpo_text.specs.declared.expression.Measure.TheVariants as measure
use Rattle.cpo_text.specs.declared.expression.Gather.TheVariants as gather
use Rattle.cpo_text.specs.declared.expression.Link.{Link}
use Rattle.cpo_text.specs.declared.expression.Link.TheVariants as link
use Rattle.cpo_text.specs.declared.expression.Logic.{Logic}
use Rattle.cpo_text.specs.declared.expression.Logic.TheOpen.{Logic-F}
use Rattle.cpo_text.specs.declared.expression.Logic.TheOpen.Logic-F.{Lit, Group, PresenceOf, Measured, Gathered, Linked, Neg, Sum, Compare, Not, Implies}
use Rattle.cpo_text.specs.declared.expression.Logic.TheFolds.{fold-roll-Logic, map-Logic}
use Rattle.cpo_text.specs.declared.expression.Logic.TheViews.{roll-Logic}
use Rattle.cpo_elab.specs.Elaborated as meant
use Rattle.cpo_elab.specs.Elaborated.{measure_of, link_of, compare_of, expr_of}
use Rattle.sched_text.specs.Pieces.{interval_name}
use Rattle.read_back.specs.Trees.{int_tree, Told, composed, wholes, operands, summed, comparison_tree, measured, told_step, told}
use Rattle.read_back.specs.Written.{written_step, is_written_expr}
use Rattle.read_back.proofs.Names.{itv_back}
use Rattle.read_back.proofs.expr.Folds.{Known, made, folded, by_levels, Thrice, of_plain, of_composed, of_negated, is_tree, is_written_tree}
use Rattle.read_back.proofs.Numbers.{size_back, int_back, small_literal}

-- One level.

abbrev Means : Data → Expr → Logic → Type 0
Means n e l = expr_of n l ≡ e

abbrev Back : Data → Data → Expr → Type 0
Back m n e = is_tree m e ≡ true → is_written_tree e ≡ true → Thrice (Means n e) (told m e)

abbrev Part : Data → Data → Type 0
Part m n = Known (Back m n)

out : (n : Data) (z : Logic-F Logic) → expr_of n (roll-Logic z) ≡ meant.expr_step n (map-Logic Logic Expr (expr_of n) z)
out n z = fold-roll-Logic Expr (meant.expr_step n) z

group : (n : Data) (e : Expr) (l : Logic) → Means n e l → Means n e (roll-Logic (Group l))
group n e l h = out n (Group l) ∙ h

abbrev exprs : (m n : Data) → List (Part m n) → List Expr
exprs m n ps = map (λ p. p.0) ps

abbrev tolds : (m n : Data) → List (Part m n) → List Told
tolds m n ps = map (λ p. told m p.0) ps

record Rows (n : Data) (es : List Expr) (ts : List Told) : Type 0 where
  wholes_mean : map (expr_of n) (wholes ts) ≡ es
  operands_mean : map (expr_of n) (operands ts) ≡ es
  laters_mean : map (expr_of n) (map (λ t. t.later) ts) ≡ es

each : (m n : Data) (ps : List (Part m n)) → list_all (λ b. b) (map (λ p. is_tree m p.0) ps) ≡ true → list_all (λ b. b) (map (λ p. is_written_tree p.0) ps) ≡ true → Rows n (exprs m n ps) (tolds m n ps)
each m n [] h w = record { wholes_mean = refl; operands_mean = refl; laters_mean = refl }
each m n (p ∷ ps) h w =
    let tree = and_parts (is_tree m p.0) _ h in
    let written = and_parts (is_written_tree p.0) _ w in
    let first = p.1 tree.0 written.0 in
    let rest = each m n ps tree.1 written.1 in
    record { wholes_mean = λ i. first.whole i ∷ rest.wholes_mean i; operands_mean = λ i. first.operand i ∷ rest.operands_mean i; laters_mean = λ i. first.later i ∷ rest.laters_mean i }

sum_of : (m n : Data) (ps : List (Part m n)) → list_all (λ b. b) (map (λ p. is_tree m p.0) ps) ≡ true → list_all (λ b. b) (map (λ p. is_written_tree p.0) ps) ≡ true
    → Thrice (Means n (roll-Expr (expr.Sum (exprs m n ps)))) (summed (tolds m n ps))
sum_of m n [] h w = of_composed _ (group n _) _ (out n (Gathered gather.Sum []))
sum_of m n (p ∷ []) h w =
    of_composed _ (group n _) _ (out n (Gathered gather.Sum ((told m p.0).whole ∷ [])) ∙ ap (λ es. roll-Expr (expr.Sum es)) (each m n (p ∷ []) h w).wholes_mean)
sum_of m n (p ∷ q ∷ ps) h w =
    let tree = and_parts (is_tree m p.0) _ h in
    let written = and_parts (is_written_tree p.0) _ w in
    let first = (p.1 tree.0 written.0).operand in
    let rest = (each m n (q ∷ ps) tree.1 written.1).laters_mean in
    of_composed _ (group n _) _ (out n (Sum ((told m p.0).operand ∷ map (λ t. t.later) (tolds m n (q ∷ ps)))) ∙ (λ i. roll-Expr (expr.Sum (first i ∷ rest i))))

measured_back : (m n : Data) → IsValid m → n.intervals ≡ m.intervals → (how : Measure) (x : Itv) (d : ℤ) → (is_itv m x && is_small d) ≡ true → Thrice (Means n (measure_of how x d)) (measured m how x d)
measured_back m n valid same how x d h =
    let parts = and_parts (is_itv m x) (is_small d) h in
    of_plain _ _ (out n (Measured how (interval_name m x) (Some (int_tree d))) ∙ ap₂ (measure_of how) (itv_back m n same valid x parts.0) (int_back d parts.1))

literal_back : (m n : Data) (z : ℤ) → is_small z ≡ true → int_le (pos 0) z ≡ true → Thrice (Means n (roll-Expr (expr.Lit z))) (told_step m (expr.Lit z))
literal_back m n (pos k) h w = of_plain _ _ (out n (Lit (Some k)) ∙ ap (λ j. roll-Expr (expr.Lit (pos j))) (size_back k (small_literal (pos k) h)))
literal_back m n (negsuc k) h w = cc

linked_back : (m n : Data) (l : Link) (ps : List (Part m n)) → (not (is_empty (map (λ p. is_tree m p.0) ps)) && list_all (λ b. b) (map (λ p. is_tree m p.0) ps)) ≡ true
    → (are_many (map (λ p. is_written_tree p.0) ps) && list_all (λ b. b) (map (λ p. is_written_tree p.0) ps)) ≡ true
    → Thrice (Means n (link_of l (exprs m n ps))) (composed (roll-Logic (Linked l (operands (tolds m n ps)))))
linked_back m n l ps h w =
    of_composed _ (group n _) _ (out n (Linked l (operands (tolds m n ps))) ∙ ap (link_of l) (each m n ps (and_parts _ _ h).1 (and_parts _ _ w).1).operands_mean)

compared : (o : CompareOp) → compare_of (comparison_tree o) ≡ o
compared op.Eq = refl
compared op.Ne = refl
compared op.Le = refl
compared op.Ge = refl
compared op.Lt = refl
compared op.Gt = refl

level : (m n : Data) → IsValid m → n.intervals ≡ m.intervals → (y : Expr-F (Part m n)) → expr_step m (map-Expr (Part m n) Bool (λ p. is_tree m p.0) y) ≡ true
    → written_step (map-Expr (Part m n) Bool (λ p. is_written_tree p.0) y) ≡ true → Thrice (Means n (made (Back m n) y)) (told_step m (map-Expr (Part m n) Told (λ p. told m p.0) y))
level m n valid same (expr.Lit z) h w = literal_back m n z h w
level m n valid same (expr.StartOf x d) h w = measured_back m n valid same measure.StartOf x d h
level m n valid same (expr.EndOf x d) h w = measured_back m n valid same measure.EndOf x d h
level m n valid same (expr.SizeOf x d) h w = measured_back m n valid same measure.SizeOf x d h
level m n valid same (expr.LengthOf x d) h w = measured_back m n valid same measure.LengthOf x d h
level m n valid same (expr.PresenceOf x) h w = of_plain _ _ (out n (PresenceOf (interval_name m x)) ∙ ap (λ a. roll-Expr (expr.PresenceOf a)) (itv_back m n same valid x h))
level m n valid same (expr.Neg p) h w = of_negated _ (group n _) _ (out n (Neg (told m p.0).operand) ∙ ap (λ e. roll-Expr (expr.Neg e)) (p.1 h w).operand)
level m n valid same (expr.Sum ps) h w = sum_of m n ps h w
level m n valid same (expr.Product ps) h w = linked_back m n link.Times ps h w
level m n valid same (expr.Max ps) h w = of_plain _ _ (out n (Gathered gather.Max (wholes (tolds m n ps))) ∙ ap (λ es. roll-Expr (expr.Max es)) (each m n ps (and_parts _ _ h).1 w).wholes_mean)
level m n valid same (expr.Min ps) h w = of_plain _ _ (out n (Gathered gather.Min (wholes (tolds m n ps))) ∙ ap (λ es. roll-Expr (expr.Min es)) (each m n ps (and_parts _ _ h).1 w).wholes_mean)
level m n valid same (expr.Compare o p q) h w =
    let tree = and_parts (is_tree m p.0) (is_tree m q.0) h in
    let written = and_parts (is_written_tree p.0) (is_written_tree q.0) w in
    let first = (p.1 tree.0 written.0).operand in
    let second = (q.1 tree.1 written.1).operand in
    of_composed _ (group n _) _ (out n (Compare (comparison_tree o) (told m p.0).operand (told m q.0).operand) ∙ (λ i. roll-Expr (expr.Compare (compared o i) (first i) (second i))))
level m n valid same (expr.Not p) h w = of_composed _ (group n _) _ (out n (Not (told m p.0).operand) ∙ ap (λ e. roll-Expr (expr.Not e)) (p.1 h w).operand)
level m n valid same (expr.And ps) h w = linked_back m n link.And ps h w
level m n valid same (expr.Or ps) h w = linked_back m n link.Or ps h w
level m n valid same (expr.Implies p q) h w =
    let tree = and_parts (is_tree m p.0) (is_tree m q.0) h in
    let written = and_parts (is_written_tree p.0) (is_written_tree q.0) w in
    let first = (p.1 tree.0 written.0).operand in
    let second = (q.1 tree.1 written.1).operand in
    of_composed _ (group n _) _ (out n (Implies (told m p.0).operand (told m q.0).operand) ∙ (λ i. roll-Expr (expr.Implies (first i) (second i))))

tree_returns : (m n : Data) → IsValid m → n.intervals ≡ m.intervals → (e : Expr) → Back m n e
tree_returns m n valid same = by_levels (Back m n) (λ y h w. subst (Thrice (Means n (made (Back m n) y))) (sym (folded (Back m n) Told (told_step m) y))
    (level m n valid same y (sym (folded (Back m n) Bool (expr_step m) y) ∙ h) (sym (folded (Back m n) Bool written_step y) ∙ w)))

pub expressions_return : (m n : Data) (e : Expr) → IsValid m → n.intervals ≡ m.intervals → is_expr m e ≡ true → is_written_expr e ≡ true → expr_of n (told m e).whole ≡ e
expressions_return m n e valid same h w = (tree_returns m n valid same e (and_parts (is_tree m e) _ h).0 (and_parts (is_written_tree e) _ w).0).whole
