-- An expression of a text is as a text can write it, and names intervals as its tree does.
use Rattle.std.proofs.Common.{◌≡◌, ℕ, suc, pos, int_le, nat_le, Bool, true, ◌&&◌, List, [], ◌∷◌, map, fold, Option, is_some, refl, sym, ap, subst, ◌∙◌, arith}
use Rattle.std.specs.List.{list_all}
use Rattle.std.proofs.lemmas.Int.{ints}
use Rattle.std.proofs.lemmas.List.{length-map}
use Rattle.std.proofs.lemmas.Bool.{and_parts, and_from}
use Rattle.sched_model.specs.declared.types.Expr.{Expr}
use Rattle.sched_model.specs.declared.types.Expr.TheOpen.{Expr-F}
use Rattle.sched_model.specs.declared.types.Expr.TheFolds.{fold-roll-Expr, map-Expr}
use Rattle.sched_model.specs.declared.types.Expr.TheViews.{roll-Expr}
use Rattle.sched_model.specs.Data.{Data}
use Rattle.cpo_text.specs.Expressions.{at_least, all_at_least, are_many, gathers, link_level, level_step, level}
use Rattle.cpo_text.specs.declared.tree.Int.{Int}
use Rattle.cpo_text.specs.declared.expression.Measure.{Measure}
use Rattle.cpo_text.specs.declared.expression.Measure.TheVariants.{StartOf, EndOf, SizeOf, LengthOf}
use Rattle.cpo_text.specs.declared.expression.Gather.{Gather}
use Rattle.cpo_text.specs.declared.expression.Gather.TheVariants as gather
use Rattle.cpo_text.specs.declared.expression.Link.{Link}
use Rattle.cpo_text.specs.declared.expression.Link.TheVariants as link
use Rattle.cpo_text.specs.declared.expression.Logic.{Logic}
use Rattle.cpo_text.specs.declared.expression.Logic.TheOpen.{Logic-F}
use Rattle.cpo_text.specs.declared.expression.Logic.TheOpen.Logic-F.{Lit, Group, PresenceOf, Measured, Gathered, Linked, Neg, Sum, Compare, Not, Implies}
use Rattle.cpo_text.specs.declared.expression.Logic.TheFolds.{fold-roll-Logic, ind-Logic, map-Logic}
use Rattle.cpo_text.specs.declared.expression.Logic.TheViews.{roll-Logic}
use Rattle.cpo_text.specs.lemmas.Folds.{composed}
use Rattle.cpo_text.specs.lemmas.Levels.{so, has_level}
use Rattle.cpo_elab.specs.declared.factors.Factor.{Factor}
use Rattle.cpo_elab.specs.declared.factors.Factor.TheVariants.{Free, Named}
use Rattle.cpo_elab.specs.Named.{itv_of}
use Rattle.cpo_elab.specs.Literals.{size_of, int_or_zero}
use Rattle.cpo_elab.specs.Elaborated.{measure_of, gather_of, link_of, compare_of, expr_step, expr_of}
use Rattle.cpo_elab.specs.Factors.{beside, all_beside, linked, times, factor_of}
use Rattle.cpo_elab.specs.Factors as tree
use Rattle.read_back.specs.Written.{written_step, factor_step, factor}
use Rattle.read_back.proofs.expr.Folds.{is_written_tree}

-- literals have no sign, and there are operands enough

abbrev Written : Data → Logic → Type 0
Written m e = is_some (level e) ≡ true → is_written_tree (expr_of m e) ≡ true

abbrev Part : Data → Type 0
Part m = (e : Logic) × Written m e

plain_node : (z : Expr-F Expr) → written_step (map-Expr Expr Bool is_written_tree z) ≡ true → is_written_tree (roll-Expr z) ≡ true
plain_node z h = fold-roll-Expr Bool written_step z ∙ h

abbrev levels : (m : Data) → List (Part m) → List (Option ℕ)
levels m ps = map (λ p. level p.0) ps

abbrev exprs : (m : Data) → List (Part m) → List Expr
exprs m ps = map (λ p. expr_of m p.0) ps

one : (m : Data) (p : Part m) (n : ℕ) → at_least n (level p.0) ≡ true → is_written_tree (expr_of m p.0) ≡ true
one m p n h = p.1 (has_level n (level p.0) h)

each : (m : Data) (ps : List (Part m)) (n : ℕ) → all_at_least n (levels m ps) ≡ true → list_all (λ b. b) (map is_written_tree (exprs m ps)) ≡ true
each m [] n h = refl
each m (p ∷ ps) n h = let parts = and_parts (at_least n (level p.0)) (all_at_least n (levels m ps)) h in and_from (is_written_tree (expr_of m p.0)) _ (one m p n parts.0) (each m ps n parts.1)

many : (m : Data) (ps : List (Part m)) → are_many (levels m ps) ≡ true → are_many (map is_written_tree (exprs m ps)) ≡ true
many m ps h = ap (nat_le 2) (length-map (exprs m ps) is_written_tree ∙ length-map ps (λ p. expr_of m p.0) ∙ sym (length-map ps (λ p. level p.0))) ∙ h

literal_plain : (n : ℕ) → int_le (pos 0) (pos n) ≡ true
literal_plain n = grind (arith, ints)

measured : (m : Data) (how : Measure) (a : List ℕ) (d : Option Int) → is_written_tree (measure_of how (itv_of m a) (int_or_zero d)) ≡ true
measured m StartOf a d = plain_node (Expr-F.StartOf (itv_of m a) (int_or_zero d)) refl
measured m EndOf a d = plain_node (Expr-F.EndOf (itv_of m a) (int_or_zero d)) refl
measured m SizeOf a d = plain_node (Expr-F.SizeOf (itv_of m a) (int_or_zero d)) refl
measured m LengthOf a d = plain_node (Expr-F.LengthOf (itv_of m a) (int_or_zero d)) refl

gathered : (m : Data) (g : Gather) (ps : List (Part m)) → all_at_least 0 (levels m ps) ≡ true → is_written_tree (gather_of g (exprs m ps)) ≡ true
gathered m gather.Max ps h = plain_node (Expr-F.Max (exprs m ps)) (each m ps 0 h)
gathered m gather.Min ps h = plain_node (Expr-F.Min (exprs m ps)) (each m ps 0 h)
gathered m gather.Sum ps h = plain_node (Expr-F.Sum (exprs m ps)) (each m ps 0 h)

linked_plain : (m : Data) (l : Link) (ps : List (Part m)) → (are_many (map is_written_tree (exprs m ps)) && list_all (λ b. b) (map is_written_tree (exprs m ps))) ≡ true → is_written_tree (link_of l (exprs m ps)) ≡ true
linked_plain m link.Times ps h = plain_node (Expr-F.Product (exprs m ps)) h
linked_plain m link.And ps h = plain_node (Expr-F.And (exprs m ps)) h
linked_plain m link.Or ps h = plain_node (Expr-F.Or (exprs m ps)) h

node : (m : Data) (y : Logic-F (Part m)) → is_some (level_step (map-Logic (Part m) (Option ℕ) (λ p. level p.0) y)) ≡ true → is_written_tree (expr_step m (map-Logic (Part m) Expr (λ p. expr_of m p.0) y)) ≡ true
node m (Lit n) h = plain_node (Expr-F.Lit (pos (size_of n))) (literal_plain (size_of n))
node m (Group p) h = one m p 0 (so _ 7 h)
node m (PresenceOf a) h = plain_node (Expr-F.PresenceOf (itv_of m a)) refl
node m (Measured how a d) h = measured m how a d
node m (Gathered g ps) h = gathered m g ps (and_parts (gathers g (levels m ps)) (all_at_least 0 (levels m ps)) (so _ 7 h)).1
node m (Linked l ps) h =
    let parts = and_parts (are_many (levels m ps)) (all_at_least (suc (link_level l)) (levels m ps)) (so _ (link_level l) h) in
    linked_plain m l ps (and_from (are_many (map is_written_tree (exprs m ps))) _ (many m ps parts.0) (each m ps (suc (link_level l)) parts.1))
node m (Neg p) h = plain_node (Expr-F.Neg (expr_of m p.0)) (one m p 6 (so _ 5 h))
node m (Sum ps) h = plain_node (Expr-F.Sum (exprs m ps)) (each m ps 5 (and_parts (are_many (levels m ps)) (all_at_least 5 (levels m ps)) (so _ 4 h)).1)
node m (Compare op p q) h =
    let parts = and_parts (at_least 4 (level p.0)) (at_least 4 (level q.0)) (so _ 3 h) in
    plain_node (Expr-F.Compare (compare_of op) (expr_of m p.0) (expr_of m q.0)) (and_from (is_written_tree (expr_of m p.0)) (is_written_tree (expr_of m q.0)) (one m p 4 parts.0) (one m q 4 parts.1))
node m (Not p) h = plain_node (Expr-F.Not (expr_of m p.0)) (one m p 3 (so _ 3 h))
node m (Implies p q) h =
    let parts = and_parts (at_least 1 (level p.0)) (at_least 0 (level q.0)) (so _ 0 h) in
    plain_node (Expr-F.Implies (expr_of m p.0) (expr_of m q.0)) (and_from (is_written_tree (expr_of m p.0)) (is_written_tree (expr_of m q.0)) (one m p 1 parts.0) (one m q 0 parts.1))

written : (m : Data) (e : Logic) → Written m e
written m = ind-Logic (Written m) (λ x y is. subst (λ z. Written m (roll-Logic z)) is (λ h.
    rw (fold-roll-Logic Expr (expr_step m), composed (Written m) Expr (expr_of m) y)
    (node m y (rw (fold-roll-Logic (Option ℕ) level_step, composed (Written m) (Option ℕ) level y) at h))))

pub expr_plain : (m : Data) (e : Logic) (n : ℕ) → at_least n (level e) ≡ true → is_written_tree (expr_of m e) ≡ true
expr_plain m e n h = written m e (has_level n (level e) h)

-- which expressions name an interval

abbrev Same : Data → Logic → Type 0
Same m e = factor (expr_of m e) ≡ factor_of e

abbrev SamePart : Data → Type 0
SamePart m = (e : Logic) × Same m e

factor_node : (z : Expr-F Expr) (f : Factor) → factor_step (map-Expr Expr Factor factor z) ≡ f → factor (roll-Expr z) ≡ f
factor_node z f h = fold-roll-Expr Factor factor_step z ∙ h

same_each : (m : Data) (ps : List (SamePart m)) → map factor (map (λ p. expr_of m p.0) ps) ≡ map (λ p. factor_of p.0) ps
same_each m [] = refl
same_each m (p ∷ ps) = λ i. p.1 i ∷ same_each m ps i

same_measured : (m : Data) (how : Measure) (a : List ℕ) (d : Option Int) → factor (measure_of how (itv_of m a) (int_or_zero d)) ≡ Named
same_measured m StartOf a d = factor_node (Expr-F.StartOf (itv_of m a) (int_or_zero d)) Named refl
same_measured m EndOf a d = factor_node (Expr-F.EndOf (itv_of m a) (int_or_zero d)) Named refl
same_measured m SizeOf a d = factor_node (Expr-F.SizeOf (itv_of m a) (int_or_zero d)) Named refl
same_measured m LengthOf a d = factor_node (Expr-F.LengthOf (itv_of m a) (int_or_zero d)) Named refl

same_gathered : (m : Data) (g : Gather) (es : List Expr) (fs : List Factor) → map factor es ≡ fs → factor (gather_of g es) ≡ all_beside fs
same_gathered m gather.Max es fs h = factor_node (Expr-F.Max es) (all_beside fs) (ap all_beside h)
same_gathered m gather.Min es fs h = factor_node (Expr-F.Min es) (all_beside fs) (ap all_beside h)
same_gathered m gather.Sum es fs h = factor_node (Expr-F.Sum es) (all_beside fs) (ap all_beside h)

same_linked : (m : Data) (l : Link) (es : List Expr) (fs : List Factor) → map factor es ≡ fs → factor (link_of l es) ≡ linked l fs
same_linked m link.Times es fs h = factor_node (Expr-F.Product es) (fold times Free fs) (ap (fold times Free) h)
same_linked m link.And es fs h = factor_node (Expr-F.And es) (all_beside fs) (ap all_beside h)
same_linked m link.Or es fs h = factor_node (Expr-F.Or es) (all_beside fs) (ap all_beside h)

same_node : (m : Data) (y : Logic-F (SamePart m)) → factor (expr_step m (map-Logic (SamePart m) Expr (λ p. expr_of m p.0) y)) ≡ tree.factor_step (map-Logic (SamePart m) Factor (λ p. factor_of p.0) y)
same_node m (Lit n) = factor_node (Expr-F.Lit (pos (size_of n))) Free refl
same_node m (Group p) = p.1
same_node m (PresenceOf a) = factor_node (Expr-F.PresenceOf (itv_of m a)) Named refl
same_node m (Measured how a d) = same_measured m how a d
same_node m (Gathered g ps) = same_gathered m g (map (λ p. expr_of m p.0) ps) (map (λ p. factor_of p.0) ps) (same_each m ps)
same_node m (Linked l ps) = same_linked m l (map (λ p. expr_of m p.0) ps) (map (λ p. factor_of p.0) ps) (same_each m ps)
same_node m (Neg p) = factor_node (Expr-F.Neg (expr_of m p.0)) (factor_of p.0) p.1
same_node m (Sum ps) = factor_node (Expr-F.Sum (map (λ p. expr_of m p.0) ps)) (all_beside (map (λ p. factor_of p.0) ps)) (ap all_beside (same_each m ps))
same_node m (Compare op p q) = factor_node (Expr-F.Compare (compare_of op) (expr_of m p.0) (expr_of m q.0)) (beside (factor_of p.0) (factor_of q.0)) (λ i. beside (p.1 i) (q.1 i))
same_node m (Not p) = factor_node (Expr-F.Not (expr_of m p.0)) (factor_of p.0) p.1
same_node m (Implies p q) = factor_node (Expr-F.Implies (expr_of m p.0) (expr_of m q.0)) (beside (factor_of p.0) (factor_of q.0)) (λ i. beside (p.1 i) (q.1 i))

pub same_factor : (m : Data) (e : Logic) → factor (expr_of m e) ≡ factor_of e
same_factor m = ind-Logic (Same m) (λ x y is. subst (λ z. Same m (roll-Logic z)) is
    (rw (fold-roll-Logic Expr (expr_step m), fold-roll-Logic Factor tree.factor_step, composed (Same m) Expr (expr_of m) y, composed (Same m) Factor factor_of y) (same_node m y)))
