-- The nodes counted on a tree are those of its expression.
use Rattle.std.proofs.Common.{◌≡◌, ℕ, ◌+◌, List, [], ◌∷◌, Option, map, fold, sum, sum_by, pos, refl, sym, ap, subst, ◌∙◌, arith}
use Rattle.std.proofs.lemmas.List.Sums.{sum_by-cons}
use Rattle.sched_model.specs.declared.types.Expr.{Expr}
use Rattle.sched_model.specs.declared.types.Expr.TheOpen.{Expr-F}
use Rattle.sched_model.specs.declared.types.Expr.TheFolds.{fold-roll-Expr, map-Expr}
use Rattle.sched_model.specs.declared.types.Expr.TheViews.{roll-Expr}
use Rattle.sched_model.specs.Data.{Data}
use Rattle.sched_model.specs.Valid.{count_step, node_count}
use Rattle.cpo_text.specs.declared.tree.Int.{Int}
use Rattle.cpo_text.specs.declared.expression.Measure.{Measure}
use Rattle.cpo_text.specs.declared.expression.Measure.TheVariants.{StartOf, EndOf, SizeOf, LengthOf}
use Rattle.cpo_text.specs.declared.expression.Gather.{Gather}
use Rattle.cpo_text.specs.declared.expression.Gather.TheVariants as gather
use Rattle.cpo_text.specs.declared.expression.Link.{Link}
use Rattle.cpo_text.specs.declared.expression.Link.TheVariants as link
use Rattle.cpo_text.specs.declared.expression.Logic.{Logic}
use Rattle.cpo_text.specs.declared.expression.Logic.TheOpen.{Logic-F}
use Rattle.cpo_text.specs.declared.expression.Logic.TheOpen.Logic-F.{Lit, Group, PresenceOf, Measured, Gathered, Linked, Neg, Sum, Compare, Not, Implies}
use Rattle.cpo_text.specs.declared.expression.Logic.TheFolds.{fold-roll-Logic, ind-Logic, map-Logic}
use Rattle.cpo_text.specs.declared.expression.Logic.TheViews.{roll-Logic}
use Rattle.cpo_text.specs.lemmas.Folds.{composed}
use Rattle.cpo_elab.specs.Named.{itv_of}
use Rattle.cpo_elab.specs.Literals.{size_of, int_or_zero}
use Rattle.cpo_elab.specs.Elaborated.{measure_of, gather_of, link_of, compare_of, expr_step, expr_of}
use Rattle.cpo_elab.specs.code.Drafts.{capped, plus}
use Rattle.cpo_elab.specs.code.Counted.{counted_step, counted}
use Rattle.cpo_elab.proofs.adding.Capped.{one_capped, plus_more}

abbrev Same : Data → Logic → Type 0
Same m e = counted e ≡ capped (node_count (expr_of m e))

abbrev Part : Data → Type 0
Part m = (e : Logic) × Same m e

rolled : (z : Expr-F Expr) (r : ℕ) → r ≡ capped (count_step (map-Expr Expr ℕ node_count z)) → r ≡ capped (node_count (roll-Expr z))
rolled z r h = h ∙ ap capped (sym (fold-roll-Expr ℕ count_step z))

over : (a x : ℕ) → a ≡ capped x → plus 1 a ≡ capped (1 + x)
over a x is = plus_more 1 a 1 x (plus 1 a) one_capped is refl

over_two : (a b x y : ℕ) → a ≡ capped x → b ≡ capped y → plus (plus 1 a) b ≡ capped ((1 + x) + y)
over_two a b x y first second = plus_more (plus 1 a) b (1 + x) y (plus (plus 1 a) b) (over a x first) second refl

regroup : (x n k t : ℕ) → t ≡ n + k → (x + n) + k ≡ x + t
regroup x n k t is = omega (arith, is)

totals : (m : Data) (a x : ℕ) (ps : List (Part m)) → a ≡ capped x → fold plus a (map (λ p. counted p.0) ps) ≡ capped (x + sum (map node_count (map (λ p. expr_of m p.0) ps)))
totals m a x [] is = is ∙ ap capped (omega arith)
totals m a x (p ∷ ps) is =
    totals m (plus a (counted p.0)) (x + node_count (expr_of m p.0)) ps (plus_more a (counted p.0) x (node_count (expr_of m p.0)) (plus a (counted p.0)) is p.1 refl)
    ∙ ap capped (regroup x (node_count (expr_of m p.0)) (sum (map node_count (map (λ p. expr_of m p.0) ps))) (sum (map node_count (map (λ p. expr_of m p.0) (p ∷ ps)))) (sum_by-cons (λ n. n) (node_count (expr_of m p.0)) (map node_count (map (λ p. expr_of m p.0) ps))))

listed : (m : Data) (ps : List (Part m)) → fold plus 1 (map (λ p. counted p.0) ps) ≡ capped (1 + sum (map node_count (map (λ p. expr_of m p.0) ps)))
listed m ps = totals m 1 1 ps one_capped

measured : (m : Data) (how : Measure) (a : List ℕ) (d : Option Int) → 1 ≡ capped (node_count (measure_of how (itv_of m a) (int_or_zero d)))
measured m StartOf a d = rolled (Expr-F.StartOf (itv_of m a) (int_or_zero d)) 1 one_capped
measured m EndOf a d = rolled (Expr-F.EndOf (itv_of m a) (int_or_zero d)) 1 one_capped
measured m SizeOf a d = rolled (Expr-F.SizeOf (itv_of m a) (int_or_zero d)) 1 one_capped
measured m LengthOf a d = rolled (Expr-F.LengthOf (itv_of m a) (int_or_zero d)) 1 one_capped

gathered : (m : Data) (g : Gather) (ps : List (Part m)) → fold plus 1 (map (λ p. counted p.0) ps) ≡ capped (node_count (gather_of g (map (λ p. expr_of m p.0) ps)))
gathered m gather.Max ps = rolled (Expr-F.Max (map (λ p. expr_of m p.0) ps)) _ (listed m ps)
gathered m gather.Min ps = rolled (Expr-F.Min (map (λ p. expr_of m p.0) ps)) _ (listed m ps)
gathered m gather.Sum ps = rolled (Expr-F.Sum (map (λ p. expr_of m p.0) ps)) _ (listed m ps)

linked : (m : Data) (l : Link) (ps : List (Part m)) → fold plus 1 (map (λ p. counted p.0) ps) ≡ capped (node_count (link_of l (map (λ p. expr_of m p.0) ps)))
linked m link.Times ps = rolled (Expr-F.Product (map (λ p. expr_of m p.0) ps)) _ (listed m ps)
linked m link.And ps = rolled (Expr-F.And (map (λ p. expr_of m p.0) ps)) _ (listed m ps)
linked m link.Or ps = rolled (Expr-F.Or (map (λ p. expr_of m p.0) ps)) _ (listed m ps)

level : (m : Data) (y : Logic-F (Part m)) → counted_step (map-Logic (Part m) ℕ (λ p. counted p.0) y) ≡ capped (node_count (expr_step m (map-Logic (Part m) Expr (λ p. expr_of m p.0) y)))
level m (Lit n) = rolled (Expr-F.Lit (pos (size_of n))) 1 one_capped
level m (Group p) = p.1
level m (PresenceOf a) = rolled (Expr-F.PresenceOf (itv_of m a)) 1 one_capped
level m (Measured how a d) = measured m how a d
level m (Gathered g ps) = gathered m g ps
level m (Linked l ps) = linked m l ps
level m (Neg p) = rolled (Expr-F.Neg (expr_of m p.0)) _ (over _ _ p.1)
level m (Sum ps) = rolled (Expr-F.Sum (map (λ p. expr_of m p.0) ps)) _ (listed m ps)
level m (Compare op p q) = rolled (Expr-F.Compare (compare_of op) (expr_of m p.0) (expr_of m q.0)) _ (over_two _ _ _ _ p.1 q.1)
level m (Not p) = rolled (Expr-F.Not (expr_of m p.0)) _ (over _ _ p.1)
level m (Implies p q) = rolled (Expr-F.Implies (expr_of m p.0) (expr_of m q.0)) _ (over_two _ _ _ _ p.1 q.1)

pub counted_nodes : (m : Data) (e : Logic) → counted e ≡ capped (node_count (expr_of m e))
counted_nodes m = ind-Logic (Same m) (λ x y is. subst (λ z. Same m (roll-Logic z)) is
    (rw (fold-roll-Logic ℕ counted_step, composed (Same m) ℕ counted y, fold-roll-Logic Expr (expr_step m), composed (Same m) Expr (expr_of m) y) (level m y)))

-- of several trees together

all_counted : (m : Data) (a x : ℕ) (es : List Logic) → a ≡ capped x → fold plus a (map counted es) ≡ capped (x + sum_by (λ e. node_count (expr_of m e)) es)
all_counted m a x [] is = is ∙ ap capped (omega arith)
all_counted m a x (e ∷ es) is =
    all_counted m (plus a (counted e)) (x + node_count (expr_of m e)) es (plus_more a (counted e) x (node_count (expr_of m e)) (plus a (counted e)) is (counted_nodes m e) refl)
    ∙ ap capped (regroup x (node_count (expr_of m e)) (sum_by (λ e. node_count (expr_of m e)) es) (sum_by (λ e. node_count (expr_of m e)) (e ∷ es)) (sum_by-cons (λ e. node_count (expr_of m e)) e es))

none_capped : 0 ≡ capped 0
unfolding capped
none_capped = omega arith

pub counted_together : (m : Data) (es : List Logic) → fold plus 0 (map counted es) ≡ capped (sum_by (λ e. node_count (expr_of m e)) es)
counted_together m es = all_counted m 0 0 es none_capped ∙ ap capped (omega arith)
