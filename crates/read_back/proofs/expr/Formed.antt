-- The tree of an expression has the brackets that the grammar asks for.
use Rattle.std.proofs.Common.{◌≡◌, ◌∙◌, ℕ, suc, ℤ, pos, negsuc, Bool, true, false, not, ◌&&◌, nat_le, List, [], ◌∷◌, map, length, Option, Some, None, refl, sym, ap, subst, arith}
use Rattle.std.specs.List.{list_all}
use Rattle.std.proofs.lemmas.Simd.{map-map}
use Rattle.std.proofs.lemmas.Bool.Decides.{nat_tests}
use Rattle.std.proofs.lemmas.Bool.{and_parts, and_from}
use Rattle.sched_model.specs.declared.types.Expr.{Expr}
use Rattle.sched_model.specs.declared.types.Expr.TheOpen.{Expr-F, Expr-F as expr}
use Rattle.sched_model.specs.declared.types.Expr.TheFolds.{map-Expr}
use Rattle.sched_model.specs.Data.{Data}
use Rattle.sched_model.specs.Words.{is_empty}
use Rattle.sched_model.specs.Valid.{is_expr, expr_step}
use Rattle.cpo_text.specs.Expressions.{at_least, all_at_least, if_so, are_many, link_level, level_step, level}
use Rattle.cpo_text.specs.declared.expression.Gather.TheVariants as gather
use Rattle.cpo_text.specs.declared.expression.Link.{Link}
use Rattle.cpo_text.specs.declared.expression.Link.TheVariants as link
use Rattle.cpo_text.specs.declared.expression.Logic.{Logic}
use Rattle.cpo_text.specs.declared.expression.Logic.TheOpen.{Logic-F}
use Rattle.cpo_text.specs.declared.expression.Logic.TheOpen.Logic-F.{Lit, Group, PresenceOf, Measured, Gathered, Linked, Neg, Sum, Compare, Not, Implies}
use Rattle.cpo_text.specs.declared.expression.Logic.TheFolds.{fold-roll-Logic, map-Logic}
use Rattle.cpo_text.specs.declared.expression.Logic.TheViews.{roll-Logic}
use Rattle.read_back.specs.Trees.{Told, plain, composed, negated, wholes, operands, summed, comparison_tree, told_step, told}
use Rattle.read_back.specs.Written.{written_step, is_written_expr}
use Rattle.read_back.proofs.expr.Folds.{Known, folded, by_levels, is_tree, is_written_tree}

-- how tightly each way of telling an expression holds together
record Formed (t : Told) : Type 0 where
  whole : at_least 0 (level t.whole) ≡ true
  operand : at_least 7 (level t.operand) ≡ true
  later : at_least 5 (level t.later) ≡ true

weaker : (n k : ℕ) → nat_le n k ≡ true → (o : Option ℕ) → at_least k o ≡ true → at_least n o ≡ true
weaker n k less None h = cc
weaker n k less (Some j) h = grind (arith, nat_tests)

out : (z : Logic-F Logic) → level (roll-Logic z) ≡ level_step (map-Logic Logic (Option ℕ) level z)
out z = fold-roll-Logic (Option ℕ) level_step z

so : (b : Bool) (n : ℕ) → b ≡ true → if_so b n ≡ Some n
so true n h = refl
so false n h = cc

grouped : (l : Logic) → at_least 0 (level l) ≡ true → level (roll-Logic (Group l)) ≡ Some 7
grouped l h = out (Group l) ∙ so (at_least 0 (level l)) 7 h

plain_formed : (l : Logic) → level l ≡ Some 7 → Formed (plain l)
plain_formed l h = record { whole = ap (at_least 0) h; operand = ap (at_least 7) h; later = ap (at_least 5) h }

composed_formed : (l : Logic) (n : ℕ) → level l ≡ Some n → Formed (composed l)
composed_formed l n h =
    let whole : at_least 0 (level l) ≡ true = ap (at_least 0) h ∙ none_below n in
    record { whole = whole; operand = ap (at_least 7) (grouped l whole); later = ap (at_least 5) (grouped l whole) } where
      none_below : (n : ℕ) → nat_le 0 n ≡ true
      none_below n = grind (arith, nat_tests)

negated_formed : (l : Logic) → level l ≡ Some 5 → Formed (negated l)
negated_formed l h =
    let whole : at_least 0 (level l) ≡ true = ap (at_least 0) h in
    record { whole = whole; operand = ap (at_least 7) (grouped l whole); later = ap (at_least 5) h }

abbrev Forms : Data → Expr → Type 0
Forms m e = is_tree m e ≡ true → is_written_tree e ≡ true → Formed (told m e)

abbrev Part : Data → Type 0
Part m = Known (Forms m)

abbrev tolds : (m : Data) → List (Part m) → List Told
tolds m ps = map (λ p. told m p.0) ps

record Rows (ts : List Told) : Type 0 where
  wholes_formed : all_at_least 0 (map level (wholes ts)) ≡ true
  operands_formed : (n : ℕ) → nat_le n 7 ≡ true → all_at_least n (map level (operands ts)) ≡ true
  laters_formed : all_at_least 5 (map level (map (λ t. t.later) ts)) ≡ true

each : (m : Data) (ps : List (Part m)) → list_all (λ b. b) (map (λ p. is_tree m p.0) ps) ≡ true → list_all (λ b. b) (map (λ p. is_written_tree p.0) ps) ≡ true → Rows (tolds m ps)
each m [] h w = record { wholes_formed = refl; operands_formed = λ n few. refl; laters_formed = refl }
each m (p ∷ ps) h w =
    let tree = and_parts (is_tree m p.0) _ h in
    let written = and_parts (is_written_tree p.0) _ w in
    let first = p.1 tree.0 written.0 in
    let rest = each m ps tree.1 written.1 in
    record {
      wholes_formed = and_from _ _ first.whole rest.wholes_formed;
      operands_formed = λ n few. and_from _ _ (weaker n 7 few (level (told m p.0).operand) first.operand) (rest.operands_formed n few);
      laters_formed = and_from _ _ first.later rest.laters_formed;
    }

two_or_more : (n : ℕ) → nat_le 2 (suc (suc n)) ≡ true
two_or_more n = grind (arith, nat_tests)

many_of : {X : Type 0} (f : X → Bool) (g : X → Option ℕ) (xs : List X) → are_many (map f xs) ≡ true → are_many (map g xs) ≡ true
many_of f g [] h = h
many_of f g (x ∷ []) h = h
many_of f g (x ∷ y ∷ xs) h = two_or_more (length (map g xs))

some_of : {X : Type 0} (f : X → Bool) (g : X → Option ℕ) (xs : List X) → not (is_empty (map f xs)) ≡ true → nat_le 1 (length (map g xs)) ≡ true
some_of f g [] h = cc
some_of f g (x ∷ xs) h = one_or_more (length (map g xs)) where
  one_or_more : (n : ℕ) → nat_le 1 (suc n) ≡ true
  one_or_more n = grind (arith, nat_tests)

sum_formed : (m : Data) (ps : List (Part m)) → list_all (λ b. b) (map (λ p. is_tree m p.0) ps) ≡ true → list_all (λ b. b) (map (λ p. is_written_tree p.0) ps) ≡ true → Formed (summed (tolds m ps))
sum_formed m [] h w = composed_formed _ 7 (out (Gathered gather.Sum []))
sum_formed m (p ∷ []) h w = composed_formed _ 7 (out (Gathered gather.Sum ((told m p.0).whole ∷ [])) ∙ so _ 7 (each m (p ∷ []) h w).wholes_formed)
sum_formed m (p ∷ q ∷ ps) h w =
    let tree = and_parts (is_tree m p.0) _ h in
    let written = and_parts (is_written_tree p.0) _ w in
    let first = weaker 5 7 refl (level (told m p.0).operand) (p.1 tree.0 written.0).operand in
    let rest = (each m (q ∷ ps) tree.1 written.1).laters_formed in
    let terms : List Logic = (told m p.0).operand ∷ map (λ t. t.later) (tolds m (q ∷ ps)) in
    composed_formed _ 4 (out (Sum terms) ∙ so _ 4 (and_from (are_many (map level terms)) (all_at_least 5 (map level terms)) (two_or_more _) (and_from _ _ first rest)))

link_few : (l : Link) → nat_le (suc (link_level l)) 7 ≡ true
link_few link.Times = refl
link_few link.And = refl
link_few link.Or = refl

linked_formed : (m : Data) (l : Link) (ps : List (Part m)) → (not (is_empty (map (λ p. is_tree m p.0) ps)) && list_all (λ b. b) (map (λ p. is_tree m p.0) ps)) ≡ true
    → (are_many (map (λ p. is_written_tree p.0) ps) && list_all (λ b. b) (map (λ p. is_written_tree p.0) ps)) ≡ true → Formed (composed (roll-Logic (Linked l (operands (tolds m ps)))))
linked_formed m l ps h w =
    let written = and_parts (are_many (map (λ p. is_written_tree p.0) ps)) _ w in
    let rows = each m ps (and_parts _ _ h).1 written.1 in
    let levels : map level (operands (tolds m ps)) ≡ map (λ p. level (told m p.0).operand) ps = ap (map level) (map-map (λ t. t.operand) (λ p. told m p.0) ps) ∙ map-map level (λ p. (told m p.0).operand) ps in
    composed_formed _ (link_level l) (out (Linked l (operands (tolds m ps))) ∙ so _ (link_level l) (and_from _ _
    (ap are_many levels ∙ many_of (λ p. is_written_tree p.0) (λ p. level (told m p.0).operand) ps written.0)
    (rows.operands_formed (suc (link_level l)) (link_few l))))

-- the greatest or the least of some
some_formed : (m : Data) (ps : List (Part m)) → (not (is_empty (map (λ p. is_tree m p.0) ps)) && list_all (λ b. b) (map (λ p. is_tree m p.0) ps)) ≡ true
    → list_all (λ b. b) (map (λ p. is_written_tree p.0) ps) ≡ true → (nat_le 1 (length (map level (wholes (tolds m ps)))) && all_at_least 0 (map level (wholes (tolds m ps)))) ≡ true
some_formed m ps h w =
    let tree = and_parts (not (is_empty (map (λ p. is_tree m p.0) ps))) _ h in
    let levels : map level (wholes (tolds m ps)) ≡ map (λ p. level (told m p.0).whole) ps = ap (map level) (map-map (λ t. t.whole) (λ p. told m p.0) ps) ∙ map-map level (λ p. (told m p.0).whole) ps in
    and_from _ _ (ap (λ ls. nat_le 1 (length ls)) levels ∙ some_of (λ p. is_tree m p.0) (λ p. level (told m p.0).whole) ps tree.0) (each m ps tree.1 w).wholes_formed

literal_formed : (m : Data) (z : ℤ) → Formed (told_step m (expr.Lit z))
literal_formed m (pos n) = plain_formed _ (out (Lit _))
literal_formed m (negsuc n) = plain_formed _ (out (Lit _))

at_operand : (m : Data) (p : Part m) → is_tree m p.0 ≡ true → is_written_tree p.0 ≡ true → (n : ℕ) → nat_le n 7 ≡ true → at_least n (level (told m p.0).operand) ≡ true
at_operand m p h w n few = weaker n 7 few (level (told m p.0).operand) (p.1 h w).operand

step : (m : Data) (y : Expr-F (Part m)) → expr_step m (map-Expr (Part m) Bool (λ p. is_tree m p.0) y) ≡ true
    → written_step (map-Expr (Part m) Bool (λ p. is_written_tree p.0) y) ≡ true → Formed (told_step m (map-Expr (Part m) Told (λ p. told m p.0) y))
step m (expr.Lit z) h w = literal_formed m z
step m (expr.StartOf x d) h w = plain_formed _ (out (Measured _ _ _))
step m (expr.EndOf x d) h w = plain_formed _ (out (Measured _ _ _))
step m (expr.SizeOf x d) h w = plain_formed _ (out (Measured _ _ _))
step m (expr.LengthOf x d) h w = plain_formed _ (out (Measured _ _ _))
step m (expr.PresenceOf x) h w = plain_formed _ (out (PresenceOf _))
step m (expr.Neg p) h w = negated_formed _ (out (Neg (told m p.0).operand) ∙ so _ 5 (at_operand m p h w 6 refl))
step m (expr.Sum ps) h w = sum_formed m ps h w
step m (expr.Product ps) h w = linked_formed m link.Times ps h w
step m (expr.Max ps) h w = plain_formed _ (out (Gathered gather.Max (wholes (tolds m ps))) ∙ so _ 7 (some_formed m ps h w))
step m (expr.Min ps) h w = plain_formed _ (out (Gathered gather.Min (wholes (tolds m ps))) ∙ so _ 7 (some_formed m ps h w))
step m (expr.Compare o p q) h w =
    let tree = and_parts (is_tree m p.0) (is_tree m q.0) h in
    let written = and_parts (is_written_tree p.0) (is_written_tree q.0) w in
    composed_formed _ 3 (out (Compare (comparison_tree o) (told m p.0).operand (told m q.0).operand) ∙ so _ 3 (and_from _ _ (at_operand m p tree.0 written.0 4 refl) (at_operand m q tree.1 written.1 4 refl)))
step m (expr.Not p) h w = composed_formed _ 3 (out (Not (told m p.0).operand) ∙ so _ 3 (at_operand m p h w 3 refl))
step m (expr.And ps) h w = linked_formed m link.And ps h w
step m (expr.Or ps) h w = linked_formed m link.Or ps h w
step m (expr.Implies p q) h w =
    let tree = and_parts (is_tree m p.0) (is_tree m q.0) h in
    let written = and_parts (is_written_tree p.0) (is_written_tree q.0) w in
    composed_formed _ 0 (out (Implies (told m p.0).operand (told m q.0).operand) ∙ so _ 0 (and_from _ _ (at_operand m p tree.0 written.0 1 refl) (at_operand m q tree.1 written.1 0 refl)))

tree_formed : (m : Data) (e : Expr) → Forms m e
tree_formed m = by_levels (Forms m) (λ y h w. subst Formed (sym (folded (Forms m) Told (told_step m) y))
    (step m y (sym (folded (Forms m) Bool (expr_step m) y) ∙ h) (sym (folded (Forms m) Bool written_step y) ∙ w)))

pub expressions_are_formed : (m : Data) (e : Expr) → is_expr m e ≡ true → is_written_expr e ≡ true → at_least 0 (level (told m e).whole) ≡ true
expressions_are_formed m e h w = (tree_formed m e (and_parts (is_tree m e) _ h).0 (and_parts (is_written_tree e) _ w).0).whole
