-- The text of an expression says the words of its tree.
use Rattle.std.proofs.Common.{◌≡◌, ◌∙◌, ℕ, ℤ, pos, negsuc, Bool, true, false, not, ◌&&◌, if◌then◌else◌, int_le, List, [], ◌∷◌, ◌++◌, codes, map, flat_map, Some, refl, sym, ap, subst, subst₂}
use Rattle.std.specs.List.{list_all}
use Rattle.std.specs.Fmt.{signed_decimal}
use Rattle.std.proofs.lemmas.Bool.{and_parts}
use Rattle.sched_base.specs.declared.ids.Itv.{Itv}
use Rattle.sched_model.specs.declared.types.CompareOp.{CompareOp}
use Rattle.sched_model.specs.declared.types.CompareOp.TheVariants as op
use Rattle.sched_model.specs.declared.types.Expr.{Expr}
use Rattle.sched_model.specs.declared.types.Expr.TheOpen.{Expr-F, Expr-F as expr}
use Rattle.sched_model.specs.declared.types.Expr.TheFolds.{map-Expr}
use Rattle.sched_model.specs.Data.{Data}
use Rattle.sched_model.specs.Words.{is_empty}
use Rattle.sched_model.specs.Bounds.{is_small}
use Rattle.sched_model.specs.Valid.{IsValid, is_itv, is_expr, expr_step}
use Rattle.cpo_text.specs.Words.{Word, Word as word, round, is_sign}
use Rattle.cpo_text.specs.Parts.{int_words, name_words}
use Rattle.cpo_text.specs.Expressions.{measure_word, gather_word, link_sign, joined, all_joined, are_many, logic_step, logic_words}
use Rattle.cpo_text.specs.Expressions as words
use Rattle.cpo_text.specs.declared.expression.Measure.{Measure}
use Rattle.cpo_text.specs.declared.expression.Measure.TheVariants as measure
use Rattle.cpo_text.specs.declared.expression.Gather.{Gather}
use Rattle.cpo_text.specs.declared.expression.Gather.TheVariants as gather
use Rattle.cpo_text.specs.declared.expression.Link.{Link}
use Rattle.cpo_text.specs.declared.expression.Link.TheVariants as link
use Rattle.cpo_text.specs.declared.expression.Logic.{Logic}
use Rattle.cpo_text.specs.declared.expression.Logic.TheOpen.{Logic-F}
use Rattle.cpo_text.specs.declared.expression.Logic.TheOpen.Logic-F.{Lit, Group, PresenceOf, Measured, Gathered, Linked, Neg, Sum, Compare, Not, Implies}
use Rattle.cpo_text.specs.declared.expression.Logic.TheFolds.{fold-roll-Logic, map-Logic}
use Rattle.cpo_text.specs.declared.expression.Logic.TheViews.{roll-Logic}
use Rattle.sched_text.specs.Pieces.{interval_name}
use Rattle.sched_text.specs.Pieces as pieces
use Rattle.sched_text.specs.Shown.{Shown, shown_step, shown}
use Rattle.sched_text.specs.Shown as text
use Rattle.read_back.specs.Trees.{int_tree, Told, plain, composed, negated, wholes, operands, summed, comparison_tree, measured, told_step, told}
use Rattle.read_back.specs.Written.{IsWritten, written_step, is_written_expr}
use Rattle.read_back.specs.Says as says
use Rattle.read_back.specs.Says.{Says, Chunk as chunk, is_chunk}
use Rattle.read_back.proofs.expr.Folds.{Known, folded, by_levels, is_tree, is_written_tree}
use Rattle.read_back.proofs.Spelt.{interval_told, are_told}
use Rattle.read_back.proofs.Edges.{Edge.{Free, Signs, Words}}
use Rattle.read_back.proofs.expr.Joined.{Joins, join, join_three, join_may, said_name, said_sign, said_int, loose_front, loose_back, AllJoin, between_join, round_join, square_join, call_join, MayJoin, none_join, some_join}

-- an expression: whole and as an operand it may stand beside signs; a later operand begins with its own sign
record Spoken (s : Shown) (t : Told) : Type 0 where
  whole : Joins Signs Signs s.whole (logic_words t.whole)
  operand : Joins Signs Signs s.operand (logic_words t.operand)
  later : Joins Free Signs s.later (joined (logic_words t.later))

out : (z : Logic-F Logic) → logic_words (roll-Logic z) ≡ logic_step (map-Logic Logic (List Word) logic_words z)
out z = fold-roll-Logic (List Word) logic_step z

-- words that begin with a word that is no minus
plain_spoken : (s : List ℕ) (l : Logic) (w : Word) (ws : List Word) → logic_words l ≡ w ∷ ws → is_sign (codes "-") w ≡ false → Joins Signs Signs s (w ∷ ws) → Spoken (text.plain s) (plain l)
plain_spoken s l w ws is plus said =
    let whole : Joins Signs Signs s (logic_words l) = subst (Joins Signs Signs s) (sym is) said in
    record { whole = whole; operand = whole; later = subst (Joins Free Signs (codes "+" ++ s)) (sym (ap joined is ∙ with_plus (is_sign (codes "-") w) plus)) (join refl (said_sign Free Words (codes "+") refl refl refl) said) } where
      with_plus : (b : Bool) → b ≡ false → (if b then w ∷ ws else word.sign (codes "+") ∷ w ∷ ws) ≡ word.sign (codes "+") ∷ w ∷ ws
      with_plus true h = cc
      with_plus false h = refl

-- in brackets
grouped : (s : List ℕ) (l : Logic) (ws : List Word) → logic_words l ≡ ws → Joins Signs Signs s ws → Joins Free Free (pieces.bracketed s) (logic_words (roll-Logic (Group l)))
grouped s l ws is said = subst (Joins Free Free (pieces.bracketed s)) (sym (out (Group l) ∙ ap round is)) (round_join said)

composed_spoken : (s : List ℕ) (l : Logic) (ws : List Word) → logic_words l ≡ ws → Joins Signs Signs s ws → Spoken (text.composed s) (composed l)
composed_spoken s l ws is said = record {
  whole = subst (Joins Signs Signs s) (sym is) said;
  operand = loose_front Signs (loose_back Free (grouped s l ws is said));
  later = subst (Joins Free Signs (codes "+" ++ pieces.bracketed s)) (sym (ap joined (out (Group l) ∙ ap round is))) (loose_back Free (join refl (said_sign Free Words (codes "+") refl refl refl) (round_join said)));
}

negated_spoken : (x : Shown) (l k : Logic) → l ≡ roll-Logic (Neg k) → Joins Signs Signs x.operand (logic_words k) → Spoken (text.negated x) (negated l)
negated_spoken x l k same said =
    let is : logic_words l ≡ word.sign (codes "-") ∷ logic_words k = ap logic_words same ∙ out (Neg k) in
    let minus : Joins Free Signs (codes "-" ++ x.operand) (word.sign (codes "-") ∷ logic_words k) = join refl (said_sign Free Words (codes "-") refl refl refl) said in
    record {
      whole = subst (Joins Signs Signs (codes "-" ++ x.operand)) (sym is) (loose_front Signs minus);
      operand = loose_front Signs (loose_back Free (grouped (codes "-" ++ x.operand) l _ is (loose_front Signs minus)));
      later = subst (Joins Free Signs (codes "-" ++ x.operand)) (sym (ap joined is)) minus;
    }

abbrev Speaks : Data → Expr → Type 0
Speaks m e = is_tree m e ≡ true → is_written_tree e ≡ true → Spoken (shown m e) (told m e)

abbrev Part : Data → Type 0
Part m = Known (Speaks m)

abbrev tolds : (m : Data) → List (Part m) → List Told
tolds m ps = map (λ p. told m p.0) ps

abbrev showns : (m : Data) → List (Part m) → List Shown
showns m ps = map (λ p. shown m p.0) ps

record Rows (ss : List Shown) (ts : List Told) : Type 0 where
  all_wholes : AllJoin Signs Signs (text.wholes ss) (map logic_words (wholes ts))
  all_operands : AllJoin Signs Signs (text.operands ss) (map logic_words (operands ts))
  all_laters : MayJoin Free Signs (flat_map (λ s. s.later) ss) (all_joined (map logic_words (map (λ t. t.later) ts)))

each : (m : Data) (ps : List (Part m)) → list_all (λ b. b) (map (λ p. is_tree m p.0) ps) ≡ true → list_all (λ b. b) (map (λ p. is_written_tree p.0) ps) ≡ true → Rows (showns m ps) (tolds m ps)
each m [] h w = record { all_wholes = tt; all_operands = tt; all_laters = none_join Free Signs }
each m (p ∷ ps) h w =
    let tree = and_parts (is_tree m p.0) _ h in
    let written = and_parts (is_written_tree p.0) _ w in
    let first = p.1 tree.0 written.0 in
    let rest = each m ps tree.1 written.1 in
    record { all_wholes = (first.whole, rest.all_wholes); all_operands = (first.operand, rest.all_operands); all_laters = some_join (join_may refl first.later rest.all_laters) }

-- a call with a list
listed_spoken : (g : Gather) → is_chunk (chunk.name (gather_word g)) ≡ true → (ss : List (List ℕ)) (ls : List Logic) → AllJoin Signs Signs ss (map logic_words ls)
    → Joins Signs Signs (pieces.call (gather_word g) (pieces.listed ss ∷ [])) (logic_step (Gathered g (map logic_words ls)))
listed_spoken g is ss ls all = loose_back Signs (call_join (gather_word g) is _ [] _ [] (loose_front Signs (loose_back Free (square_join ss _ all)), tt))

sum_spoken : (m : Data) (ps : List (Part m)) → list_all (λ b. b) (map (λ p. is_tree m p.0) ps) ≡ true → list_all (λ b. b) (map (λ p. is_written_tree p.0) ps) ≡ true
    → Spoken (text.summed (showns m ps)) (summed (tolds m ps))
sum_spoken m [] h w = composed_spoken _ _ _ (out (Gathered gather.Sum [])) (listed_spoken gather.Sum refl [] [] tt)
sum_spoken m (p ∷ []) h w = composed_spoken _ _ _ (out (Gathered gather.Sum ((told m p.0).whole ∷ []))) (listed_spoken gather.Sum refl ((shown m p.0).whole ∷ []) ((told m p.0).whole ∷ []) (each m (p ∷ []) h w).all_wholes)
sum_spoken m (p ∷ q ∷ ps) h w =
    let tree = and_parts (is_tree m p.0) _ h in
    let written = and_parts (is_written_tree p.0) _ w in
    composed_spoken _ _ _ (out (Sum ((told m p.0).operand ∷ map (λ t. t.later) (tolds m (q ∷ ps))))) (join_may refl (p.1 tree.0 written.0).operand (each m (q ∷ ps) tree.1 written.1).all_laters)

link_is_sign : (l : Link) → says.is_sign (link_sign l) ≡ true
link_is_sign link.Times = refl
link_is_sign link.And = refl
link_is_sign link.Or = refl

linked_spoken : (m : Data) (l : Link) (ps : List (Part m)) → (not (is_empty (map (λ p. is_tree m p.0) ps)) && list_all (λ b. b) (map (λ p. is_tree m p.0) ps)) ≡ true
    → (are_many (map (λ p. is_written_tree p.0) ps) && list_all (λ b. b) (map (λ p. is_written_tree p.0) ps)) ≡ true
    → Spoken (text.composed (pieces.between (link_sign l) (text.operands (showns m ps)))) (composed (roll-Logic (Linked l (operands (tolds m ps)))))
linked_spoken m l [] h w = cc
linked_spoken m l (p ∷ ps) h w =
    composed_spoken _ _ _ (out (Linked l (operands (tolds m (p ∷ ps))))) (between_join (link_sign l) (link_is_sign l) _ _ _ _ (each m (p ∷ ps) h (and_parts _ _ w).1).all_operands)

some_spoken : (m : Data) (g : Gather) → is_chunk (chunk.name (gather_word g)) ≡ true → (ps : List (Part m)) → (not (is_empty (map (λ p. is_tree m p.0) ps)) && list_all (λ b. b) (map (λ p. is_tree m p.0) ps)) ≡ true
    → list_all (λ b. b) (map (λ p. is_written_tree p.0) ps) ≡ true
    → Spoken (text.plain (pieces.call (gather_word g) (pieces.listed (text.wholes (showns m ps)) ∷ []))) (plain (roll-Logic (Gathered g (wholes (tolds m ps)))))
some_spoken m g is ps h w = plain_spoken _ _ _ _ (out (Gathered g (wholes (tolds m ps)))) refl (listed_spoken g is (text.wholes (showns m ps)) (wholes (tolds m ps)) (each m ps (and_parts _ _ h).1 w).all_wholes)

measured_spoken : (m : Data) → IsValid m → IsWritten m → (how : Measure) → is_chunk (chunk.name (measure_word how)) ≡ true → (x : Itv) (d : ℤ) → (is_itv m x && is_small d) ≡ true
    → Spoken (text.plain (pieces.call (measure_word how) (interval_name m x ∷ signed_decimal d ∷ []))) (measured m how x d)
measured_spoken m valid written how is x d h =
    let parts = and_parts (is_itv m x) (is_small d) h in
    plain_spoken _ _ _ _ (out (Measured how (interval_name m x) (Some (int_tree d)))) refl
    (loose_back Signs (call_join (measure_word how) is (interval_name m x) (signed_decimal d ∷ []) (name_words (interval_name m x)) (int_words (int_tree d) ∷ []) (said_name (interval_name m x) (interval_told m x (are_told m valid written) parts.0), (said_int d parts.1, tt))))

literal_spoken : (m : Data) (z : ℤ) → is_small z ≡ true → int_le (pos 0) z ≡ true → Spoken (shown_step m (expr.Lit z)) (told_step m (expr.Lit z))
literal_spoken m (pos n) h w = plain_spoken _ _ _ _ (out (Lit (Some n))) refl (said_int (pos n) h)
literal_spoken m (negsuc n) h w = cc

comparison_said : (o : CompareOp) → Joins Words Words (text.comparison_sign o) (word.sign (words.comparison_sign (comparison_tree o)) ∷ [])
comparison_said op.Eq = said_sign Words Words (codes "==") refl refl refl
comparison_said op.Ne = said_sign Words Words (codes "!=") refl refl refl
comparison_said op.Le = said_sign Words Words (codes "<=") refl refl refl
comparison_said op.Ge = said_sign Words Words (codes ">=") refl refl refl
comparison_said op.Lt = said_sign Words Words (codes "<") refl refl refl
comparison_said op.Gt = said_sign Words Words (codes ">") refl refl refl

step : (m : Data) → IsValid m → IsWritten m → (y : Expr-F (Part m)) → expr_step m (map-Expr (Part m) Bool (λ p. is_tree m p.0) y) ≡ true
    → written_step (map-Expr (Part m) Bool (λ p. is_written_tree p.0) y) ≡ true → Spoken (shown_step m (map-Expr (Part m) Shown (λ p. shown m p.0) y)) (told_step m (map-Expr (Part m) Told (λ p. told m p.0) y))
step m valid written (expr.Lit z) h w = literal_spoken m z h w
step m valid written (expr.StartOf x d) h w = measured_spoken m valid written measure.StartOf refl x d h
step m valid written (expr.EndOf x d) h w = measured_spoken m valid written measure.EndOf refl x d h
step m valid written (expr.SizeOf x d) h w = measured_spoken m valid written measure.SizeOf refl x d h
step m valid written (expr.LengthOf x d) h w = measured_spoken m valid written measure.LengthOf refl x d h
step m valid written (expr.PresenceOf x) h w =
    plain_spoken _ _ _ _ (out (PresenceOf (interval_name m x))) refl (loose_back Signs (call_join (codes "presenceOf") refl (interval_name m x) [] (name_words (interval_name m x)) [] (said_name (interval_name m x) (interval_told m x (are_told m valid written) h), tt)))
step m valid written (expr.Neg p) h w = negated_spoken (shown m p.0) _ (told m p.0).operand refl (p.1 h w).operand
step m valid written (expr.Sum ps) h w = sum_spoken m ps h w
step m valid written (expr.Product ps) h w = linked_spoken m link.Times ps h w
step m valid written (expr.Max ps) h w = some_spoken m gather.Max refl ps h w
step m valid written (expr.Min ps) h w = some_spoken m gather.Min refl ps h w
step m valid written (expr.Compare o p q) h w =
    let tree = and_parts (is_tree m p.0) (is_tree m q.0) h in
    let parts = and_parts (is_written_tree p.0) (is_written_tree q.0) w in
    composed_spoken _ _ _ (out (Compare (comparison_tree o) (told m p.0).operand (told m q.0).operand)) (join_three refl refl (p.1 tree.0 parts.0).operand (comparison_said o) (q.1 tree.1 parts.1).operand)
step m valid written (expr.Not p) h w = composed_spoken _ _ _ (out (Not (told m p.0).operand)) (join refl (said_sign Signs Words (codes "!") refl refl refl) (p.1 h w).operand)
step m valid written (expr.And ps) h w = linked_spoken m link.And ps h w
step m valid written (expr.Or ps) h w = linked_spoken m link.Or ps h w
step m valid written (expr.Implies p q) h w =
    let tree = and_parts (is_tree m p.0) (is_tree m q.0) h in
    let parts = and_parts (is_written_tree p.0) (is_written_tree q.0) w in
    composed_spoken _ _ _ (out (Implies (told m p.0).operand (told m q.0).operand)) (join_three refl refl (p.1 tree.0 parts.0).operand (said_sign Words Words (codes "=>") refl refl refl) (q.1 tree.1 parts.1).operand)

tree_spoken : (m : Data) → IsValid m → IsWritten m → (e : Expr) → Speaks m e
tree_spoken m valid written = by_levels (Speaks m) (λ y h w. subst₂ Spoken (sym (folded (Speaks m) Shown (shown_step m) y)) (sym (folded (Speaks m) Told (told_step m) y))
    (step m valid written y (sym (folded (Speaks m) Bool (expr_step m) y) ∙ h) (sym (folded (Speaks m) Bool written_step y) ∙ w)))

expression_joins : (m : Data) (e : Expr) → IsValid m → IsWritten m → is_expr m e ≡ true → is_written_expr e ≡ true → Joins Signs Signs (shown m e).whole (logic_words (told m e).whole)
expression_joins m e valid written h w = (tree_spoken m valid written e (and_parts (is_tree m e) _ h).0 (and_parts (is_written_tree e) _ w).0).whole

pub expressions_are_said : (m : Data) (e : Expr) → IsValid m → IsWritten m → is_expr m e ≡ true → is_written_expr e ≡ true → Says (shown m e).whole (logic_words (told m e).whole)
expressions_are_said m e valid written h w = (expression_joins m e valid written h w).says
