-- Whatever is spelled as an expression is read as that expression, by induction over the tree.
use Rattle.std.proofs.Common.{◌≡◌, ℕ, zero, suc, ◌+◌, ◌*◌, ◌<◌, ◌≤◌, Bool, true, false, List, [], ◌∷◌, ◌++◌, length, map, Option, Some, None, refl, sym, ap, subst, ◌∙◌, arith, append_assoc, append-nil, length-append}
use Rattle.std.specs.Prelude.{codes, if◌then◌else◌}
use Rattle.cpo_text.specs.Words.{Word, is_sign, size_word, commas, round, call}
use Rattle.cpo_text.specs.Words.Word.{name, number, large, sign, quoted}
use Rattle.cpo_text.specs.Spelling.{int_items, name_words}
use Rattle.cpo_text.specs.Expressions.{measure_word, gather_word, link_sign, link_level, comparison_sign, square, joined, logic_words, level, at_least, if_so, are_many, gathers}
use Rattle.cpo_text.specs.code.Rules.{bound, behind, if_behind, enclosed_at}
use Rattle.cpo_text.specs.code.Levels.{Trees, read, inner, lit, group, presence, gathered, linked, neg, total, compare, negation, implies, comparison_at, measured_at, gathered_at, call_of, grouped_at}
use Rattle.cpo_text.specs.code.Levels.Task.{logic, chain, unit, sum, term, atom, more, terms, items}
use Rattle.cpo_text.specs.declared.tree.Int.{Int}
use Rattle.cpo_text.specs.declared.expression.Measure.{Measure}
use Rattle.cpo_text.specs.declared.expression.Measure.TheVariants.{StartOf, EndOf, SizeOf, LengthOf}
use Rattle.cpo_text.specs.declared.expression.Gather.{Gather}
use Rattle.cpo_text.specs.declared.expression.Gather.TheVariants as gather
use Rattle.cpo_text.specs.declared.expression.Link.{Link}
use Rattle.cpo_text.specs.declared.expression.Link.TheVariants.{Times, And, Or}
use Rattle.cpo_text.specs.declared.expression.Comparison.{Comparison}
use Rattle.cpo_text.specs.declared.expression.Comparison.TheVariants.{Equal, NotEqual, AtMost, AtLeast, Below, Above}
use Rattle.cpo_text.specs.declared.expression.Logic.{Logic, roll-Logic}
use Rattle.cpo_text.specs.declared.expression.Logic.TheOpen.{Logic-F}
use Rattle.cpo_text.specs.declared.expression.Logic.TheOpen.Logic-F.{Lit, Group, PresenceOf, Measured, Gathered, Linked, Neg, Sum, Compare, Not, Implies}
use Rattle.cpo_text.specs.declared.expression.Logic.TheFolds.{ind-Logic, map-Logic}
use Rattle.cpo_text.proofs.operands.Binds.{bound_parts, some_pair, sign_same, behind_again}
use Rattle.cpo_text.proofs.stating.Again.{int_behind_again}
use Rattle.cpo_text.proofs.operands.Nodes
use Rattle.cpo_text.proofs.operands.Nodes.{is_tight, all_tight, so_high, is_so, not_higher, and_first, and_second, measured}
use Rattle.cpo_text.proofs.operands.Openings.{front_level, front_append, words_open, not_free, some_words}
use Rattle.cpo_text.proofs.operands.Takings.{behind_each, added, linked_words, total_words, measured_words, gathered_words}
use Rattle.cpo_text.proofs.operands.Ends.{signs, at, cost, cost_small, ends, first_ends, tighter_ends, no_plus, no_minus, conj_signs, unit_signs}
use Rattle.cpo_text.proofs.operands.Climbs.{Gets, Own, Again, reach}

abbrev Known : Type 0
Known = (e : Logic) × Again e

abbrev trees : List Known → List Logic
trees ps = map (λ p. p.0) ps

-- links

at_inner : (l : Link) → at (suc (link_level l)) ≡ inner l
at_inner Times = refl
at_inner And = refl
at_inner Or = refl

at_link : (l : Link) → at (link_level l) ≡ chain l
at_link Times = refl
at_link And = refl
at_link Or = refl

link_small : (l : Link) → link_level l ≤ 7
link_small Times = omega arith
link_small And = omega arith
link_small Or = omega arith

link_cost : (l : Link) → 2 ≤ cost (link_level l)
link_cost Times = omega arith
link_cost And = omega arith
link_cost Or = omega arith

link_ends : (l : Link) (rest : List Word) → ends (signs (link_level l)) rest ≡ true → behind (link_sign l) rest ≡ None
link_ends Times rest h = first_ends (codes "*") [] rest h
link_ends And rest h = first_ends (codes "&&") unit_signs rest h
link_ends Or rest h = first_ends (codes "||") conj_signs rest h

ends_link : (l : Link) (r : List Word) → ends (signs (suc (link_level l))) (sign (link_sign l) ∷ r) ≡ true
ends_link Times r = refl
ends_link And r = refl
ends_link Or r = refl

ends_more : (l : Link) (es : List Logic) (rest : List Word) → ends (signs (link_level l)) rest ≡ true → ends (signs (suc (link_level l))) (behind_each l es ++ rest) ≡ true
ends_more l [] rest h = tighter_ends (link_level l) rest h
ends_more l (e ∷ es) rest h = ends_link l ((logic_words e ++ behind_each l es) ++ rest)

operand_again : (l : Link) (p : Known) (rest : List Word) (f : ℕ) → is_tight (suc (link_level l)) p.0 ≡ true → ends (signs (suc (link_level l))) rest ≡ true → 20 * length (logic_words p.0) + 11 ≤ f
    → ◌≡◌ {A = Trees} (read f (inner l) (logic_words p.0 ++ rest)) (Some (p.0 ∷ [], rest))
operand_again l p rest f tight end big =
    subst (λ t. ◌≡◌ {A = Trees} (read f t (logic_words p.0 ++ rest)) (Some (p.0 ∷ [], rest))) (at_inner l) (p.1 (suc (link_level l)) rest tight end f (let c = cost_small (suc (link_level l)) in omega arith))

if_self : (s : List ℕ) (r : List Word) (f : List Word → Trees) (g : Trees) → if_behind (behind s (sign s ∷ r)) f g ≡ f r
if_self s r f g = ap (λ o. if_behind o f g) (behind_again s r)

more_again : (l : Link) (ps : List Known) (rest : List Word) (f : ℕ) → all_tight (suc (link_level l)) (trees ps) ≡ true → ends (signs (link_level l)) rest ≡ true → 20 * length (behind_each l (trees ps)) + 1 ≤ f
    → ◌≡◌ {A = Trees} (read f (more l) (behind_each l (trees ps) ++ rest)) (Some (trees ps, rest))
more_again l [] rest zero tight end big = absurd (omega arith)
more_again l [] rest (suc f) tight end big = rw (link_ends l rest end) refl
more_again l (p ∷ ps) rest zero tight end big = absurd (omega arith)
more_again l (p ∷ ps) rest (suc f) tight end big =
    let others : List Word = behind_each l (trees ps) in
    let size = length-append (logic_words p.0) others in
    let words : behind_each l (trees (p ∷ ps)) ++ rest ≡ sign (link_sign l) ∷ logic_words p.0 ++ (others ++ rest) = ap (λ xs. sign (link_sign l) ∷ xs) (append_assoc (logic_words p.0) others rest) in
    let got = operand_again l p (others ++ rest) f (and_first _ _ tight) (ends_more l (trees ps) rest end) (omega arith) in
    let later = more_again l ps rest f (and_second (is_tight (suc (link_level l)) p.0) _ tight) end (omega arith) in
    let next : List Word → Trees = λ r. bound (read f (inner l) r) (λ a r2. bound (read f (more l) r2) (λ b r3. Some (a ++ b, r3))) in
    let here : List Word = logic_words p.0 ++ (others ++ rest) in
    let turned : next here ≡ Some (trees (p ∷ ps), rest) = rw (got, later) refl in
    ap (read (suc f) (more l)) words ∙ if_self (link_sign l) here next (Some ([], sign (link_sign l) ∷ here)) ∙ turned

-- sums

joined_long : (ws : List Word) → length ws ≤ length (joined ws)
joined_long [] = omega arith
joined_long (w ∷ ws) = decided (is_sign (codes "-") w)
  where
    decided : (b : Bool) → length (w ∷ ws) ≤ length (if b then w ∷ ws else sign (codes "+") ∷ w ∷ ws)
    decided true = omega arith
    decided false = omega arith

-- how a later operand begins
ends_joined : (ws r : List Word) → 0 < length ws → ends (signs 5) (joined ws ++ r) ≡ true
ends_joined [] r some = absurd (omega arith)
ends_joined (w ∷ ws) r some = decided (is_sign (codes "-") w) refl
  where
    decided : (b : Bool) → is_sign (codes "-") w ≡ b → ends (signs 5) ((if b then w ∷ ws else sign (codes "+") ∷ w ∷ ws) ++ r) ≡ true
    decided true is = rw (sign_same (codes "-") w is) refl
    decided false is = refl

ends_added : (ps : List Known) (rest : List Word) → all_tight 5 (trees ps) ≡ true → ends (signs 4) rest ≡ true → ends (signs 5) (added (trees ps) ++ rest) ≡ true
ends_added [] rest tight end = tighter_ends 4 rest end
ends_added (p ∷ ps) rest tight end =
    subst (λ xs. ends (signs 5) xs ≡ true) (sym (append_assoc (joined (logic_words p.0)) (added (trees ps)) rest))
    (ends_joined (logic_words p.0) (added (trees ps) ++ rest) (some_words p.0 5 (and_first _ _ tight)))

-- an operand that is read as a term is read behind `+`, or with its own minus
term_added : (ws : List Word) (e : Logic) (r rest : List Word) (es : List Logic) (f : ℕ) → 0 < length ws → ◌≡◌ {A = Trees} (read (suc f) term (ws ++ r)) (Some (e ∷ [], r)) → ◌≡◌ {A = Trees} (read f terms r) (Some (es, rest))
    → ◌≡◌ {A = Trees} (read (suc f) terms (joined ws ++ r)) (Some (e ∷ es, rest))
term_added [] e r rest es f some got later = absurd (omega arith)
term_added (w ∷ ws) e r rest es f some got later = decided (is_sign (codes "-") w) refl got
  where
    decided : (b : Bool) → is_sign (codes "-") w ≡ b
        → if_behind (if b then Some (ws ++ r) else None) (λ r. bound (read f (chain Times) r) (λ a r2. let x : List Logic × List Word = (map neg a, r2) in Some x)) (read f (chain Times) (w ∷ ws ++ r)) ≡ Some (e ∷ [], r)
        → ◌≡◌ {A = Trees} (read (suc f) terms ((if b then w ∷ ws else sign (codes "+") ∷ w ∷ ws) ++ r)) (Some (e ∷ es, rest))
    decided true is h =
        let p = bound_parts (read f (chain Times) (ws ++ r)) _ (e ∷ []) r h in
        let same = some_pair (map neg p.tree) (e ∷ []) p.words r p.then in
        let first = p.first in
        let later' : ◌≡◌ {A = Trees} (read f terms p.words) (Some (es, rest)) = subst (λ xs. ◌≡◌ {A = Trees} (read f terms xs) (Some (es, rest))) (sym same.1) later in
        rw (sign_same (codes "-") w is) (rw (first, later') (ap (λ xs. let x : List Logic × List Word = (xs ++ es, rest) in Some x) same.0))
    decided false is h = rw (h, later) refl

terms_again : (ps : List Known) (rest : List Word) (f : ℕ) → all_tight 5 (trees ps) ≡ true → ends (signs 4) rest ≡ true → 20 * length (added (trees ps)) + 3 ≤ f
    → ◌≡◌ {A = Trees} (read f terms (added (trees ps) ++ rest)) (Some (trees ps, rest))
terms_again [] rest zero tight end big = absurd (omega arith)
terms_again [] rest (suc f) tight end big = rw (no_plus rest end, no_minus rest end) refl
terms_again (p ∷ ps) rest zero tight end big = absurd (omega arith)
terms_again (p ∷ ps) rest (suc f) tight end big =
    let others : List Word = added (trees ps) in
    let here = and_first (is_tight 5 p.0) (all_tight 5 (trees ps)) tight in
    let there = and_second (is_tight 5 p.0) (all_tight 5 (trees ps)) tight in
    let size = length-append (joined (logic_words p.0)) others in
    let long = joined_long (logic_words p.0) in
    let some = some_words p.0 5 here in
    let got = p.1 5 (others ++ rest) here (ends_added ps rest there end) (suc f) (omega arith) in
    let later = terms_again ps rest f there end (omega arith) in
    rw (append_assoc (joined (logic_words p.0)) others rest) (term_added (logic_words p.0) p.0 (others ++ rest) rest (trees ps) f some got later)

-- lists of expressions

items_again : (p : Known) (ps : List Known) (rest : List Word) (f : ℕ) → all_tight 0 (trees (p ∷ ps)) ≡ true → ends (signs 0) rest ≡ true → behind (codes ",") rest ≡ None → 20 * length (commas (map logic_words (trees (p ∷ ps)))) + 12 ≤ f
    → ◌≡◌ {A = Trees} (read f items (commas (map logic_words (trees (p ∷ ps))) ++ rest)) (Some (trees (p ∷ ps), rest))
items_again p ps rest zero tight end last big = absurd (omega arith)
items_again p [] rest (suc f) tight end last big =
    let got = p.1 0 rest (and_first _ _ tight) end f (omega arith) in
    rw got (rw last refl)
items_again p (q ∷ qs) rest (suc f) tight end last big =
    let others : List Word = commas (map logic_words (trees (q ∷ qs))) in
    let size = length-append (logic_words p.0) (sign (codes ",") ∷ others) in
    let got = p.1 0 (sign (codes ",") ∷ others ++ rest) (and_first _ _ tight) refl f (omega arith) in
    let later = items_again q qs rest f (and_second (is_tight 0 p.0) _ tight) end last (omega arith) in
    rw (append_assoc (logic_words p.0) (sign (codes ",") ∷ others) rest) (rw got (rw later refl))

-- each kind of expression at its own level

own_lit : (n : Option ℕ) → Own (lit n) 7
own_lit n = subst (λ ws. (rest : List Word) → ends (signs 7) rest ≡ true → Gets atom (ws ++ rest) (lit n) rest (20 * length ws + 0)) (sym (Nodes.words_lit n)) (got n)
  where
    got : (n : Option ℕ) (rest : List Word) → ends (signs 7) rest ≡ true → Gets atom (size_word n ∷ rest) (lit n) rest 20
    got None rest end zero big = absurd (omega arith)
    got None rest end (suc f) big = refl
    got (Some n) rest end zero big = absurd (omega arith)
    got (Some n) rest end (suc f) big = refl

own_group : (p : Known) → is_tight 0 p.0 ≡ true → Own (group p.0) 7
unfolding grouped_at
own_group p tight = subst (λ ws. (rest : List Word) → ends (signs 7) rest ≡ true → Gets atom (ws ++ rest) (group p.0) rest (20 * length ws + 0)) (sym (Nodes.words_group p.0)) got
  where
    got : (rest : List Word) → ends (signs 7) rest ≡ true → Gets atom (round (logic_words p.0) ++ rest) (group p.0) rest (20 * length (round (logic_words p.0)) + 0)
    got rest end zero big = absurd (omega arith)
    got rest end (suc f) big =
        let size = length-append (logic_words p.0) (sign (codes ")") ∷ []) in
        let read_it = p.1 0 (sign (codes ")") ∷ rest) tight refl f (omega arith) in
        rw (append_assoc (logic_words p.0) (sign (codes ")") ∷ []) rest) (rw read_it refl)

own_presence : (a : List ℕ) → Own (presence a) 7
unfolding call_of enclosed_at
own_presence a = subst (λ ws. (rest : List Word) → ends (signs 7) rest ≡ true → Gets atom (ws ++ rest) (presence a) rest (20 * length ws + 0)) (sym (Nodes.words_presence a)) got
  where
    got : (rest : List Word) → ends (signs 7) rest ≡ true → Gets atom (call (codes "presenceOf") (name_words a ∷ []) ++ rest) (presence a) rest (20 * length (call (codes "presenceOf") (name_words a ∷ [])) + 0)
    got rest end zero big = absurd (omega arith)
    got rest end (suc f) big = refl

measure_call : (m : Measure) (list : List Word → Trees) (ws : List Word) → call_of (measure_word m) list ws ≡ measured_at m ws
unfolding call_of
measure_call StartOf list ws = refl
measure_call EndOf list ws = refl
measure_call SizeOf list ws = refl
measure_call LengthOf list ws = refl

measured_again : (m : Measure) (a : List ℕ) (d : Option Int) (rest : List Word) → measured_at m (round (commas (name_words a ∷ int_items d)) ++ rest) ≡ Some (measured m a d ∷ [], rest)
unfolding measured_at
measured_again m a d rest = ap (measured_at m) (measured_words a d rest) ∙ rw (int_behind_again (codes ",") d (sign (codes ")") ∷ rest) refl) refl

own_measured : (m : Measure) (a : List ℕ) (d : Option Int) → Own (measured m a d) 7
own_measured m a d = subst (λ ws. (rest : List Word) → ends (signs 7) rest ≡ true → Gets atom (ws ++ rest) (measured m a d) rest (20 * length ws + 0)) (sym (Nodes.words_measured m a d)) got
  where
    got : (rest : List Word) → ends (signs 7) rest ≡ true → Gets atom (call (measure_word m) (name_words a ∷ int_items d) ++ rest) (measured m a d) rest (20 * length (call (measure_word m) (name_words a ∷ int_items d)) + 0)
    got rest end zero big = absurd (omega arith)
    got rest end (suc f) big = measure_call m (read f items) (round (commas (name_words a ∷ int_items d)) ++ rest) ∙ measured_again m a d rest

gather_call : (g : Gather) (list : List Word → Trees) (ws : List Word) → call_of (gather_word g) list ws ≡ gathered_at g list ws
unfolding call_of
gather_call gather.Max list ws = refl
gather_call gather.Min list ws = refl
gather_call gather.Sum list ws = refl

-- no expression begins with a closing bracket
no_square : (ws : List Word) → at_least 0 (front_level ws) ≡ true → behind (codes "]") ws ≡ None
no_square [] h = refl
no_square (name m ∷ ws) h = refl
no_square (number m ∷ ws) h = refl
no_square (large ∷ ws) h = refl
no_square (quoted ∷ ws) h = refl
no_square (sign s ∷ ws) h = decided (is_sign (codes "]") (sign s)) refl
  where
    decided : (b : Bool) → is_sign (codes "]") (sign s) ≡ b → (if b then Some ws else None) ≡ None
    decided false is = refl
    decided true is = let e = subst (λ w. at_least 0 (front_level (w ∷ ws)) ≡ true) (sign_same (codes "]") (sign s) is) h in cc

items_front : (p : Known) (ps : List Known) → (r : List Word) × (commas (map logic_words (trees (p ∷ ps))) ≡ logic_words p.0 ++ r)
items_front p [] = ([], sym (append-nil (logic_words p.0)))
items_front p (q ∷ qs) = (sign (codes ",") ∷ commas (map logic_words (trees (q ∷ qs))), refl)

gathered_again : (g : Gather) (ps : List Known) (rest : List Word) (f : ℕ) → gathers g (map level (trees ps)) ≡ true → all_tight 0 (trees ps) ≡ true → 20 * length (commas (map logic_words (trees ps))) + 12 ≤ f
    → ◌≡◌ {A = Trees} (gathered_at g (read f items) (round (commas (square (map logic_words (trees ps)) ∷ [])) ++ rest)) (Some (gathered g (trees ps) ∷ [], rest))
unfolding gathered_at
gathered_again gather.Max [] rest f some tight big = cc
gathered_again gather.Min [] rest f some tight big = cc
gathered_again gather.Sum [] rest f some tight big = refl
gathered_again g (p ∷ ps) rest f some tight big =
    let closing : List Word = sign (codes "]") ∷ sign (codes ")") ∷ rest in
    let front = items_front p ps in
    let open' : behind (codes "]") (commas (map logic_words (trees (p ∷ ps))) ++ closing) ≡ None =
    subst (λ xs. behind (codes "]") xs ≡ None) (sym (ap (λ xs. xs ++ closing) front.1 ∙ append_assoc (logic_words p.0) front.0 closing))
    (no_square (logic_words p.0 ++ (front.0 ++ closing)) (front_append (logic_words p.0) (front.0 ++ closing) 0 (words_open p.0 0 (and_first _ _ tight)))) in
    let got = items_again p ps closing f tight refl refl big in
    ap (gathered_at g (read f items)) (gathered_words (trees (p ∷ ps)) rest) ∙ rw (open', got) refl

own_gathered : (g : Gather) (ps : List Known) → gathers g (map level (trees ps)) ≡ true → all_tight 0 (trees ps) ≡ true → Own (gathered g (trees ps)) 7
own_gathered g ps some tight = subst (λ ws. (rest : List Word) → ends (signs 7) rest ≡ true → Gets atom (ws ++ rest) (gathered g (trees ps)) rest (20 * length ws + 0)) (sym (Nodes.words_gathered g (trees ps))) got
  where
    got : (rest : List Word) → ends (signs 7) rest ≡ true → Gets atom (call (gather_word g) (square (map logic_words (trees ps)) ∷ []) ++ rest) (gathered g (trees ps)) rest (20 * length (call (gather_word g) (square (map logic_words (trees ps)) ∷ [])) + 0)
    got rest end zero big = absurd (omega arith)
    got rest end (suc f) big =
        let inner : List Word = commas (map logic_words (trees ps)) in
        let size = length-append inner (sign (codes "]") ∷ []) in
        let size' = length-append (inner ++ sign (codes "]") ∷ []) (sign (codes ")") ∷ []) in
        gather_call g (read f items) (round (commas (square (map logic_words (trees ps)) ∷ [])) ++ rest) ∙ gathered_again g ps rest f some tight (omega arith)

own_linked : (l : Link) (p q : Known) (ps : List Known) → all_tight (suc (link_level l)) (trees (p ∷ q ∷ ps)) ≡ true → Own (linked l (trees (p ∷ q ∷ ps))) (link_level l)
own_linked l p q ps tight =
    subst (λ ws. (rest : List Word) → ends (signs (link_level l)) rest ≡ true → Gets (at (link_level l)) (ws ++ rest) (linked l (trees (p ∷ q ∷ ps))) rest (20 * length ws + cost (link_level l)))
    (sym (linked_words l p.0 q.0 (trees ps)))
    (subst (λ t. (rest : List Word) → ends (signs (link_level l)) rest ≡ true → Gets t ((logic_words p.0 ++ others) ++ rest) (linked l (trees (p ∷ q ∷ ps))) rest (20 * length (logic_words p.0 ++ others) + cost (link_level l))) (sym (at_link l)) got)
  where
    others : List Word
    others = behind_each l (trees (q ∷ ps))

    got : (rest : List Word) → ends (signs (link_level l)) rest ≡ true → Gets (chain l) ((logic_words p.0 ++ behind_each l (trees (q ∷ ps))) ++ rest) (linked l (trees (p ∷ q ∷ ps))) rest (20 * length (logic_words p.0 ++ behind_each l (trees (q ∷ ps))) + cost (link_level l))
    got rest end zero big = let c = link_cost l in absurd (omega arith)
    got rest end (suc f) big =
        let here = and_first (is_tight (suc (link_level l)) p.0) (all_tight (suc (link_level l)) (trees (q ∷ ps))) tight in
        let there = and_second (is_tight (suc (link_level l)) p.0) (all_tight (suc (link_level l)) (trees (q ∷ ps))) tight in
        let c = link_cost l in
        let some = some_words p.0 (suc (link_level l)) here in
        let size = length-append (logic_words p.0) (behind_each l (trees (q ∷ ps))) in
        let first = operand_again l p (behind_each l (trees (q ∷ ps)) ++ rest) f here (ends_more l (trees (q ∷ ps)) rest end) (omega arith) in
        let later = more_again l (q ∷ ps) rest f there end (omega arith) in
        rw (append_assoc (logic_words p.0) (behind_each l (trees (q ∷ ps))) rest) (rw (first, later) refl)

own_neg : (p : Known) → is_tight 6 p.0 ≡ true → Own (neg p.0) 5
own_neg p tight = subst (λ ws. (rest : List Word) → ends (signs 5) rest ≡ true → Gets term (ws ++ rest) (neg p.0) rest (20 * length ws + 3)) (sym (Nodes.words_neg p.0)) got
  where
    got : (rest : List Word) → ends (signs 5) rest ≡ true → Gets term (sign (codes "-") ∷ logic_words p.0 ++ rest) (neg p.0) rest (20 * length (sign (codes "-") ∷ logic_words p.0) + 3)
    got rest end zero big = absurd (omega arith)
    got rest end (suc f) big = let read_it = p.1 6 rest tight end f (omega arith) in rw read_it refl

own_total : (p q : Known) (ps : List Known) → all_tight 5 (trees (p ∷ q ∷ ps)) ≡ true → Own (total (trees (p ∷ q ∷ ps))) 4
own_total p q ps tight =
    subst (λ ws. (rest : List Word) → ends (signs 4) rest ≡ true → Gets sum (ws ++ rest) (total (trees (p ∷ q ∷ ps))) rest (20 * length ws + 5)) (sym (total_words p.0 q.0 (trees ps))) got
  where
    got : (rest : List Word) → ends (signs 4) rest ≡ true → Gets sum ((logic_words p.0 ++ added (trees (q ∷ ps))) ++ rest) (total (trees (p ∷ q ∷ ps))) rest (20 * length (logic_words p.0 ++ added (trees (q ∷ ps))) + 5)
    got rest end zero big = absurd (omega arith)
    got rest end (suc f) big =
        let here = and_first (is_tight 5 p.0) (all_tight 5 (trees (q ∷ ps))) tight in
        let there = and_second (is_tight 5 p.0) (all_tight 5 (trees (q ∷ ps))) tight in
        let size = length-append (logic_words p.0) (added (trees (q ∷ ps))) in
        let some = some_words p.0 5 here in
        let first = p.1 5 (added (trees (q ∷ ps)) ++ rest) here (ends_added (q ∷ ps) rest there end) f (omega arith) in
        let later = terms_again (q ∷ ps) rest f there end (omega arith) in
        rw (append_assoc (logic_words p.0) (added (trees (q ∷ ps))) rest) (rw (first, later) refl)

ends_comparison : (op : Comparison) (r : List Word) → ends (signs 4) (sign (comparison_sign op) ∷ r) ≡ true
ends_comparison Equal r = refl
ends_comparison NotEqual r = refl
ends_comparison AtMost r = refl
ends_comparison AtLeast r = refl
ends_comparison Below r = refl
ends_comparison Above r = refl

comparison_again : (op : Comparison) (r : List Word) → comparison_at (sign (comparison_sign op) ∷ r) ≡ Some (op, r)
unfolding comparison_at
comparison_again Equal r = refl
comparison_again NotEqual r = refl
comparison_again AtMost r = refl
comparison_again AtLeast r = refl
comparison_again Below r = refl
comparison_again Above r = refl

own_compare : (op : Comparison) (p q : Known) → is_tight 4 p.0 ≡ true → is_tight 4 q.0 ≡ true → Own (compare op p.0 q.0) 3
own_compare op p q left right = subst (λ ws. (rest : List Word) → ends (signs 3) rest ≡ true → Gets unit (ws ++ rest) (compare op p.0 q.0) rest (20 * length ws + 6)) (sym (Nodes.words_compare op p.0 q.0)) got
  where
    got : (rest : List Word) → ends (signs 3) rest ≡ true → Gets unit ((logic_words p.0 ++ sign (comparison_sign op) ∷ logic_words q.0) ++ rest) (compare op p.0 q.0) rest (20 * length (logic_words p.0 ++ sign (comparison_sign op) ∷ logic_words q.0) + 6)
    got rest end zero big = absurd (omega arith)
    got rest end (suc f) big =
        let size = length-append (logic_words p.0) (sign (comparison_sign op) ∷ logic_words q.0) in
        let front = not_free p.0 (sign (comparison_sign op) ∷ logic_words q.0 ++ rest) left in
        let first = p.1 4 (sign (comparison_sign op) ∷ logic_words q.0 ++ rest) left (ends_comparison op (logic_words q.0 ++ rest)) f (omega arith) in
        let second = q.1 4 rest right (tighter_ends 3 rest end) f (omega arith) in
        rw (append_assoc (logic_words p.0) (sign (comparison_sign op) ∷ logic_words q.0) rest) (rw (front, first) (rw (comparison_again op (logic_words q.0 ++ rest)) (rw second refl)))

own_negation : (p : Known) → is_tight 3 p.0 ≡ true → Own (negation p.0) 3
own_negation p tight = subst (λ ws. (rest : List Word) → ends (signs 3) rest ≡ true → Gets unit (ws ++ rest) (negation p.0) rest (20 * length ws + 6)) (sym (Nodes.words_negation p.0)) got
  where
    got : (rest : List Word) → ends (signs 3) rest ≡ true → Gets unit (sign (codes "!") ∷ logic_words p.0 ++ rest) (negation p.0) rest (20 * length (sign (codes "!") ∷ logic_words p.0) + 6)
    got rest end zero big = absurd (omega arith)
    got rest end (suc f) big = let read_it = p.1 3 rest tight end f (omega arith) in rw read_it refl

own_implies : (p q : Known) → is_tight 1 p.0 ≡ true → is_tight 0 q.0 ≡ true → Own (implies p.0 q.0) 0
own_implies p q left right = subst (λ ws. (rest : List Word) → ends (signs 0) rest ≡ true → Gets logic (ws ++ rest) (implies p.0 q.0) rest (20 * length ws + 11)) (sym (Nodes.words_implies p.0 q.0)) got
  where
    got : (rest : List Word) → ends (signs 0) rest ≡ true → Gets logic ((logic_words p.0 ++ sign (codes "=>") ∷ logic_words q.0) ++ rest) (implies p.0 q.0) rest (20 * length (logic_words p.0 ++ sign (codes "=>") ∷ logic_words q.0) + 11)
    got rest end zero big = absurd (omega arith)
    got rest end (suc f) big =
        let size = length-append (logic_words p.0) (sign (codes "=>") ∷ logic_words q.0) in
        let first = p.1 1 (sign (codes "=>") ∷ logic_words q.0 ++ rest) left refl f (omega arith) in
        let second = q.1 0 rest right end f (omega arith) in
        rw (append_assoc (logic_words p.0) (sign (codes "=>") ∷ logic_words q.0) rest) (rw first (rw second refl))

-- from the level of a node to that of each reader

at_level : (e : Logic) (k : ℕ) (b : Bool) → level e ≡ if_so b k → k ≤ 7 → (b ≡ true → Own e k) → Again e
at_level e k b is few own n rest tight end =
    let so = subst (λ o. at_least n o ≡ true) is tight in
    let holds = is_so n k b so in
    reach n k e (not_higher n k b so) few (subst (λ o. at_least k o ≡ true) (sym is) (so_high k k b holds (omega arith))) (own holds) rest end

never : false ≡ true → ⊥
never h = cc

step_again : (y : Logic-F Known) → Again (roll-Logic (map-Logic Known Logic (λ p. p.0) y))
step_again (Lit n) = at_level (lit n) 7 true (Nodes.level_lit n) (omega arith) (λ so. own_lit n)
step_again (Group p) = at_level (group p.0) 7 (is_tight 0 p.0) (Nodes.level_group p.0) (omega arith) (own_group p)
step_again (PresenceOf a) = at_level (presence a) 7 true (Nodes.level_presence a) (omega arith) (λ so. own_presence a)
step_again (Measured m a d) = at_level (measured m a d) 7 true (Nodes.level_measured m a d) (omega arith) (λ so. own_measured m a d)
step_again (Gathered g ps) = at_level (gathered g (trees ps)) 7 _ (Nodes.level_gathered g (trees ps)) (omega arith) (λ so. own_gathered g ps (and_first _ _ so) (and_second (gathers g (map level (trees ps))) _ so))
step_again (Linked l []) = at_level (linked l []) (link_level l) _ (Nodes.level_linked l []) (link_small l) (λ so. absurd (never so))
step_again (Linked l (p ∷ [])) = at_level (linked l (p.0 ∷ [])) (link_level l) _ (Nodes.level_linked l (p.0 ∷ [])) (link_small l) (λ so. absurd (never so))
step_again (Linked l (p ∷ q ∷ ps)) =
    at_level (linked l (trees (p ∷ q ∷ ps))) (link_level l) _ (Nodes.level_linked l (trees (p ∷ q ∷ ps))) (link_small l) (λ so. own_linked l p q ps (and_second (are_many (map level (trees (p ∷ q ∷ ps)))) _ so))
step_again (Neg p) = at_level (neg p.0) 5 (is_tight 6 p.0) (Nodes.level_neg p.0) (omega arith) (own_neg p)
step_again (Sum []) = at_level (total []) 4 _ (Nodes.level_total []) (omega arith) (λ so. absurd (never so))
step_again (Sum (p ∷ [])) = at_level (total (p.0 ∷ [])) 4 _ (Nodes.level_total (p.0 ∷ [])) (omega arith) (λ so. absurd (never so))
step_again (Sum (p ∷ q ∷ ps)) = at_level (total (trees (p ∷ q ∷ ps))) 4 _ (Nodes.level_total (trees (p ∷ q ∷ ps))) (omega arith) (λ so. own_total p q ps (and_second (are_many (map level (trees (p ∷ q ∷ ps)))) _ so))
step_again (Compare op p q) = at_level (compare op p.0 q.0) 3 _ (Nodes.level_compare op p.0 q.0) (omega arith) (λ so. own_compare op p q (and_first _ _ so) (and_second (is_tight 4 p.0) _ so))
step_again (Not p) = at_level (negation p.0) 3 (is_tight 3 p.0) (Nodes.level_negation p.0) (omega arith) (own_negation p)
step_again (Implies p q) = at_level (implies p.0 q.0) 0 _ (Nodes.level_implies p.0 q.0) (omega arith) (λ so. own_implies p q (and_first _ _ so) (and_second (is_tight 1 p.0) _ so))

pub again : (e : Logic) → Again e
again = ind-Logic Again (λ x y is. subst (λ z. Again (roll-Logic z)) is (step_again y))

-- a list of expressions is read as it is spelled

known : List Logic → List Known
known es = map (λ e. (e, again e)) es

trees_known : (es : List Logic) → trees (known es) ≡ es
unfolding known
trees_known [] = refl
trees_known (e ∷ es) = ap (λ xs. e ∷ xs) (trees_known es)

pub list_again : (e : Logic) (es : List Logic) (rest : List Word) (f : ℕ) → all_tight 0 (e ∷ es) ≡ true → ends (signs 0) rest ≡ true → behind (codes ",") rest ≡ None
    → 20 * length (commas (map logic_words (e ∷ es))) + 12 ≤ f → ◌≡◌ {A = Trees} (read f items (commas (map logic_words (e ∷ es)) ++ rest)) (Some (e ∷ es, rest))
list_again e es rest f =
    let Reread : List Logic → Type 0 = λ xs. all_tight 0 (e ∷ xs) ≡ true → ends (signs 0) rest ≡ true → behind (codes ",") rest ≡ None
    → 20 * length (commas (map logic_words (e ∷ xs))) + 12 ≤ f → ◌≡◌ {A = Trees} (read f items (commas (map logic_words (e ∷ xs)) ++ rest)) (Some (e ∷ xs, rest)) in
    subst Reread (trees_known es) (items_again (e, again e) (known es) rest f)
