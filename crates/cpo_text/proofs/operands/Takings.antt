-- Whatever is read as an expression is the spelling of what was read.
use Rattle.std.proofs.Common.{◌≡◌, ℕ, zero, suc, Bool, true, false, ◌&&◌, cond, List, [], ◌∷◌, ◌++◌, length, map, Option, Some, None, refl, sym, ap, subst, ◌∙◌, arith, append_assoc, append-nil}
use Rattle.std.specs.Prelude.{codes, bytes_eq}
use Rattle.std.proofs.lemmas.Bool.Decides.{nat_tests}
use Rattle.std.proofs.lemmas.Bool.{and_from}
use Rattle.std.proofs.lemmas.Option.{same_Some}
use Rattle.cpo_text.specs.Words.{Word, between, commas, round}
use Rattle.cpo_text.specs.Words.Word.{name, number, large, sign, quoted}
use Rattle.cpo_text.specs.Spelling.{int_words, int_items, name_words}
use Rattle.cpo_text.specs.Expressions.{measure_word, gather_word, link_sign, link_level, comparison_sign, square, joined, all_joined, logic_words, level, at_least, are_many, gathers}
use Rattle.cpo_text.specs.code.Rules.{Found, bound, behind, if_behind, name_at, int_behind, enclosed_at}
use Rattle.cpo_text.specs.code.Levels.{Trees, Task, node, paired, read, inner, lit, group, presence, gathered, linked, neg, total, compare, negation, implies, comparison_of, with_rest, comparison_at, if_found, measure_of, gather_of, measured_at, gathered_none, gathered_behind, gathered_at, by_gather, by_measure, call_of, grouped_at, atom_of}
use Rattle.cpo_text.specs.code.Levels.Task.{logic, chain, unit, sum, term, atom, more, terms, items}
use Rattle.cpo_text.specs.declared.tree.Int.{Int}
use Rattle.cpo_text.specs.declared.expression.Measure.{Measure}
use Rattle.cpo_text.specs.declared.expression.Measure.TheVariants.{StartOf, EndOf, SizeOf, LengthOf}
use Rattle.cpo_text.specs.declared.expression.Gather.{Gather}
use Rattle.cpo_text.specs.declared.expression.Gather.TheVariants as gather
use Rattle.cpo_text.specs.declared.expression.Link.{Link}
use Rattle.cpo_text.specs.declared.expression.Link.TheVariants.{Times, And, Or}
use Rattle.cpo_text.specs.declared.expression.Comparison.{Comparison}
use Rattle.cpo_text.specs.declared.expression.Comparison.TheVariants.{Equal, NotEqual, AtMost, AtLeast, Below, Above}
use Rattle.cpo_text.specs.declared.expression.Logic.{Logic}
use Rattle.cpo_text.proofs.operands.Binds.{both, bound_parts, need_parts, some_pair, bytes_same, behind_takes, name_takes}
use Rattle.cpo_text.proofs.operands.Takes.{behind_words, int_behind_takes}
use Rattle.cpo_text.proofs.operands.Nodes
use Rattle.cpo_text.proofs.operands.Nodes.{is_tight, all_tight, looser, so_high}
use Rattle.cpo_text.proofs.operands.Took.{One, Many, Items, one_moved, prefix_took, pair_took, node_took, more_took, last_took, item_took}
use Rattle.cpo_text.proofs.operands.Openings.{plus_joined}

-- operands of a link behind its sign
abbrev pub behind_each : Link → List Logic → List Word
behind_each l [] = []
behind_each l (e ∷ es) = sign (link_sign l) ∷ logic_words e ++ behind_each l es

-- operands of a sum
abbrev pub added : List Logic → List Word
added es = all_joined (map logic_words es)

abbrev pub Took : Task → List Word → List Logic → List Word → Type 0
Took logic ws es rest = One 0 ws es rest
Took (chain l) ws es rest = One (link_level l) ws es rest
Took unit ws es rest = One 3 ws es rest
Took sum ws es rest = One 4 ws es rest
Took term ws es rest = One 5 ws es rest
Took atom ws es rest = One 7 ws es rest
Took (more l) ws es rest = Many (suc (link_level l)) (behind_each l) ws es rest
Took terms ws es rest = Many 5 added ws es rest
Took items ws es rest = Items ws es rest

abbrev pub Takes : ℕ → Type 0
Takes f = (t : Task) (ws : List Word) (es : List Logic) (rest : List Word) → read f t ws ≡ Some (es, rest) → Took t ws es rest

inner_took : (l : Link) (ws : List Word) (es : List Logic) (rest : List Word) → Took (inner l) ws es rest → One (suc (link_level l)) ws es rest
inner_took Times ws es rest h = h
inner_took And ws es rest h = h
inner_took Or ws es rest h = h

-- what the levels of the parts say of the level of a node

group_tight : (e : Logic) → is_tight 0 e ≡ true → is_tight 7 (group e) ≡ true
group_tight e h = subst (λ o. at_least 7 o ≡ true) (sym (Nodes.level_group e)) (so_high 7 7 (is_tight 0 e) h (omega arith))

neg_tight : (e : Logic) → is_tight 6 e ≡ true → is_tight 5 (neg e) ≡ true
neg_tight e h = subst (λ o. at_least 5 o ≡ true) (sym (Nodes.level_neg e)) (so_high 5 5 (is_tight 6 e) h (omega arith))

not_tight : (e : Logic) → is_tight 3 e ≡ true → is_tight 3 (negation e) ≡ true
not_tight e h = subst (λ o. at_least 3 o ≡ true) (sym (Nodes.level_negation e)) (so_high 3 3 (is_tight 3 e) h (omega arith))

implies_tight : (a b : Logic) → is_tight 1 a ≡ true → is_tight 0 b ≡ true → is_tight 0 (implies a b) ≡ true
implies_tight a b h k = subst (λ o. at_least 0 o ≡ true) (sym (Nodes.level_implies a b)) (so_high 0 0 (is_tight 1 a && is_tight 0 b) (and_from _ _ h k) (omega arith))

compare_tight : (op : Comparison) (a b : Logic) → is_tight 4 a ≡ true → is_tight 4 b ≡ true → is_tight 3 (compare op a b) ≡ true
compare_tight op a b h k = subst (λ o. at_least 3 o ≡ true) (sym (Nodes.level_compare op a b)) (so_high 3 3 (is_tight 4 a && is_tight 4 b) (and_from _ _ h k) (omega arith))

two : (x y : Logic) (ys : List Logic) → are_many (map level (x ∷ y ∷ ys)) ≡ true
two x y ys = let n = length (map level ys) in grind (arith, nat_tests)

linked_tight : (l : Link) (x y : Logic) (ys : List Logic) → all_tight (suc (link_level l)) (x ∷ y ∷ ys) ≡ true → is_tight (link_level l) (linked l (x ∷ y ∷ ys)) ≡ true
linked_tight l x y ys h = subst (λ o. at_least (link_level l) o ≡ true) (sym (Nodes.level_linked l (x ∷ y ∷ ys)))
    (so_high (link_level l) (link_level l) (are_many (map level (x ∷ y ∷ ys)) && all_tight (suc (link_level l)) (x ∷ y ∷ ys)) (and_from _ _ (two x y ys) h) (omega arith))

total_tight : (x y : Logic) (ys : List Logic) → all_tight 5 (x ∷ y ∷ ys) ≡ true → is_tight 4 (total (x ∷ y ∷ ys)) ≡ true
total_tight x y ys h = subst (λ o. at_least 4 o ≡ true) (sym (Nodes.level_total (x ∷ y ∷ ys)))
    (so_high 4 4 (are_many (map level (x ∷ y ∷ ys)) && all_tight 5 (x ∷ y ∷ ys)) (and_from _ _ (two x y ys) h) (omega arith))

-- words

between_each : (l : Link) (x y : Logic) (ys : List Logic) → between (link_sign l) (map logic_words (x ∷ y ∷ ys)) ≡ logic_words x ++ behind_each l (y ∷ ys)
between_each l x y [] = ap (λ xs. logic_words x ++ sign (link_sign l) ∷ xs) (sym (append-nil (logic_words y)))
between_each l x y (z ∷ zs) = ap (λ xs. logic_words x ++ sign (link_sign l) ∷ xs) (between_each l y z zs)

pub linked_words : (l : Link) (x y : Logic) (ys : List Logic) → logic_words (linked l (x ∷ y ∷ ys)) ≡ logic_words x ++ behind_each l (y ∷ ys)
linked_words l x y ys = Nodes.words_linked l (x ∷ y ∷ ys) ∙ between_each l x y ys

pub total_words : (x y : Logic) (ys : List Logic) → logic_words (total (x ∷ y ∷ ys)) ≡ logic_words x ++ added (y ∷ ys)
total_words x y ys = Nodes.words_total (x ∷ y ∷ ys)

-- an atom of known words
known : (e : Logic) (words : List Word) (ws : List Word) (es : List Logic) (r rest : List Word) → is_tight 7 e ≡ true → logic_words e ≡ words → ws ≡ words ++ r
    → ◌≡◌ {A = Trees} (Some (e ∷ [], r)) (Some (es, rest)) → One 7 ws es rest
known e words ws es r rest tight spell front h =
    let e' = some_pair (e ∷ []) es r rest h in
    record { tree = e; is = sym e'.0; spelt = front ∙ both (λ xs ys. xs ++ ys) (sym spell) e'.1; tight = tight }

some_level : (e : Logic) (o : Option ℕ) → level e ≡ o → at_least 7 o ≡ true → is_tight 7 e ≡ true
some_level e o is h = subst (λ p. at_least 7 p ≡ true) (sym is) h

-- calls

enclosed_takes : (ws : List Word) (a : List ℕ) (rest : List Word) → enclosed_at ws ≡ Some (a, rest) → ws ≡ sign (codes "(") ∷ name a ∷ sign (codes ")") ∷ rest
unfolding enclosed_at
enclosed_takes ws a rest h =
    let p = need_parts (behind (codes "(") ws) _ a rest h in
    let q = bound_parts (name_at p.words) _ a rest p.then in
    let r = need_parts (behind (codes ")") q.words) _ a rest q.then in
    let e = some_pair q.tree a r.words rest r.then in
    behind_takes (codes "(") ws p.words p.first ∙ ap (λ xs. sign (codes "(") ∷ xs) (name_takes p.words q.tree q.words q.first
    ∙ both (λ x xs. name x ∷ xs) e.0 (behind_takes (codes ")") q.words r.words r.first ∙ ap (λ xs. sign (codes ")") ∷ xs) e.1))

presence_took : (n : List ℕ) (ws : List Word) (es : List Logic) (rest : List Word) → bytes_eq n (codes "presenceOf") ≡ true → bound (enclosed_at ws) (λ a r. let x : List Logic × List Word = (presence a ∷ [], r) in Some x) ≡ Some (es, rest) → One 7 (name n ∷ ws) es rest
presence_took n ws es rest is h =
    let p = bound_parts (enclosed_at ws) _ es rest h in
    known (presence p.tree) _ (name n ∷ ws) es p.words rest (some_level _ _ (Nodes.level_presence p.tree) refl) (Nodes.words_presence p.tree)
    (both (λ x xs. name x ∷ xs) (bytes_same n (codes "presenceOf") is) (enclosed_takes ws p.tree p.words p.first)) p.then

pub measured_words : (a : List ℕ) (d : Option Int) (rest : List Word) → round (commas (name_words a ∷ int_items d)) ++ rest ≡ sign (codes "(") ∷ name a ∷ behind_words (codes ",") d ++ sign (codes ")") ∷ rest
measured_words a None rest = refl
measured_words a (Some i) rest = ap (λ xs. sign (codes "(") ∷ name a ∷ sign (codes ",") ∷ xs) (append_assoc (int_words i) (sign (codes ")") ∷ []) rest)

measured_took : (m : Measure) (ws : List Word) (es : List Logic) (rest : List Word) → measured_at m ws ≡ Some (es, rest) → One 7 (name (measure_word m) ∷ ws) es rest
unfolding measured_at
measured_took m ws es rest h =
    let p = need_parts (behind (codes "(") ws) _ es rest h in
    let q = bound_parts (name_at p.words) _ es rest p.then in
    let r = bound_parts (int_behind (codes ",") q.words) _ es rest q.then in
    let s = need_parts (behind (codes ")") r.words) _ es rest r.then in
    known (Nodes.measured m q.tree r.tree) _ (name (measure_word m) ∷ ws) es s.words rest (some_level _ _ (Nodes.level_measured m q.tree r.tree) refl) (Nodes.words_measured m q.tree r.tree)
    (ap (λ xs. name (measure_word m) ∷ xs) (behind_takes (codes "(") ws p.words p.first ∙ ap (λ xs. sign (codes "(") ∷ xs) (name_takes p.words q.tree q.words q.first
    ∙ ap (λ xs. name q.tree ∷ xs) (int_behind_takes (codes ",") q.words r.tree r.words r.first ∙ ap (λ xs. behind_words (codes ",") r.tree ++ xs) (behind_takes (codes ")") r.words s.words s.first)))
    ∙ sym (measured_words q.tree r.tree s.words)))
    s.then

measure_is : (n : List ℕ) (m : Measure) → measure_of n ≡ Some m → n ≡ measure_word m
measure_is n m h = by_word (bytes_eq n (codes "startOf")) refl (bytes_eq n (codes "endOf")) refl (bytes_eq n (codes "sizeOf")) refl (bytes_eq n (codes "lengthOf")) refl h
  where
    by_word : (a : Bool) → bytes_eq n (codes "startOf") ≡ a → (b : Bool) → bytes_eq n (codes "endOf") ≡ b → (c : Bool) → bytes_eq n (codes "sizeOf") ≡ c → (d : Bool) → bytes_eq n (codes "lengthOf") ≡ d
        → cond a (Some StartOf) (cond b (Some EndOf) (cond c (Some SizeOf) (cond d (Some LengthOf) None))) ≡ Some m → n ≡ measure_word m
    by_word true is b e c f d g h = bytes_same n (codes "startOf") is ∙ ap measure_word (same_Some StartOf m h)
    by_word false is true e c f d g h = bytes_same n (codes "endOf") e ∙ ap measure_word (same_Some EndOf m h)
    by_word false is false e true f d g h = bytes_same n (codes "sizeOf") f ∙ ap measure_word (same_Some SizeOf m h)
    by_word false is false e false f true g h = bytes_same n (codes "lengthOf") g ∙ ap measure_word (same_Some LengthOf m h)
    by_word false is false e false f false g h = cc

gather_is : (n : List ℕ) (g : Gather) → gather_of n ≡ Some g → n ≡ gather_word g
gather_is n g h = by_word (bytes_eq n (codes "max")) refl (bytes_eq n (codes "min")) refl (bytes_eq n (codes "sum")) refl h
  where
    by_word : (a : Bool) → bytes_eq n (codes "max") ≡ a → (b : Bool) → bytes_eq n (codes "min") ≡ b → (c : Bool) → bytes_eq n (codes "sum") ≡ c
        → cond a (Some gather.Max) (cond b (Some gather.Min) (cond c (Some gather.Sum) None)) ≡ Some g → n ≡ gather_word g
    by_word true is b e c f h = bytes_same n (codes "max") is ∙ ap gather_word (same_Some gather.Max g h)
    by_word false is true e c f h = bytes_same n (codes "min") e ∙ ap gather_word (same_Some gather.Min g h)
    by_word false is false e true f h = bytes_same n (codes "sum") f ∙ ap gather_word (same_Some gather.Sum g h)
    by_word false is false e false f h = cc

-- what stands behind a list's brackets
pub gathered_words : (es : List Logic) (rest : List Word)
    → round (commas (square (map logic_words es) ∷ [])) ++ rest ≡ sign (codes "(") ∷ sign (codes "[") ∷ commas (map logic_words es) ++ sign (codes "]") ∷ sign (codes ")") ∷ rest
gathered_words es rest =
    ap (λ xs. sign (codes "(") ∷ sign (codes "[") ∷ xs) (append_assoc (commas (map logic_words es) ++ sign (codes "]") ∷ []) (sign (codes ")") ∷ []) rest ∙ append_assoc (commas (map logic_words es)) (sign (codes "]") ∷ []) (sign (codes ")") ∷ rest))

gathers_some : (g : Gather) (x : Logic) (xs : List Logic) → gathers g (map level (x ∷ xs)) ≡ true
gathers_some gather.Max x xs = let n = length (map level xs) in grind (arith, nat_tests)
gathers_some gather.Min x xs = let n = length (map level xs) in grind (arith, nat_tests)
gathers_some gather.Sum x xs = refl

gathered_tight : (g : Gather) (es : List Logic) → gathers g (map level es) ≡ true → all_tight 0 es ≡ true → is_tight 7 (gathered g es) ≡ true
gathered_tight g es some all = subst (λ o. at_least 7 o ≡ true) (sym (Nodes.level_gathered g es)) (so_high 7 7 (gathers g (map level es) && all_tight 0 es) (and_from _ _ some all) (omega arith))

none_took : (g : Gather) (ws : List Word) (es : List Logic) (rest : List Word) → gathered_none g ws ≡ Some (es, rest)
    → One 7 (name (gather_word g) ∷ sign (codes "(") ∷ sign (codes "[") ∷ sign (codes "]") ∷ ws) es rest
none_took gather.Max ws es rest h = cc
none_took gather.Min ws es rest h = cc
none_took gather.Sum ws es rest h =
    let p = need_parts (behind (codes ")") ws) _ es rest h in
    known (gathered gather.Sum []) _ (name (codes "sum") ∷ sign (codes "(") ∷ sign (codes "[") ∷ sign (codes "]") ∷ ws) es p.words rest (gathered_tight gather.Sum [] refl refl) (Nodes.words_gathered gather.Sum [])
    (ap (λ xs. name (codes "sum") ∷ sign (codes "(") ∷ sign (codes "[") ∷ sign (codes "]") ∷ xs) (behind_takes (codes ")") ws p.words p.first)) p.then

abbrev Lists : (List Word → Trees) → Type 0
Lists list = (ws : List Word) (es : List Logic) (rest : List Word) → list ws ≡ Some (es, rest) → Items ws es rest

abbrev Wholes : (List Word → Trees) → Type 0
Wholes whole = (ws : List Word) (es : List Logic) (rest : List Word) → whole ws ≡ Some (es, rest) → One 0 ws es rest

behind_took : (list : List Word → Trees) → Lists list → (g : Gather) (ws : List Word) (es : List Logic) (rest : List Word) → gathered_behind g list ws ≡ Some (es, rest)
    → One 7 (name (gather_word g) ∷ sign (codes "(") ∷ sign (codes "[") ∷ ws) es rest
behind_took list lists g ws es rest h = by_close (behind (codes "]") ws) refl h
  where
    by_close : (o : Option (List Word)) → behind (codes "]") ws ≡ o
        → if_behind o (gathered_none g) (bound (list ws) (λ es r. if_behind (behind (codes "]") r) (λ r2. if_behind (behind (codes ")") r2) (λ r3. let x : List Logic × List Word = (gathered g es ∷ [], r3) in Some x) None) None)) ≡ Some (es, rest)
        → One 7 (name (gather_word g) ∷ sign (codes "(") ∷ sign (codes "[") ∷ ws) es rest
    by_close (Some r) is h =
        subst (λ xs. One 7 (name (gather_word g) ∷ sign (codes "(") ∷ sign (codes "[") ∷ xs) es rest) (sym (behind_takes (codes "]") ws r is)) (none_took g r es rest h)
    by_close None is h =
        let p = bound_parts (list ws) _ es rest h in
        let q = need_parts (behind (codes "]") p.words) _ es rest p.then in
        let r = need_parts (behind (codes ")") q.words) _ es rest q.then in
        let all = lists ws p.tree p.words p.first in
        let some : List Logic = all.first ∷ all.others in
        known (gathered g some) _ (name (gather_word g) ∷ sign (codes "(") ∷ sign (codes "[") ∷ ws) es r.words rest (gathered_tight g some (gathers_some g all.first all.others) all.tight) (Nodes.words_gathered g some)
        (ap (λ xs. name (gather_word g) ∷ xs) (ap (λ xs. sign (codes "(") ∷ sign (codes "[") ∷ xs) (all.spelt ∙ ap (λ xs. commas (map logic_words some) ++ xs)
        (behind_takes (codes "]") p.words q.words q.first ∙ ap (λ xs. sign (codes "]") ∷ xs) (behind_takes (codes ")") q.words r.words r.first))) ∙ sym (gathered_words some r.words)))
        (ap (λ (xs : List Logic). let x : List Logic × List Word = (gathered g xs ∷ [], r.words) in Some x) (sym all.are) ∙ r.then)

gathered_took : (list : List Word → Trees) → Lists list → (g : Gather) (ws : List Word) (es : List Logic) (rest : List Word) → gathered_at g list ws ≡ Some (es, rest) → One 7 (name (gather_word g) ∷ ws) es rest
unfolding gathered_at
gathered_took list lists g ws es rest h =
    let p = need_parts (behind (codes "(") ws) _ es rest h in
    let q = need_parts (behind (codes "[") p.words) _ es rest p.then in
    subst (λ xs. One 7 (name (gather_word g) ∷ xs) es rest) (sym (behind_takes (codes "(") ws p.words p.first ∙ ap (λ xs. sign (codes "(") ∷ xs) (behind_takes (codes "[") p.words q.words q.first)))
    (behind_took list lists g q.words es rest q.then)

call_took : (list : List Word → Trees) → Lists list → (n : List ℕ) (ws : List Word) (es : List Logic) (rest : List Word) → call_of n list ws ≡ Some (es, rest) → One 7 (name n ∷ ws) es rest
unfolding call_of
call_took list lists n ws es rest h = by_presence (bytes_eq n (codes "presenceOf")) refl h
  where
    by_gathering : (g : Option Gather) → gather_of n ≡ g → by_gather g list ws ≡ Some (es, rest) → One 7 (name n ∷ ws) es rest
    by_gathering None is h = cc
    by_gathering (Some g) is h = subst (λ x. One 7 (name x ∷ ws) es rest) (sym (gather_is n g is)) (gathered_took list lists g ws es rest h)

    by_measuring : (m : Option Measure) → measure_of n ≡ m → by_measure m (gather_of n) list ws ≡ Some (es, rest) → One 7 (name n ∷ ws) es rest
    by_measuring None is h = by_gathering (gather_of n) refl h
    by_measuring (Some m) is h = subst (λ x. One 7 (name x ∷ ws) es rest) (sym (measure_is n m is)) (measured_took m ws es rest h)

    by_presence : (b : Bool) → bytes_eq n (codes "presenceOf") ≡ b
        → cond b (bound (enclosed_at ws) (λ a r. let x : List Logic × List Word = (presence a ∷ [], r) in Some x)) (by_measure (measure_of n) (gather_of n) list ws) ≡ Some (es, rest) → One 7 (name n ∷ ws) es rest
    by_presence true is h = presence_took n ws es rest is h
    by_presence false is h = by_measuring (measure_of n) refl h

grouped_took : (whole : List Word → Trees) → Wholes whole → (ws : List Word) (es : List Logic) (rest : List Word) → grouped_at whole ws ≡ Some (es, rest) → One 7 (sign (codes "(") ∷ ws) es rest
unfolding grouped_at
grouped_took whole wholes ws es rest h =
    let p = bound_parts (whole ws) _ es rest h in
    let q = need_parts (behind (codes ")") p.words) _ es rest p.then in
    let one = wholes ws p.tree p.words p.first in
    known (group one.tree) _ (sign (codes "(") ∷ ws) es q.words rest (group_tight one.tree one.tight) (Nodes.words_group one.tree)
    (ap (λ xs. sign (codes "(") ∷ xs) (one.spelt ∙ ap (λ xs. logic_words one.tree ++ xs) (behind_takes (codes ")") p.words q.words q.first) ∙ sym (append_assoc (logic_words one.tree) (sign (codes ")") ∷ []) q.words)))
    (ap (λ (xs : List Logic). let x : List Logic × List Word = (map group xs, q.words) in Some x) (sym one.is) ∙ q.then)

atom_took : (whole list : List Word → Trees) → Wholes whole → Lists list → (ws : List Word) (es : List Logic) (rest : List Word) → atom_of whole list ws ≡ Some (es, rest) → One 7 ws es rest
atom_took whole list wholes lists [] es rest h = cc
atom_took whole list wholes lists (number n ∷ ws) es rest h = known (lit (Some n)) _ (number n ∷ ws) es ws rest (some_level _ _ (Nodes.level_lit (Some n)) refl) (Nodes.words_lit (Some n)) refl h
atom_took whole list wholes lists (large ∷ ws) es rest h = known (lit None) _ (large ∷ ws) es ws rest (some_level _ _ (Nodes.level_lit None) refl) (Nodes.words_lit None) refl h
atom_took whole list wholes lists (sign s ∷ ws) es rest h = by_open (bytes_eq (codes "(") s) refl h
  where
    by_open : (b : Bool) → bytes_eq (codes "(") s ≡ b → cond b (grouped_at whole ws) None ≡ Some (es, rest) → One 7 (sign s ∷ ws) es rest
    by_open true is h = subst (λ x. One 7 (sign x ∷ ws) es rest) (bytes_same (codes "(") s is) (grouped_took whole wholes ws es rest h)
    by_open false is h = cc
atom_took whole list wholes lists (name n ∷ ws) es rest h = call_took list lists n ws es rest h
atom_took whole list wholes lists (quoted ∷ ws) es rest h = cc

-- comparisons

comparison_is : (s : List ℕ) (op : Comparison) → comparison_of s ≡ Some op → s ≡ comparison_sign op
comparison_is s op h = by_sign (bytes_eq s (codes "==")) refl (bytes_eq s (codes "!=")) refl (bytes_eq s (codes "<=")) refl (bytes_eq s (codes ">=")) refl (bytes_eq s (codes "<")) refl (bytes_eq s (codes ">")) refl h
  where
    by_sign : (a : Bool) → bytes_eq s (codes "==") ≡ a → (b : Bool) → bytes_eq s (codes "!=") ≡ b → (c : Bool) → bytes_eq s (codes "<=") ≡ c → (d : Bool) → bytes_eq s (codes ">=") ≡ d
        → (e : Bool) → bytes_eq s (codes "<") ≡ e → (f : Bool) → bytes_eq s (codes ">") ≡ f
        → cond a (Some Equal) (cond b (Some NotEqual) (cond c (Some AtMost) (cond d (Some AtLeast) (cond e (Some Below) (cond f (Some Above) None))))) ≡ Some op → s ≡ comparison_sign op
    by_sign true ia b ib c ic d id e ie f if' h = bytes_same s (codes "==") ia ∙ ap comparison_sign (same_Some Equal op h)
    by_sign false ia true ib c ic d id e ie f if' h = bytes_same s (codes "!=") ib ∙ ap comparison_sign (same_Some NotEqual op h)
    by_sign false ia false ib true ic d id e ie f if' h = bytes_same s (codes "<=") ic ∙ ap comparison_sign (same_Some AtMost op h)
    by_sign false ia false ib false ic true id e ie f if' h = bytes_same s (codes ">=") id ∙ ap comparison_sign (same_Some AtLeast op h)
    by_sign false ia false ib false ic false id true ie f if' h = bytes_same s (codes "<") ie ∙ ap comparison_sign (same_Some Below op h)
    by_sign false ia false ib false ic false id false ie true if' h = bytes_same s (codes ">") if' ∙ ap comparison_sign (same_Some Above op h)
    by_sign false ia false ib false ic false id false ie false if' h = cc

pub comparison_takes : (ws : List Word) (op : Comparison) (r : List Word) → comparison_at ws ≡ Some (op, r) → ws ≡ sign (comparison_sign op) ∷ r
unfolding comparison_at
comparison_takes [] op r h = cc
comparison_takes (name n ∷ ws) op r h = cc
comparison_takes (number n ∷ ws) op r h = cc
comparison_takes (large ∷ ws) op r h = cc
comparison_takes (quoted ∷ ws) op r h = cc
comparison_takes (sign s ∷ ws) op r h = by_found (comparison_of s) refl h
  where
    by_found : (o : Option Comparison) → comparison_of s ≡ o → with_rest o ws ≡ Some (op, r) → sign s ∷ ws ≡ sign (comparison_sign op) ∷ r
    by_found None is h = cc
    by_found (Some p) is h = let e = some_pair p op ws r h in both (λ x xs. sign x ∷ xs) (comparison_is s p is ∙ ap comparison_sign e.0) e.1

-- the levels

logic_takes : (f : ℕ) → Takes f → (ws : List Word) (es : List Logic) (rest : List Word) → read (suc f) logic ws ≡ Some (es, rest) → One 0 ws es rest
logic_takes f ih ws es rest h =
    let p = bound_parts (read f (chain Or) ws) _ es rest h in
    by_arrow p.tree p.words (ih (chain Or) ws p.tree p.words p.first) (behind (codes "=>") p.words) refl p.then
  where
    by_arrow : (a : List Logic) (r : List Word) → One 1 ws a r → (o : Option (List Word)) → behind (codes "=>") r ≡ o
        → if_behind o (λ r2. bound (read f logic r2) (λ b r3. let x : List Logic × List Word = (paired implies a b, r3) in Some x)) (Some (a, r)) ≡ Some (es, rest) → One 0 ws es rest
    by_arrow a r one None is h = let e = some_pair a es r rest h in one_moved 0 1 ws a es r rest (omega arith) one e.0 e.1
    by_arrow a r one (Some r2) is h =
        let q = bound_parts (read f logic r2) _ es rest h in
        let e = some_pair (paired implies a q.tree) es q.words rest q.then in
        pair_took implies (codes "=>") 1 0 0 ws r a q.tree es r2 q.words rest Nodes.words_implies implies_tight one (behind_takes (codes "=>") r r2 is) (ih logic r2 q.tree q.words q.first) e.0 e.1

chain_takes : (f : ℕ) → Takes f → (l : Link) (ws : List Word) (es : List Logic) (rest : List Word) → read (suc f) (chain l) ws ≡ Some (es, rest) → One (link_level l) ws es rest
chain_takes f ih l ws es rest h =
    let p = bound_parts (read f (inner l) ws) _ es rest h in
    let q = bound_parts (read f (more l) p.words) _ es rest p.then in
    let e = some_pair (node (linked l) (p.tree ++ q.tree)) es q.words rest q.then in
    node_took (linked l) (behind_each l) (suc (link_level l)) (link_level l) ws p.words p.tree q.tree es q.words rest (omega arith) (linked_words l) refl (linked_tight l)
    (inner_took l ws p.tree p.words (ih (inner l) ws p.tree p.words p.first)) (ih (more l) p.words q.tree q.words q.first) e.0 e.1

sum_takes : (f : ℕ) → Takes f → (ws : List Word) (es : List Logic) (rest : List Word) → read (suc f) sum ws ≡ Some (es, rest) → One 4 ws es rest
sum_takes f ih ws es rest h =
    let p = bound_parts (read f term ws) _ es rest h in
    let q = bound_parts (read f terms p.words) _ es rest p.then in
    let e = some_pair (node total (p.tree ++ q.tree)) es q.words rest q.then in
    node_took total added 5 4 ws p.words p.tree q.tree es q.words rest (omega arith) total_words refl total_tight (ih term ws p.tree p.words p.first) (ih terms p.words q.tree q.words q.first) e.0 e.1

term_takes : (f : ℕ) → Takes f → (ws : List Word) (es : List Logic) (rest : List Word) → read (suc f) term ws ≡ Some (es, rest) → One 5 ws es rest
term_takes f ih ws es rest h = by_minus (behind (codes "-") ws) refl h
  where
    by_minus : (o : Option (List Word)) → behind (codes "-") ws ≡ o
        → if_behind o (λ r. bound (read f (chain Times) r) (λ a r2. let x : List Logic × List Word = (map neg a, r2) in Some x)) (read f (chain Times) ws) ≡ Some (es, rest) → One 5 ws es rest
    by_minus None is h = one_moved 5 6 ws es es rest rest (omega arith) (ih (chain Times) ws es rest h) refl refl
    by_minus (Some r) is h =
        let p = bound_parts (read f (chain Times) r) _ es rest h in
        let e = some_pair (map neg p.tree) es p.words rest p.then in
        prefix_took neg (codes "-") 6 5 ws r p.tree es p.words rest Nodes.words_neg neg_tight (behind_takes (codes "-") ws r is) (ih (chain Times) r p.tree p.words p.first) e.0 e.1

unit_takes : (f : ℕ) → Takes f → (ws : List Word) (es : List Logic) (rest : List Word) → read (suc f) unit ws ≡ Some (es, rest) → One 3 ws es rest
unit_takes f ih ws es rest h = by_not (behind (codes "!") ws) refl h
  where
    by_comparison : (a : List Logic) (r : List Word) → One 4 ws a r → (o : Found Comparison) → comparison_at r ≡ o
        → if_found o (λ op r2. bound (read f sum r2) (λ b r3. let x : List Logic × List Word = (paired (compare op) a b, r3) in Some x)) (Some (a, r)) ≡ Some (es, rest) → One 3 ws es rest
    by_comparison a r one None is h = let e = some_pair a es r rest h in one_moved 3 4 ws a es r rest (omega arith) one e.0 e.1
    by_comparison a r one (Some p) is h =
        let q = bound_parts (read f sum p.1) _ es rest h in
        let e = some_pair (paired (compare p.0) a q.tree) es q.words rest q.then in
        pair_took (compare p.0) (comparison_sign p.0) 4 4 3 ws r a q.tree es p.1 q.words rest (Nodes.words_compare p.0) (compare_tight p.0) one (comparison_takes r p.0 p.1 is) (ih sum p.1 q.tree q.words q.first) e.0 e.1

    by_not : (o : Option (List Word)) → behind (codes "!") ws ≡ o
        → if_behind o (λ r. bound (read f unit r) (λ a r2. let x : List Logic × List Word = (map negation a, r2) in Some x))
        (bound (read f sum ws) (λ a r. if_found (comparison_at r) (λ op r2. bound (read f sum r2) (λ b r3. let x : List Logic × List Word = (paired (compare op) a b, r3) in Some x)) (Some (a, r)))) ≡ Some (es, rest) → One 3 ws es rest
    by_not (Some r) is h =
        let p = bound_parts (read f unit r) _ es rest h in
        let e = some_pair (map negation p.tree) es p.words rest p.then in
        prefix_took negation (codes "!") 3 3 ws r p.tree es p.words rest Nodes.words_negation not_tight (behind_takes (codes "!") ws r is) (ih unit r p.tree p.words p.first) e.0 e.1
    by_not None is h =
        let p = bound_parts (read f sum ws) _ es rest h in
        by_comparison p.tree p.words (ih sum ws p.tree p.words p.first) (comparison_at p.words) refl p.then

no_operands : (n : ℕ) (words : List Logic → List Word) (ws : List Word) (es : List Logic) (rest : List Word) → words [] ≡ [] → ◌≡◌ {A = Trees} (Some ([], ws)) (Some (es, rest)) → Many n words ws es rest
no_operands n words ws es rest none h =
    let e = some_pair [] es ws rest h in
    subst (λ xs. Many n words ws xs rest) e.0 (record { spelt = e.1 ∙ ap (λ xs. xs ++ rest) (sym none); tight = refl })

more_takes : (f : ℕ) → Takes f → (l : Link) (ws : List Word) (es : List Logic) (rest : List Word) → read (suc f) (more l) ws ≡ Some (es, rest) → Many (suc (link_level l)) (behind_each l) ws es rest
more_takes f ih l ws es rest h = by_sign (behind (link_sign l) ws) refl h
  where
    by_sign : (o : Option (List Word)) → behind (link_sign l) ws ≡ o
        → if_behind o (λ r. bound (read f (inner l) r) (λ a r2. bound (read f (more l) r2) (λ b r3. let x : List Logic × List Word = (a ++ b, r3) in Some x))) (Some ([], ws)) ≡ Some (es, rest)
        → Many (suc (link_level l)) (behind_each l) ws es rest
    by_sign None is h = no_operands (suc (link_level l)) (behind_each l) ws es rest refl h
    by_sign (Some r) is h =
        let p = bound_parts (read f (inner l) r) _ es rest h in
        let q = bound_parts (read f (more l) p.words) _ es rest p.then in
        let e = some_pair (p.tree ++ q.tree) es q.words rest q.then in
        more_took (behind_each l) (λ x. x) (λ xs. xs) (link_sign l) (suc (link_level l)) (suc (link_level l)) ws r p.tree q.tree es p.words q.words rest (λ x. refl) (λ x t. t) (λ x xs t. refl)
        (behind_takes (link_sign l) ws r is) (inner_took l r p.tree p.words (ih (inner l) r p.tree p.words p.first)) (ih (more l) p.words q.tree q.words q.first) e.0 e.1

terms_takes : (f : ℕ) → Takes f → (ws : List Word) (es : List Logic) (rest : List Word) → read (suc f) terms ws ≡ Some (es, rest) → Many 5 added ws es rest
terms_takes f ih ws es rest h = by_plus (behind (codes "+") ws) refl h
  where
    by_minus : (o : Option (List Word)) → behind (codes "-") ws ≡ o
        → if_behind o (λ r. bound (read f (chain Times) r) (λ a r2. bound (read f terms r2) (λ b r3. let x : List Logic × List Word = (map neg a ++ b, r3) in Some x))) (Some ([], ws)) ≡ Some (es, rest) → Many 5 added ws es rest
    by_minus None is h = no_operands 5 added ws es rest refl h
    by_minus (Some r) is h =
        let p = bound_parts (read f (chain Times) r) _ es rest h in
        let q = bound_parts (read f terms p.words) _ es rest p.then in
        let e = some_pair (map neg p.tree ++ q.tree) es q.words rest q.then in
        more_took added neg (map neg) (codes "-") 6 5 ws r p.tree q.tree es p.words q.words rest (λ x. refl) neg_tight (λ x xs t. ap (λ ys. joined ys ++ added xs) (Nodes.words_neg x))
        (behind_takes (codes "-") ws r is) (ih (chain Times) r p.tree p.words p.first) (ih terms p.words q.tree q.words q.first) e.0 e.1

    by_plus : (o : Option (List Word)) → behind (codes "+") ws ≡ o
        → if_behind o (λ r. bound (read f (chain Times) r) (λ a r2. bound (read f terms r2) (λ b r3. let x : List Logic × List Word = (a ++ b, r3) in Some x)))
        (if_behind (behind (codes "-") ws) (λ r. bound (read f (chain Times) r) (λ a r2. bound (read f terms r2) (λ b r3. let x : List Logic × List Word = (map neg a ++ b, r3) in Some x))) (Some ([], ws))) ≡ Some (es, rest) → Many 5 added ws es rest
    by_plus None is h = by_minus (behind (codes "-") ws) refl h
    by_plus (Some r) is h =
        let p = bound_parts (read f (chain Times) r) _ es rest h in
        let q = bound_parts (read f terms p.words) _ es rest p.then in
        let e = some_pair (p.tree ++ q.tree) es q.words rest q.then in
        more_took added (λ x. x) (λ xs. xs) (codes "+") 6 5 ws r p.tree q.tree es p.words q.words rest (λ x. refl) (λ x t. looser 5 6 (level x) (omega arith) t) (λ x xs t. ap (λ ys. ys ++ added xs) (plus_joined x t))
        (behind_takes (codes "+") ws r is) (ih (chain Times) r p.tree p.words p.first) (ih terms p.words q.tree q.words q.first) e.0 e.1

items_takes : (f : ℕ) → Takes f → (ws : List Word) (es : List Logic) (rest : List Word) → read (suc f) items ws ≡ Some (es, rest) → Items ws es rest
items_takes f ih ws es rest h =
    let p = bound_parts (read f logic ws) _ es rest h in
    by_comma p.tree p.words (ih logic ws p.tree p.words p.first) (behind (codes ",") p.words) refl p.then
  where
    by_comma : (a : List Logic) (r : List Word) → One 0 ws a r → (o : Option (List Word)) → behind (codes ",") r ≡ o
        → if_behind o (λ r2. bound (read f items r2) (λ b r3. let x : List Logic × List Word = (a ++ b, r3) in Some x)) (Some (a, r)) ≡ Some (es, rest) → Items ws es rest
    by_comma a r one None is h = let e = some_pair a es r rest h in last_took ws r a es rest one e.0 e.1
    by_comma a r one (Some r2) is h =
        let q = bound_parts (read f items r2) _ es rest h in
        let e = some_pair (a ++ q.tree) es q.words rest q.then in
        item_took ws r r2 a q.tree es q.words rest one (behind_takes (codes ",") r r2 is) (ih items r2 q.tree q.words q.first) e.0 e.1

pub takes : (f : ℕ) → Takes f
takes zero t ws es rest h = cc
takes (suc f) logic ws es rest h = logic_takes f (takes f) ws es rest h
takes (suc f) (chain l) ws es rest h = chain_takes f (takes f) l ws es rest h
takes (suc f) unit ws es rest h = unit_takes f (takes f) ws es rest h
takes (suc f) sum ws es rest h = sum_takes f (takes f) ws es rest h
takes (suc f) term ws es rest h = term_takes f (takes f) ws es rest h
takes (suc f) atom ws es rest h = atom_took (read f logic) (read f items) (λ us xs r k. takes f logic us xs r k) (λ us xs r k. takes f items us xs r k) ws es rest h
takes (suc f) (more l) ws es rest h = more_takes f (takes f) l ws es rest h
takes (suc f) terms ws es rest h = terms_takes f (takes f) ws es rest h
takes (suc f) items ws es rest h = items_takes f (takes f) ws es rest h
