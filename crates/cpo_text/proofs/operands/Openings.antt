-- Where the words of an expression begin, by its level.
use Rattle.std.proofs.Common.{◌≡◌, ℕ, suc, ◌<◌, ◌≤◌, Bool, true, false, ◌&&◌, List, [], ◌∷◌, ◌++◌, length, map, Option, Some, None, refl, sym, subst, ◌∙◌, arith, append-nil}
use Rattle.std.specs.Prelude.{codes, bytes_eq, if◌then◌else◌}
use Rattle.cpo_text.specs.Words.{Word, between}
use Rattle.cpo_text.specs.Words.Word.{name, number, large, sign, quoted}
use Rattle.cpo_text.specs.Expressions.{link_sign, joined, all_joined, sum_words, logic_step, logic_words, at_least, all_at_least, are_many, link_level, level_step, level}
use Rattle.cpo_text.specs.code.Rules.{behind}
use Rattle.cpo_text.specs.declared.expression.Logic.{Logic, roll-Logic}
use Rattle.cpo_text.specs.declared.expression.Logic.TheOpen.{Logic-F}
use Rattle.cpo_text.specs.declared.expression.Logic.TheOpen.Logic-F.{Lit, Group, PresenceOf, Measured, Gathered, Linked, Neg, Sum, Compare, Not, Implies}
use Rattle.cpo_text.specs.declared.expression.Logic.TheFolds.{fold-roll-Logic, ind-Logic, map-Logic}
use Rattle.cpo_text.proofs.operands.Binds.{bytes_same}
use Rattle.cpo_text.proofs.operands.Nodes.{and_first, and_second, is_so, not_higher, looser}
use Rattle.cpo_text.specs.lemmas.Folds.{composed}

-- how tightly an expression may hold together that begins so
abbrev pub front_level : List Word → Option ℕ
front_level [] = None
front_level (name n ∷ ws) = Some 7
front_level (number n ∷ ws) = Some 7
front_level (large ∷ ws) = Some 7
front_level (sign s ∷ ws) = if bytes_eq (codes "(") s then Some 7 else (if bytes_eq (codes "-") s then Some 5 else (if bytes_eq (codes "!") s then Some 3 else None))
front_level (quoted ∷ ws) = None

abbrev pub Opens : Logic → Type 0
Opens e = (n : ℕ) → at_least n (level e) ≡ true → at_least n (front_level (logic_words e)) ≡ true

abbrev pub Known : Type 0
Known = (e : Logic) × Opens e

pub front_append : (xs ys : List Word) (n : ℕ) → at_least n (front_level xs) ≡ true → at_least n (front_level (xs ++ ys)) ≡ true
front_append [] ys n h = cc
front_append (name m ∷ ws) ys n h = h
front_append (number m ∷ ws) ys n h = h
front_append (large ∷ ws) ys n h = h
front_append (sign s ∷ ws) ys n h = h
front_append (quoted ∷ ws) ys n h = h

-- the first of some operands stands in front
first_opens : (n m : ℕ) (f : List (List Word) → List Word) → n ≤ m → ((x : List Word) (xs : List (List Word)) → (rest : List Word) × (f (x ∷ xs) ≡ x ++ rest))
    → (ps : List Known) → (are_many (map (λ p. level p.0) ps) && all_at_least m (map (λ p. level p.0) ps)) ≡ true → at_least n (front_level (f (map (λ p. logic_words p.0) ps))) ≡ true
first_opens n m f below front [] h = cc
first_opens n m f below front (p ∷ ps) h =
    let first = front (logic_words p.0) (map (λ q. logic_words q.0) ps) in
    let tight = and_first _ _ (and_second (are_many (map (λ q. level q.0) (p ∷ ps))) _ h) in
    subst (λ ws. at_least n (front_level ws) ≡ true) (sym first.1) (front_append (logic_words p.0) first.0 n (p.1 n (looser n m (level p.0) below tight)))

pub front_between : (s : List ℕ) (x : List Word) (xs : List (List Word)) → (rest : List Word) × (between s (x ∷ xs) ≡ x ++ rest)
front_between s x [] = ([], sym (append-nil x))
front_between s x (y ∷ ys) = (sign s ∷ between s (y ∷ ys), refl)

pub front_sum : (x : List Word) (xs : List (List Word)) → (rest : List Word) × (sum_words (x ∷ xs) ≡ x ++ rest)
front_sum x xs = (all_joined xs, refl)

at_most_seven : (n m : ℕ) → n ≤ m → m ≤ 7 → at_least n (Some 7) ≡ true
at_most_seven n m below small = looser n 7 (Some 7) (omega arith) refl

step_opens : (y : Logic-F Known) (n : ℕ) → at_least n (level_step (map-Logic Known (Option ℕ) (λ p. level p.0) y)) ≡ true → at_least n (front_level (logic_step (map-Logic Known (List Word) (λ p. logic_words p.0) y))) ≡ true
step_opens (Lit (Some m)) n h = h
step_opens (Lit None) n h = h
step_opens (Group p) n h = at_most_seven n 7 (not_higher n 7 _ h) (omega arith)
step_opens (PresenceOf a) n h = h
step_opens (Measured how a d) n h = h
step_opens (Gathered g ps) n h = at_most_seven n 7 (not_higher n 7 _ h) (omega arith)
step_opens (Linked l ps) n h = first_opens n (suc (link_level l)) (between (link_sign l)) (let b = not_higher n (link_level l) _ h in omega arith) (front_between (link_sign l)) ps (is_so n (link_level l) _ h)
step_opens (Neg p) n h = looser n 5 (Some 5) (not_higher n 5 _ h) refl
step_opens (Sum ps) n h = first_opens n 5 sum_words (let b = not_higher n 4 _ h in omega arith) front_sum ps (is_so n 4 _ h)
step_opens (Compare op p q) n h = front_append (logic_words p.0) _ n (p.1 n (looser n 4 (level p.0) (let b = not_higher n 3 _ h in omega arith) (and_first _ _ (is_so n 3 _ h))))
step_opens (Not p) n h = looser n 3 (Some 3) (not_higher n 3 _ h) refl
step_opens (Implies p q) n h = front_append (logic_words p.0) _ n (p.1 n (looser n 1 (level p.0) (let b = not_higher n 0 _ h in omega arith) (and_first _ _ (is_so n 0 _ h))))

pub words_open : (e : Logic) → Opens e
words_open = ind-Logic Opens (λ x y is. subst (λ z. Opens (roll-Logic z)) is (λ n h.
    rw (fold-roll-Logic (List Word) logic_step, composed Opens (List Word) logic_words y)
    (step_opens y n (rw (fold-roll-Logic (Option ℕ) level_step, composed Opens (Option ℕ) level y) at h))))

-- no minus stands before a product, and no `!` before a sum

apart : (a b s : List ℕ) → bytes_eq b a ≡ false → bytes_eq a s ≡ true → bytes_eq b s ≡ true → ⊥
apart a b s differ is also = let e = subst (λ x. bytes_eq b x ≡ true) (sym (bytes_same a s is)) also in cc (sym e ∙ differ)

level_of_sign : (n : ℕ) (s : List ℕ) → at_least n (front_level (sign s ∷ [])) ≡ true → 6 ≤ n → bytes_eq (codes "-") s ≡ false
level_of_sign n s h high = decided (bytes_eq (codes "-") s) refl (bytes_eq (codes "(") s) refl h
  where
    decided : (b : Bool) → bytes_eq (codes "-") s ≡ b → (c : Bool) → bytes_eq (codes "(") s ≡ c
        → at_least n (if c then Some 7 else (if b then Some 5 else (if bytes_eq (codes "!") s then Some 3 else None))) ≡ true → b ≡ false
    decided false is c e h = refl
    decided true is false e h = let low = not_higher n 5 true h in absurd (omega arith)
    decided true is true e h = absurd (apart (codes "-") (codes "(") s refl is e)

level_of_not : (n : ℕ) (s : List ℕ) → at_least n (front_level (sign s ∷ [])) ≡ true → 4 ≤ n → bytes_eq (codes "!") s ≡ false
level_of_not n s h high = decided (bytes_eq (codes "!") s) refl (bytes_eq (codes "(") s) refl (bytes_eq (codes "-") s) refl h
  where
    decided : (b : Bool) → bytes_eq (codes "!") s ≡ b → (c : Bool) → bytes_eq (codes "(") s ≡ c → (d : Bool) → bytes_eq (codes "-") s ≡ d
        → at_least n (if c then Some 7 else (if d then Some 5 else (if b then Some 3 else None))) ≡ true → b ≡ false
    decided false is c e d f h = refl
    decided true is false e false f h = let low = not_higher n 3 true h in absurd (omega arith)
    decided true is true e d f h = absurd (apart (codes "!") (codes "(") s refl is e)
    decided true is false e true f h = absurd (apart (codes "!") (codes "-") s refl is f)

no_minus : (ws : List Word) → at_least 6 (front_level ws) ≡ true → behind (codes "-") ws ≡ None
no_minus [] h = refl
no_minus (name m ∷ ws) h = refl
no_minus (number m ∷ ws) h = refl
no_minus (large ∷ ws) h = refl
no_minus (quoted ∷ ws) h = refl
no_minus (sign s ∷ ws) h = rw (level_of_sign 6 s h (omega arith)) refl

no_not : (ws : List Word) → at_least 4 (front_level ws) ≡ true → behind (codes "!") ws ≡ None
no_not [] h = refl
no_not (name m ∷ ws) h = refl
no_not (number m ∷ ws) h = refl
no_not (large ∷ ws) h = refl
no_not (quoted ∷ ws) h = refl
no_not (sign s ∷ ws) h = rw (level_of_not 4 s h (omega arith)) refl

pub minus_free : (e : Logic) (rest : List Word) → at_least 6 (level e) ≡ true → behind (codes "-") (logic_words e ++ rest) ≡ None
minus_free e rest h = no_minus (logic_words e ++ rest) (front_append (logic_words e) rest 6 (words_open e 6 h))

pub not_free : (e : Logic) (rest : List Word) → at_least 4 (level e) ≡ true → behind (codes "!") (logic_words e ++ rest) ≡ None
not_free e rest h = no_not (logic_words e ++ rest) (front_append (logic_words e) rest 4 (words_open e 4 h))

-- so `+` stands before a product that is added
joined_front : (ws : List Word) → at_least 6 (front_level ws) ≡ true → joined ws ≡ sign (codes "+") ∷ ws
joined_front [] h = cc
joined_front (name m ∷ ws) h = refl
joined_front (number m ∷ ws) h = refl
joined_front (large ∷ ws) h = refl
joined_front (quoted ∷ ws) h = refl
joined_front (sign s ∷ ws) h = rw (level_of_sign 6 s h (omega arith)) refl

pub plus_joined : (e : Logic) → at_least 6 (level e) ≡ true → joined (logic_words e) ≡ sign (codes "+") ∷ logic_words e
plus_joined e h = joined_front (logic_words e) (words_open e 6 h)

-- and none of these begins
words_some : (ws : List Word) (n : ℕ) → at_least n (front_level ws) ≡ true → 0 < length ws
words_some [] n h = cc
words_some (w ∷ ws) n h = omega arith

pub some_words : (e : Logic) (n : ℕ) → at_least n (level e) ≡ true → 0 < length (logic_words e)
some_words e n h = words_some (logic_words e) n (words_open e n h)
