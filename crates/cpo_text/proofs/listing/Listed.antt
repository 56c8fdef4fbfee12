-- A list is read as it is spelled, whatever its items are.
use Rattle.std.proofs.Common.{◌≡◌, ℕ, zero, suc, ◌<◌, Bool, true, false, List, [], ◌∷◌, ◌++◌, length, map, Option, Some, None, refl, sym, ap, ◌∙◌, arith, append_assoc, length-append}
use Rattle.std.specs.Prelude.{codes, Result, Ok, Err, IfOk}
use Rattle.cpo_text.specs.Words.{Word, size_word, commas, square}
use Rattle.cpo_text.specs.Words.Word.{sign}
use Rattle.cpo_text.specs.Parts.{minus_words, int_words, name_words, names_words, ints_words}
use Rattle.cpo_text.specs.Spelling.{step_words}
use Rattle.cpo_text.specs.code.Rules.{Found, bound, behind, if_behind, name_at, int_at, int_before}
use Rattle.cpo_text.specs.code.Lists.{after, items_more, items_at, listed_at, names_at, ints_at, rows_at, step_at, steps_at}
use Rattle.cpo_text.specs.code.Gives.{ahead, Gives}
use Rattle.cpo_text.specs.declared.fault.Fault.{Fault}
use Rattle.cpo_text.specs.declared.place.Place.{Place}
use Rattle.cpo_text.specs.declared.tree.Int.{Int}
use Rattle.cpo_text.specs.declared.tree.StepPair.{StepPair}
use Rattle.cpo_text.proofs.operands.Binds.{both, bound_parts, need_parts, some_pair, behind_takes, name_takes}
use Rattle.cpo_text.proofs.operands.Takes.{int_takes, int_before_takes}
use Rattle.cpo_text.proofs.stating.Again.{int_again, int_before_again}

-- what is read is spelled so, and what is spelled so is read, whatever follows; it is no bracket that ends a list
pub record Spells {X : Type 0} (read : List Word → Found X) (spell : X → List Word) : Type 0 where
  pub takes : (ws : List Word) (x : X) (rest : List Word) → read ws ≡ Some (x, rest) → ws ≡ spell x ++ rest
  pub again : (x : X) (rest : List Word) → read (spell x ++ rest) ≡ Some (x, rest)
  pub inner : (x : X) (rest : List Word) → behind (codes "]") (spell x ++ rest) ≡ None
  pub long : (x : X) → 0 < length (spell x)

pub spells_shorter : {X : Type 0} (read : List Word → Found X) (spell : X → List Word) → Spells read spell → (ws : List Word) (x : X) (rest : List Word) → read ws ≡ Some (x, rest) → length rest < length ws
spells_shorter read spell s ws x rest h = omega (arith, ap length (s.takes ws x rest h), length-append (spell x) rest, s.long x)

pub spells_later : {X : Type 0} (read : List Word → Found X) (spell : X → List Word) → Spells read spell → (ws : List Word) (result : Result (X × Place) Fault) → Gives result (read ws) → IfOk result (λ x. length (ahead x.1) < length ws)
spells_later read spell s ws (Ok x) h = spells_shorter read spell s ws x.0 (ahead x.1) h
spells_later read spell s ws (Err e) h = tt

-- what is read is spelled so

record Listed {X : Type 0} (spell : X → List Word) (ws : List Word) (all : List X) (rest : List Word) : Type 0 where
  pub first : X
  pub more : List X
  pub are : all ≡ first ∷ more
  pub spelt : ws ≡ commas (map spell (first ∷ more)) ++ rest

items_take : {X : Type 0} (read : List Word → Found X) (spell : X → List Word) → Spells read spell → (f : ℕ) (ws : List Word) (all : List X) (rest : List Word) → items_more read f ws ≡ Some (all, rest) → Listed spell ws all rest
items_take read spell s zero ws all rest h = cc
items_take {X} read spell s (suc f) ws all rest h =
    let p = bound_parts (read ws) _ all rest h in
    by_comma (items_take read spell s f) p.tree p.words (s.takes ws p.tree p.words p.first) (behind (codes ",") p.words) refl p.then
  where
    by_comma : ((ws : List Word) (all : List X) (rest : List Word) → items_more read f ws ≡ Some (all, rest) → Listed spell ws all rest) → (x : X) (r : List Word) → ws ≡ spell x ++ r → (o : Option (List Word)) → behind (codes ",") r ≡ o
        → if_behind o (λ r2. after (x ∷ []) (items_more read f r2)) (Some (x ∷ [], r)) ≡ Some (all, rest) → Listed spell ws all rest
    by_comma more x r begun None is h = let e = some_pair (x ∷ []) all r rest h in record { first = x; more = []; are = sym e.0; spelt = begun ∙ ap (λ xs. spell x ++ xs) e.1 }
    by_comma more x r begun (Some next) is h =
        let p = bound_parts (items_more read f next) _ all rest h in
        let e = some_pair (x ∷ p.tree) all p.words rest p.then in
        let l = more next p.tree p.words p.first in
        let others : List Word = commas (map spell (l.first ∷ l.more)) in
        record {
          first = x;
          more = l.first ∷ l.more;
          are = sym e.0 ∙ ap (λ xs. x ∷ xs) l.are;
          spelt = begun ∙ ap (λ ys. spell x ++ ys) (behind_takes (codes ",") r next is ∙ ap (λ ys. sign (codes ",") ∷ ys) (l.spelt ∙ ap (λ ys. others ++ ys) e.1))
              ∙ sym (append_assoc (spell x) (sign (codes ",") ∷ others) rest);
        }

listed_takes : {X : Type 0} (read : List Word → Found X) (spell : X → List Word) → Spells read spell → (ws : List Word) (all : List X) (rest : List Word) → listed_at read ws ≡ Some (all, rest) → ws ≡ square (map spell all) ++ rest
unfolding listed_at items_at
listed_takes {X} read spell s ws all rest h =
    let p = need_parts (behind (codes "[") ws) _ all rest h in
    by_close p.words (behind_takes (codes "[") ws p.words p.first) (behind (codes "]") p.words) refl p.then
  where
    by_close : (r : List Word) → ws ≡ sign (codes "[") ∷ r → (o : Option (List Word)) → behind (codes "]") r ≡ o
        → if_behind o (λ r2. Some ([], r2)) (bound (items_more read (length r) r) (λ xs r2. if_behind (behind (codes "]") r2) (λ r3. Some (xs, r3)) None)) ≡ Some (all, rest) → ws ≡ square (map spell all) ++ rest
    by_close r begun (Some r2) is h =
        let e = some_pair [] all r2 rest h in
        begun ∙ ap (λ xs. sign (codes "[") ∷ xs) (behind_takes (codes "]") r r2 is ∙ ap (λ xs. sign (codes "]") ∷ xs) e.1) ∙ ap (λ xs. square (map spell xs) ++ rest) e.0
    by_close r begun None is h =
        let p = bound_parts (items_more read (length r) r) _ all rest h in
        let q = need_parts (behind (codes "]") p.words) _ all rest p.then in
        let e = some_pair p.tree all q.words rest q.then in
        let l = items_take read spell s (length r) r p.tree p.words p.first in
        let words : List Word = commas (map spell (l.first ∷ l.more)) in
        begun ∙ ap (λ xs. sign (codes "[") ∷ xs)
        (l.spelt ∙ ap (λ xs. words ++ xs) (behind_takes (codes "]") p.words q.words q.first ∙ ap (λ xs. sign (codes "]") ∷ xs) e.1) ∙ sym (append_assoc words (sign (codes "]") ∷ []) rest))
        ∙ ap (λ xs. square (map spell xs) ++ rest) (sym l.are ∙ e.0)

-- what is spelled so is read

items_again : {X : Type 0} (read : List Word → Found X) (spell : X → List Word) → Spells read spell → (f : ℕ) (x : X) (xs : List X) (rest : List Word) → length xs < f → behind (codes ",") rest ≡ None
    → items_more read f (commas (map spell (x ∷ xs)) ++ rest) ≡ Some (x ∷ xs, rest)
items_again read spell s zero x xs rest enough end = absurd (omega arith)
items_again read spell s (suc f) x [] rest enough end = rw (s.again x rest) (rw end refl)
items_again read spell s (suc f) x (y ∷ ys) rest enough end =
    let others : List Word = commas (map spell (y ∷ ys)) in
    let later = items_again read spell s f y ys rest (omega arith) end in
    rw (append_assoc (spell x) (sign (codes ",") ∷ others) rest) (rw (s.again x (sign (codes ",") ∷ others ++ rest)) (rw later refl))

items_long : {X : Type 0} (read : List Word → Found X) (spell : X → List Word) → Spells read spell → (x : X) (xs : List X) → length xs < length (commas (map spell (x ∷ xs)))
items_long read spell s x [] = s.long x
items_long read spell s x (y ∷ ys) = omega (arith, items_long read spell s y ys, length-append (spell x) (sign (codes ",") ∷ commas (map spell (y ∷ ys))))

items_inner : {X : Type 0} (read : List Word → Found X) (spell : X → List Word) → Spells read spell → (x : X) (xs : List X) (rest : List Word) → behind (codes "]") (commas (map spell (x ∷ xs)) ++ rest) ≡ None
items_inner read spell s x [] rest = s.inner x rest
items_inner read spell s x (y ∷ ys) rest = rw (append_assoc (spell x) (sign (codes ",") ∷ commas (map spell (y ∷ ys))) rest) (s.inner x (sign (codes ",") ∷ commas (map spell (y ∷ ys)) ++ rest))

listed_again : {X : Type 0} (read : List Word → Found X) (spell : X → List Word) → Spells read spell → (xs : List X) (rest : List Word) → listed_at read (square (map spell xs) ++ rest) ≡ Some (xs, rest)
unfolding listed_at items_at
listed_again read spell s [] rest = refl
listed_again read spell s (x ∷ xs) rest =
    let words : List Word = commas (map spell (x ∷ xs)) in
    let close : List Word = sign (codes "]") ∷ rest in
    let long = items_long read spell s x xs in
    let open' = items_inner read spell s x xs close in
    let got = items_again read spell s (length (words ++ close)) x xs close (omega (arith, long, length-append words close)) refl in
    rw (append_assoc words (sign (codes "]") ∷ []) rest) (rw open' (rw got refl))

pub listed_spells : {X : Type 0} (read : List Word → Found X) (spell : X → List Word) → Spells read spell → Spells (listed_at read) (λ xs. square (map spell xs))
listed_spells read spell s = record {
  takes = listed_takes read spell s;
  again = listed_again read spell s;
  inner = λ xs rest. refl;
  long = λ xs. omega arith;
}

-- names, numbers, and rows of them

pub name_spells : Spells name_at name_words
name_spells = record { takes = name_takes; again = λ n rest. refl; inner = λ n rest. refl; long = λ n. omega arith }

int_inner : (i : Int) (rest : List Word) → behind (codes "]") (int_words i ++ rest) ≡ None
int_inner i rest = by_sign i.minus i.size
  where
    by_sign : (b : Bool) (o : Option ℕ) → behind (codes "]") ((minus_words b ++ size_word o ∷ []) ++ rest) ≡ None
    by_sign true o = refl
    by_sign false None = refl
    by_sign false (Some n) = refl

pub int_spells : Spells int_at int_words
int_spells = record { takes = int_takes; again = int_again; inner = int_inner; long = λ i. omega (arith, length-append (minus_words i.minus) (size_word i.size ∷ [])) }

pub names_spells : Spells names_at names_words
unfolding names_at
names_spells = listed_spells name_at name_words name_spells

pub ints_spells : Spells ints_at ints_words
unfolding ints_at
ints_spells = listed_spells int_at int_words int_spells

pub rows_spells : Spells rows_at (λ rows. square (map ints_words rows))
unfolding rows_at
rows_spells = listed_spells ints_at ints_words ints_spells

-- moments and values

two_words : (x y rest : List Word) → sign (codes "[") ∷ (x ++ sign (codes ",") ∷ (y ++ sign (codes "]") ∷ rest)) ≡ square (x ∷ y ∷ []) ++ rest
two_words x y rest = ap (λ xs. sign (codes "[") ∷ xs)
    (ap (λ xs. x ++ sign (codes ",") ∷ xs) (sym (append_assoc y (sign (codes "]") ∷ []) rest))
    ∙ sym (append_assoc x (sign (codes ",") ∷ (y ++ sign (codes "]") ∷ [])) rest)
    ∙ ap (λ xs. xs ++ rest) (sym (append_assoc x (sign (codes ",") ∷ y) (sign (codes "]") ∷ []))))

step_takes : (ws : List Word) (x : StepPair) (rest : List Word) → step_at ws ≡ Some (x, rest) → ws ≡ step_words x ++ rest
unfolding step_at
step_takes ws x rest h =
    let p = need_parts (behind (codes "[") ws) _ x rest h in
    let t = bound_parts (int_before (codes ",") p.words) _ x rest p.then in
    let v = bound_parts (int_before (codes "]") t.words) _ x rest t.then in
    let made : StepPair = record { moment = t.tree; value = v.tree } in
    let e = some_pair made x v.words rest v.then in
    behind_takes (codes "[") ws p.words p.first
    ∙ ap (λ xs. sign (codes "[") ∷ xs) (int_before_takes (codes ",") p.words t.tree t.words t.first ∙ ap (λ xs. int_words t.tree ++ sign (codes ",") ∷ xs) (int_before_takes (codes "]") t.words v.tree v.words v.first))
    ∙ two_words (int_words t.tree) (int_words v.tree) v.words
    ∙ both (λ y xs. step_words y ++ xs) e.0 e.1

step_again : (x : StepPair) (rest : List Word) → step_at (step_words x ++ rest) ≡ Some (x, rest)
unfolding step_at
step_again x rest =
    ap step_at (sym (two_words (int_words x.moment) (int_words x.value) rest))
    ∙ rw (int_before_again (codes ",") x.moment (int_words x.value ++ sign (codes "]") ∷ rest)) (rw (int_before_again (codes "]") x.value rest) refl)

pub step_spells : Spells step_at step_words
step_spells = record { takes = step_takes; again = step_again; inner = λ x rest. refl; long = λ x. omega arith }

pub steps_spells : Spells steps_at (λ ps. square (map step_words ps))
unfolding steps_at
steps_spells = listed_spells step_at step_words step_spells
