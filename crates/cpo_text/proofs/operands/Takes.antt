-- What a rule takes is spelled so.
use Rattle.std.proofs.Common.{◌≡◌, ℕ, ◌<◌, Bool, true, false, cond, List, [], ◌∷◌, ◌++◌, length, Option, Some, None, refl, sym, ap, ◌∙◌, arith, append_assoc, length-append}
use Rattle.std.specs.Prelude.{codes, bytes_eq}
use Rattle.cpo_text.specs.Words.{Word, size_word}
use Rattle.cpo_text.specs.Words.Word.{name, number, large, sign, quoted}
use Rattle.cpo_text.specs.Spelling.{int_words, to_words, range_words, given, ivarg_words}
use Rattle.cpo_text.specs.code.Rules.{bound, behind, if_behind, name_at, size_at, signed_at, int_at, name_before, int_before, int_behind, range_at, given_at, ivarg_of, ivarg_at}
use Rattle.cpo_text.specs.declared.tree.Int.{Int}
use Rattle.cpo_text.specs.declared.tree.Range.{Range}
use Rattle.cpo_text.specs.declared.tree.Ivarg.{Ivarg}
use Rattle.cpo_text.specs.declared.tree.Ivarg.TheVariants.{Optional, Start, End, Size}
use Rattle.cpo_text.proofs.operands.Binds.{both, bound_parts, need_parts, some_pair, bytes_same, behind_takes, name_takes}

size_takes : (ws : List Word) (o : Option ℕ) (r : List Word) → size_at ws ≡ Some (o, r) → ws ≡ size_word o ∷ r
size_takes [] o r h = cc
size_takes (name b ∷ ws) o r h = cc
size_takes (number n ∷ ws) o r h = let e = some_pair (Some n) o ws r h in rw (sym e.0, e.1) refl
size_takes (large ∷ ws) o r h = let e = some_pair None o ws r h in rw (sym e.0, e.1) refl
size_takes (sign b ∷ ws) o r h = cc
size_takes (quoted ∷ ws) o r h = cc

signed_takes : (m : Bool) (ws : List Word) (i : Int) (r : List Word) → signed_at m ws ≡ Some (i, r) → (i.minus ≡ m) × (ws ≡ size_word i.size ∷ r)
unfolding signed_at
signed_takes m ws i r h =
    let p = bound_parts (size_at ws) _ i r h in
    let made : Int = record { minus = m; size = p.tree } in
    let e = some_pair made i p.words r p.then in
    (ap (λ (j : Int). j.minus) (sym e.0), size_takes ws p.tree p.words p.first ∙ (let size : p.tree ≡ i.size = ap (λ (j : Int). j.size) e.0 in rw (size, e.1) refl))

pub int_takes : (ws : List Word) (i : Int) (r : List Word) → int_at ws ≡ Some (i, r) → ws ≡ int_words i ++ r
unfolding int_at
int_takes ws i r h = decided (behind (codes "-") ws) refl h
  where
    decided : (o : Option (List Word)) → behind (codes "-") ws ≡ o → if_behind o (signed_at true) (signed_at false ws) ≡ Some (i, r) → ws ≡ int_words i ++ r
    decided None is h = let t = signed_takes false ws i r h in t.1 ∙ rw t.0 refl
    decided (Some rest) is h = let t = signed_takes true rest i r h in behind_takes (codes "-") ws rest is ∙ rw (t.1, t.0) refl

pub name_before_takes : (s : List ℕ) (ws : List Word) (a : List ℕ) (r : List Word) → name_before s ws ≡ Some (a, r) → ws ≡ name a ∷ sign s ∷ r
unfolding name_before
name_before_takes s ws a r h =
    let p = bound_parts (name_at ws) _ a r h in
    let q = need_parts (behind s p.words) _ a r p.then in
    let e = some_pair p.tree a q.words r q.then in
    name_takes ws p.tree p.words p.first ∙ both (λ x xs. name x ∷ xs) e.0 (behind_takes s p.words q.words q.first ∙ ap (λ xs. sign s ∷ xs) e.1)

pub int_before_takes : (s : List ℕ) (ws : List Word) (i : Int) (r : List Word) → int_before s ws ≡ Some (i, r) → ws ≡ int_words i ++ sign s ∷ r
unfolding int_before
int_before_takes s ws i r h =
    let p = bound_parts (int_at ws) _ i r h in
    let q = need_parts (behind s p.words) _ i r p.then in
    let e = some_pair p.tree i q.words r q.then in
    int_takes ws p.tree p.words p.first ∙ both (λ x xs. int_words x ++ xs) e.0 (behind_takes s p.words q.words q.first ∙ ap (λ xs. sign s ∷ xs) e.1)

-- a sign and a number, or nothing
abbrev pub behind_words : List ℕ → Option Int → List Word
behind_words s None = []
behind_words s (Some i) = sign s ∷ int_words i

pub int_behind_takes : (s : List ℕ) (ws : List Word) (o : Option Int) (r : List Word) → int_behind s ws ≡ Some (o, r) → ws ≡ behind_words s o ++ r
unfolding int_behind
int_behind_takes s ws o r h = decided (behind s ws) refl h
  where
    decided : (b : Option (List Word)) → behind s ws ≡ b → if_behind b (λ r. bound (int_at r) (λ i r2. Some (Some i, r2))) (Some (None, ws)) ≡ Some (o, r) → ws ≡ behind_words s o ++ r
    decided None is h = let e = some_pair None o ws r h in e.1 ∙ rw (sym e.0) refl
    decided (Some rest) is h =
        let p = bound_parts (int_at rest) _ o r h in
        let e = some_pair (Some p.tree) o p.words r p.then in
        behind_takes s ws rest is ∙ ap (λ xs. sign s ∷ xs) (int_takes rest p.tree p.words p.first) ∙ both (λ x xs. behind_words s x ++ xs) e.0 e.1

to_same : (o : Option Int) → behind_words (codes "..") o ≡ to_words o
to_same None = refl
to_same (Some i) = refl

pub range_takes : (ws : List Word) (x : Range) (r : List Word) → range_at ws ≡ Some (x, r) → ws ≡ range_words x ++ r
unfolding range_at
range_takes ws x r h =
    let p = bound_parts (int_at ws) _ x r h in
    let q = bound_parts (int_behind (codes "..") p.words) _ x r p.then in
    let made : Range = record { from = p.tree; to = q.tree } in
    let e = some_pair made x q.words r q.then in
    int_takes ws p.tree p.words p.first
    ∙ ap (λ xs. int_words p.tree ++ xs) (int_behind_takes (codes "..") p.words q.tree q.words q.first ∙ rw (to_same q.tree) refl)
    ∙ sym (append_assoc (int_words p.tree) (to_words q.tree) q.words)
    ∙ both (λ y xs. range_words y ++ xs) e.0 e.1

given_takes : (ws : List Word) (x : Range) (r : List Word) → given_at ws ≡ Some (x, r) → ws ≡ sign (codes "=") ∷ range_words x ++ r
unfolding given_at
given_takes ws x r h = let p = need_parts (behind (codes "=") ws) range_at x r h in behind_takes (codes "=") ws p.words p.first ∙ ap (λ xs. sign (codes "=") ∷ xs) (range_takes p.words x r p.then)

-- an argument of a kind
kind_takes : (make : Range → Ivarg) (n word : List ℕ) → bytes_eq n word ≡ true → ((x : Range) → ivarg_words (make x) ≡ given word (range_words x)) → (ws : List Word) (a : Ivarg) (r : List Word)
    → bound (given_at ws) (λ x rest. Some (make x, rest)) ≡ Some (a, r) → name n ∷ ws ≡ ivarg_words a ++ r
kind_takes make n word is spelt ws a r h =
    let p = bound_parts (given_at ws) _ a r h in
    let e = some_pair (make p.tree) a p.words r p.then in
    both (λ x xs. name x ∷ xs) (bytes_same n word is) (given_takes ws p.tree p.words p.first) ∙ ap (λ xs. xs ++ p.words) (sym (spelt p.tree)) ∙ both (λ y xs. ivarg_words y ++ xs) e.0 e.1

ivarg_of_takes : (n : List ℕ) (ws : List Word) (a : Ivarg) (r : List Word) → ivarg_of n ws ≡ Some (a, r) → name n ∷ ws ≡ ivarg_words a ++ r
unfolding ivarg_of
ivarg_of_takes n ws a r h = decided (bytes_eq n (codes "optional")) refl (bytes_eq n (codes "start")) refl (bytes_eq n (codes "end")) refl (bytes_eq n (codes "size")) refl h
  where
    decided : (q : Bool) → bytes_eq n (codes "optional") ≡ q → (s : Bool) → bytes_eq n (codes "start") ≡ s → (t : Bool) → bytes_eq n (codes "end") ≡ t → (u : Bool) → bytes_eq n (codes "size") ≡ u
        → cond q (let x : Ivarg × List Word = (Optional, ws) in Some x) (cond s (bound (given_at ws) (λ r rest. Some (Start r, rest))) (cond t (bound (given_at ws) (λ r rest. Some (End r, rest))) (cond u (bound (given_at ws) (λ r rest. Some (Size r, rest))) None))) ≡ Some (a, r)
        → name n ∷ ws ≡ ivarg_words a ++ r
    decided true o s is t e u f h = let same = some_pair Optional a ws r h in both (λ x xs. name x ∷ xs) (bytes_same n (codes "optional") o) same.1 ∙ ap (λ y. ivarg_words y ++ r) same.0
    decided false o true is t e u f h = kind_takes Start n (codes "start") is (λ x. refl) ws a r h
    decided false o false is true e u f h = kind_takes End n (codes "end") e (λ x. refl) ws a r h
    decided false o false is false e true f h = kind_takes Size n (codes "size") f (λ x. refl) ws a r h
    decided false o false is false e false f h = cc

pub ivarg_takes : (ws : List Word) (a : Ivarg) (r : List Word) → ivarg_at ws ≡ Some (a, r) → ws ≡ ivarg_words a ++ r
unfolding ivarg_at
ivarg_takes ws a r h = let p = bound_parts (name_at ws) ivarg_of a r h in name_takes ws p.tree p.words p.first ∙ ivarg_of_takes p.tree p.words a r p.then

pub ivarg_long : (a : Ivarg) → 0 < length (ivarg_words a)
ivarg_long Optional = omega arith
ivarg_long (Start x) = omega arith
ivarg_long (End x) = omega arith
ivarg_long (Size x) = omega arith

pub ivarg_shorter : (ws : List Word) (a : Ivarg) (r : List Word) → ivarg_at ws ≡ Some (a, r) → length r < length ws
ivarg_shorter ws a r h = omega (arith, ap length (ivarg_takes ws a r h), length-append (ivarg_words a) r, ivarg_long a)

pub behind_shorter : (s : List ℕ) (ws r : List Word) → behind s ws ≡ Some r → length r < length ws
behind_shorter s ws r h = omega (arith, ap length (behind_takes s ws r h))
