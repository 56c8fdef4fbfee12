-- Taking apart what a rule took: each step of a rule that took something took something.
use Rattle.std.proofs.Common.{◌≡◌, ℕ, Bool, true, false, List, [], ◌∷◌, Option, Some, None, refl, sym, ap, cond, ◌∙◌}
use Rattle.std.specs.Prelude.{bytes_eq}
use Rattle.std.proofs.lemmas.Slice.Eq.{bytes_eq-Decides}
use Rattle.std.proofs.lemmas.Option.{same_Some}
use Rattle.cpo_text.specs.Words.{Word, is_sign}
use Rattle.cpo_text.specs.Words.Word.{name, number, large, sign, quoted}
use Rattle.cpo_text.specs.code.Rules.{Found, bound, behind, behind_word, if_behind, name_at}

pub record Bound {X Y : Type 0} (o : Found X) (f : X → List Word → Found Y) (y : Y) (rest : List Word) : Type 0 where
  pub tree : X
  pub words : List Word
  pub first : o ≡ Some (tree, words)
  pub then : f tree words ≡ Some (y, rest)

pub bound_parts : {X Y : Type 0} (o : Found X) (f : X → List Word → Found Y) (y : Y) (rest : List Word) → bound o f ≡ Some (y, rest) → Bound o f y rest
bound_parts None f y rest h = cc
bound_parts (Some p) f y rest h = record { tree = p.0; words = p.1; first = refl; then = h }

pub record Needed {Y : Type 0} (o : Option (List Word)) (f : List Word → Found Y) (y : Y) (rest : List Word) : Type 0 where
  pub words : List Word
  pub first : o ≡ Some words
  pub then : f words ≡ Some (y, rest)

pub need_parts : {Y : Type 0} (o : Option (List Word)) (f : List Word → Found Y) (y : Y) (rest : List Word) → if_behind o f None ≡ Some (y, rest) → Needed o f y rest
need_parts None f y rest h = cc
need_parts (Some r) f y rest h = record { words = r; first = refl; then = h }

pub some_pair : {A B : Type 0} (a c : A) (b d : B) → ◌≡◌ {A = Option (A × B)} (Some (a, b)) (Some (c, d)) → (a ≡ c) × (b ≡ d)
some_pair {A} {B} a c b d h = let p : A × B = (a, b) in let q : A × B = (c, d) in let e : p ≡ q = same_Some p q h in (ap (λ x. x.0) e, ap (λ x. x.1) e)

pub both : {A B C : Type 0} (f : A → B → C) {a c : A} {b d : B} → a ≡ c → b ≡ d → f a b ≡ f c d
both f {a} {c} {b} {d} e g = ap (λ x. f x b) e ∙ ap (f c) g

pub bytes_same : (xs ys : List ℕ) → bytes_eq xs ys ≡ true → xs ≡ ys
bytes_same xs ys h = (bytes_eq-Decides xs ys).0 h

pub bytes_self : (xs : List ℕ) → bytes_eq xs xs ≡ true
bytes_self xs = (bytes_eq-Decides xs xs).1 refl

pub sign_same : (s : List ℕ) (w : Word) → is_sign s w ≡ true → w ≡ sign s
sign_same s (name b) h = cc
sign_same s (number n) h = cc
sign_same s large h = cc
sign_same s (sign b) h = ap sign (sym (bytes_same s b h))
sign_same s quoted h = cc

pub behind_takes : (s : List ℕ) (ws r : List Word) → behind s ws ≡ Some r → ws ≡ sign s ∷ r
behind_takes s [] r h = cc
behind_takes s (w ∷ ws) r h = decided (is_sign s w) refl h
  where
    decided : (t : Bool) → is_sign s w ≡ t → (cond t (Some ws) None) ≡ Some r → w ∷ ws ≡ sign s ∷ r
    decided true is h = let e : ws ≡ r = cc in rw (sign_same s w is, e) refl
    decided false is h = cc

pub behind_again : (s : List ℕ) (r : List Word) → behind s (sign s ∷ r) ≡ Some r
behind_again s r = rw (bytes_self s) refl

pub name_takes : (ws : List Word) (n : List ℕ) (r : List Word) → name_at ws ≡ Some (n, r) → ws ≡ name n ∷ r
name_takes [] n r h = cc
name_takes (name b ∷ ws) n r h = let e = some_pair b n ws r h in rw (e.0, e.1) refl
name_takes (number b ∷ ws) n r h = cc
name_takes (large ∷ ws) n r h = cc
name_takes (sign b ∷ ws) n r h = cc
name_takes (quoted ∷ ws) n r h = cc

pub word_takes : (n : List ℕ) (ws r : List Word) → behind_word n ws ≡ Some r → ws ≡ name n ∷ r
unfolding behind_word
word_takes n [] r h = cc
word_takes n (number m ∷ ws) r h = cc
word_takes n (large ∷ ws) r h = cc
word_takes n (sign s ∷ ws) r h = cc
word_takes n (quoted ∷ ws) r h = cc
word_takes n (name b ∷ ws) r h = decided (bytes_eq b n) refl h
  where
    decided : (t : Bool) → bytes_eq b n ≡ t → cond t (Some ws) None ≡ Some r → name b ∷ ws ≡ name n ∷ r
    decided true is h = let e : ws ≡ r = cc in both (λ x xs. name x ∷ xs) (bytes_same b n is) e
    decided false is h = cc

pub word_again : (n : List ℕ) (r : List Word) → behind_word n (name n ∷ r) ≡ Some r
unfolding behind_word
word_again n r = rw (bytes_self n) refl
