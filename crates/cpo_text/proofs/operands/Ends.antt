-- The signs by which an expression of a level goes on, and rest that begins with none of them.
use Rattle.std.proofs.Common.{◌≡◌, ℕ, zero, suc, ◌≤◌, Bool, true, false, List, [], ◌∷◌, Option, Some, None, refl, sym, ◌∙◌, arith}
use Rattle.std.specs.Prelude.{codes, bytes_eq, if◌then◌else◌}
use Rattle.std.proofs.lemmas.Slice.Eq.{bytes_eq-Decides}
use Rattle.cpo_text.specs.Words.{Word, is_sign}
use Rattle.cpo_text.specs.Words.Word.{name, number, large, sign, quoted}
use Rattle.cpo_text.specs.code.Rules.{behind}
use Rattle.cpo_text.specs.code.Levels.{Task, comparison_at}
use Rattle.cpo_text.specs.code.Levels.Task.{logic, chain, unit, sum, term, atom}
use Rattle.cpo_text.specs.declared.expression.Link.TheVariants.{Times, And, Or}

abbrev pub prod_signs : List (List ℕ)
prod_signs = codes "*" ∷ []

abbrev pub sum_signs : List (List ℕ)
sum_signs = codes "+" ∷ codes "-" ∷ prod_signs

abbrev pub unit_signs : List (List ℕ)
unit_signs = codes "==" ∷ codes "!=" ∷ codes "<=" ∷ codes ">=" ∷ codes "<" ∷ codes ">" ∷ sum_signs

abbrev pub conj_signs : List (List ℕ)
conj_signs = codes "&&" ∷ unit_signs

abbrev pub disj_signs : List (List ℕ)
disj_signs = codes "||" ∷ conj_signs

abbrev pub logic_signs : List (List ℕ)
logic_signs = codes "=>" ∷ disj_signs

-- by level
abbrev pub signs : ℕ → List (List ℕ)
signs zero = logic_signs
signs (suc zero) = disj_signs
signs (suc (suc zero)) = conj_signs
signs (suc (suc (suc zero))) = unit_signs
signs (suc (suc (suc (suc zero)))) = sum_signs
signs (suc (suc (suc (suc (suc zero))))) = prod_signs
signs (suc (suc (suc (suc (suc (suc zero)))))) = prod_signs
signs (suc (suc (suc (suc (suc (suc (suc n))))))) = []

abbrev pub at : ℕ → Task
at zero = logic
at (suc zero) = chain Or
at (suc (suc zero)) = chain And
at (suc (suc (suc zero))) = unit
at (suc (suc (suc (suc zero)))) = sum
at (suc (suc (suc (suc (suc zero))))) = term
at (suc (suc (suc (suc (suc (suc zero)))))) = chain Times
at (suc (suc (suc (suc (suc (suc (suc n))))))) = atom

-- how much fuel the way from an atom to a level takes
abbrev pub cost : ℕ → ℕ
cost zero = 11
cost (suc zero) = 10
cost (suc (suc zero)) = 8
cost (suc (suc (suc zero))) = 6
cost (suc (suc (suc (suc zero)))) = 5
cost (suc (suc (suc (suc (suc zero))))) = 3
cost (suc (suc (suc (suc (suc (suc zero)))))) = 2
cost (suc (suc (suc (suc (suc (suc (suc n))))))) = 0

pub cost_small : (n : ℕ) → cost n ≤ 11
cost_small zero = omega arith
cost_small (suc zero) = omega arith
cost_small (suc (suc zero)) = omega arith
cost_small (suc (suc (suc zero))) = omega arith
cost_small (suc (suc (suc (suc zero)))) = omega arith
cost_small (suc (suc (suc (suc (suc zero))))) = omega arith
cost_small (suc (suc (suc (suc (suc (suc zero)))))) = omega arith
cost_small (suc (suc (suc (suc (suc (suc (suc n))))))) = omega arith

-- the words don't begin with one of these signs
abbrev pub ends : List (List ℕ) → List Word → Bool
ends ss [] = true
ends [] (w ∷ ws) = true
ends (s ∷ ss) (w ∷ ws) = if is_sign s w then false else ends ss (w ∷ ws)

pub ends_all : (ws : List Word) → ends [] ws ≡ true
ends_all [] = refl
ends_all (w ∷ ws) = refl

pub first_ends : (s : List ℕ) (ss : List (List ℕ)) (ws : List Word) → ends (s ∷ ss) ws ≡ true → behind s ws ≡ None
first_ends s ss [] h = refl
first_ends s ss (w ∷ ws) h = chosen (is_sign s w) h where
  chosen : (b : Bool) → (if b then false else ends ss (w ∷ ws)) ≡ true → ◌≡◌ {A = Option (List Word)} (if b then Some ws else None) None
  chosen true h = cc
  chosen false h = refl

pub others_end : (s : List ℕ) (ss : List (List ℕ)) (ws : List Word) → ends (s ∷ ss) ws ≡ true → ends ss ws ≡ true
others_end s ss [] h = end ss where
  end : (ss : List (List ℕ)) → ends ss [] ≡ true
  end [] = refl
  end (x ∷ xs) = refl
others_end s ss (w ∷ ws) h = chosen (is_sign s w) h where
  chosen : (b : Bool) → (if b then false else ends ss (w ∷ ws)) ≡ true → ends ss (w ∷ ws) ≡ true
  chosen true h = cc
  chosen false h = h

compare_ends : (ws : List Word) → ends unit_signs ws ≡ true → ends sum_signs ws ≡ true
compare_ends ws h =
    others_end (codes ">") sum_signs ws (others_end (codes "<") (codes ">" ∷ sum_signs) ws (others_end (codes ">=") (codes "<" ∷ codes ">" ∷ sum_signs) ws
    (others_end (codes "<=") (codes ">=" ∷ codes "<" ∷ codes ">" ∷ sum_signs) ws (others_end (codes "!=") (codes "<=" ∷ codes ">=" ∷ codes "<" ∷ codes ">" ∷ sum_signs) ws
    (others_end (codes "==") (codes "!=" ∷ codes "<=" ∷ codes ">=" ∷ codes "<" ∷ codes ">" ∷ sum_signs) ws h)))))

-- a looser level goes on by the signs of a tighter one too
pub tighter_ends : (n : ℕ) (ws : List Word) → ends (signs n) ws ≡ true → ends (signs (suc n)) ws ≡ true
tighter_ends zero ws h = others_end (codes "=>") disj_signs ws h
tighter_ends (suc zero) ws h = others_end (codes "||") conj_signs ws h
tighter_ends (suc (suc zero)) ws h = others_end (codes "&&") unit_signs ws h
tighter_ends (suc (suc (suc zero))) ws h = compare_ends ws h
tighter_ends (suc (suc (suc (suc zero)))) ws h = others_end (codes "-") prod_signs ws (others_end (codes "+") (codes "-" ∷ prod_signs) ws h)
tighter_ends (suc (suc (suc (suc (suc zero))))) ws h = h
tighter_ends (suc (suc (suc (suc (suc (suc zero)))))) ws h = ends_all ws
tighter_ends (suc (suc (suc (suc (suc (suc (suc n))))))) ws h = ends_all ws

pub no_plus : (ws : List Word) → ends sum_signs ws ≡ true → behind (codes "+") ws ≡ None
no_plus ws h = first_ends (codes "+") (codes "-" ∷ prod_signs) ws h

pub no_minus : (ws : List Word) → ends sum_signs ws ≡ true → behind (codes "-") ws ≡ None
no_minus ws h = first_ends (codes "-") prod_signs ws (others_end (codes "+") (codes "-" ∷ prod_signs) ws h)

-- no operator of a comparison stands in front
refused : (s : List ℕ) (ss : List (List ℕ)) (b : List ℕ) (ws : List Word) → ends (s ∷ ss) (sign b ∷ ws) ≡ true → (bytes_eq s b ≡ false) × (ends ss (sign b ∷ ws) ≡ true)
refused s ss b ws h = chosen (bytes_eq s b) refl h where
  chosen : (x : Bool) → bytes_eq s b ≡ x → (if x then false else ends ss (sign b ∷ ws)) ≡ true → (bytes_eq s b ≡ false) × (ends ss (sign b ∷ ws) ≡ true)
  chosen true is h = cc
  chosen false is h = (is, h)

true_false : true ≡ false → ⊥
true_false h = cc

flipped : (a b : List ℕ) → bytes_eq a b ≡ false → bytes_eq b a ≡ false
flipped a b h = chosen (bytes_eq b a) refl where
  chosen : (x : Bool) → bytes_eq b a ≡ x → bytes_eq b a ≡ false
  chosen true is = absurd (true_false (sym ((bytes_eq-Decides a b).1 (sym ((bytes_eq-Decides b a).0 is))) ∙ h))
  chosen false is = is

pub no_comparison : (rest : List Word) → ends unit_signs rest ≡ true → comparison_at rest ≡ None
unfolding comparison_at
no_comparison [] h = refl
no_comparison (name n ∷ ws) h = refl
no_comparison (number n ∷ ws) h = refl
no_comparison (large ∷ ws) h = refl
no_comparison (quoted ∷ ws) h = refl
no_comparison (sign b ∷ ws) h =
    let a1 = refused (codes "==") (codes "!=" ∷ codes "<=" ∷ codes ">=" ∷ codes "<" ∷ codes ">" ∷ sum_signs) b ws h in
    let a2 = refused (codes "!=") (codes "<=" ∷ codes ">=" ∷ codes "<" ∷ codes ">" ∷ sum_signs) b ws a1.1 in
    let a3 = refused (codes "<=") (codes ">=" ∷ codes "<" ∷ codes ">" ∷ sum_signs) b ws a2.1 in
    let a4 = refused (codes ">=") (codes "<" ∷ codes ">" ∷ sum_signs) b ws a3.1 in
    let a5 = refused (codes "<") (codes ">" ∷ sum_signs) b ws a4.1 in
    let a6 = refused (codes ">") sum_signs b ws a5.1 in
    rw (flipped (codes "==") b a1.0, flipped (codes "!=") b a2.0, flipped (codes "<=") b a3.0, flipped (codes ">=") b a4.0, flipped (codes "<") b a5.0, flipped (codes ">") b a6.0) refl
