-- A list with one number more at its end.
use Rattle.std.specs.Prelude.{◌≡◌, ℕ, Bool, true, false, ◌||◌, List, [], ◌∷◌, ◌++◌, nat_eq}
use Rattle.std.proofs.Common.{refl, arith}
use Rattle.std.proofs.lemmas.Bool.{or_left, or_right}
use Rattle.std.proofs.lemmas.Bool.Decides.{nat_tests}
use Rattle.iqueue.specs.code.Queue.{is_in}

-- it has that number
pub in_end : (k : ℕ) (ks : List ℕ) → is_in k (ks ++ k ∷ []) ≡ true
in_end k [] = or_left (nat_eq k k) false (grind (arith, nat_tests))
in_end k (i ∷ ks) = or_right (nat_eq k i) (is_in k (ks ++ k ∷ [])) (in_end k ks)

-- and what it had
pub in_push : (k j : ℕ) (ks : List ℕ) → is_in j ks ≡ true → is_in j (ks ++ k ∷ []) ≡ true
in_push k j [] h = cc
in_push k j (i ∷ ks) h = by_case (nat_eq j i) (in_push k j ks) h
  where
    by_case : (b : Bool) → (is_in j ks ≡ true → is_in j (ks ++ k ∷ []) ≡ true) → (b || is_in j ks) ≡ true → (b || is_in j (ks ++ k ∷ [])) ≡ true
    by_case true f h = refl
    by_case false f h = f h
