-- A test of three parts, told by the first that fails, and a test of all elements of a list, told by those that were looked at.
use Rattle.std.specs.Prelude.{◌≡◌, ℕ, suc, ◌+◌, ◌<◌, Bool, true, false, ◌&&◌, List, length, drop}
use Rattle.std.specs.List.{list_all}
use Rattle.std.proofs.Common.{sym, ap, ◌∙◌, arith, get_or}
use Rattle.std.proofs.Math.Seq.{drop-cons}

pub first_fails : (p q r : Bool) → false ≡ p → false ≡ (p && q && r)
first_fails p q r first = ap (λ b. b && q && r) first

pub all_fails : {X : Type 0} (t : X → Bool) (xs : List X) (i : ℕ) (d : X) → i < length xs → t (get_or xs i d) ≡ false → list_all t (drop i xs) ≡ list_all t xs → false ≡ list_all t xs
all_fails t xs i d within fails so_far = sym (ap (λ b. b && list_all t (drop (suc i) xs)) fails) ∙ sym (ap (list_all t) (drop-cons xs i d within)) ∙ so_far

pub all_go_on : {X : Type 0} (t : X → Bool) (xs : List X) (i : ℕ) (d : X) → i < length xs → t (get_or xs i d) ≡ true → list_all t (drop i xs) ≡ list_all t xs → list_all t (drop (i + 1) xs) ≡ list_all t xs
all_go_on t xs i d within passes so_far = ap (λ n. list_all t (drop n xs)) (next i) ∙ sym (ap (λ b. b && list_all t (drop (suc i) xs)) passes) ∙ sym (ap (list_all t) (drop-cons xs i d within)) ∙ so_far
  where
    next : (n : ℕ) → n + 1 ≡ suc n
    next n = omega arith
