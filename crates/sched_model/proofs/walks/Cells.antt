-- A place behind all cells of a matrix has no cell, whether it is cut off at the end of a machine's numbers or not.
use Rattle.std.proofs.Common.{◌≡◌, ℕ, zero, suc, ◌+◌, ◌-◌, ◌*◌, ◌^◌, ◌<◌, ◌≤◌, min, ℤ, List, [], ◌∷◌, length, get_or, Bool, true, false, nat_lt, refl, sym, ap, ◌∙◌, arith}
use Rattle.std.proofs.lemmas.Bool.Decides.{nat_tests}

beyond : (xs : List ℤ) (k : ℕ) (d : ℤ) → length xs ≤ k → get_or xs k d ≡ d
beyond [] k d h = refl
beyond (x ∷ xs) zero d h = absurd (omega (arith, h))
beyond (x ∷ xs) (suc k) d h = beyond xs k d (omega (arith, h))

cut_place : (size i j : ℕ) → size * i + j < 2 ^ 64 - 1 → min (min (size * i) (2 ^ 64 - 1) + j) (2 ^ 64 - 1) ≡ size * i + j
cut_place size i j h = omega (arith, h)

far_place : (size i j n : ℕ) → n < 2 ^ 64 - 1 → 2 ^ 64 - 1 ≤ size * i + j → n ≤ min (min (size * i) (2 ^ 64 - 1) + j) (2 ^ 64 - 1)
far_place size i j n h k = omega (arith, h, k)

by_size : (xs : List ℤ) (size i j : ℕ) (d : ℤ) → length xs < 2 ^ 64 - 1 → (b : Bool) → nat_lt (size * i + j) (2 ^ 64 - 1) ≡ b
    → get_or xs (min (min (size * i) (2 ^ 64 - 1) + j) (2 ^ 64 - 1)) d ≡ get_or xs (size * i + j) d
by_size xs size i j d h true e = ap (λ k. get_or xs k d) (cut_place size i j (grind (arith, nat_tests)))
by_size xs size i j d h false e = beyond xs _ d (far_place size i j (length xs) h (grind (arith, nat_tests))) ∙ sym (beyond xs (size * i + j) d (grind (arith, nat_tests)))

pub cell_by_place : (xs : List ℤ) (size i j k : ℕ) (d : ℤ) → length xs < 2 ^ 64 - 1 → k ≡ min (min (size * i) (2 ^ 64 - 1) + j) (2 ^ 64 - 1) → get_or xs k d ≡ get_or xs (size * i + j) d
cell_by_place xs size i j k d h e = ap (λ n. get_or xs n d) e ∙ by_size xs size i j d h _ refl
