-- Where all of both are quiet, all of each are.
use Rattle.std.specs.Prelude.{◌≡◌, ℕ, ◌+◌, ◌-◌, ◌<◌, true, false, nat_lt}
use Rattle.std.proofs.Common.{subst, arith}
use Rattle.std.proofs.lemmas.Bool.Decides.{nat_tests}
use Rattle.engine.specs.code.Pairs.{chosen}

lower : (k n : ℕ) → k < n → nat_lt k n ≡ true
lower k n h = grind (arith, nat_tests)

upper : (j n : ℕ) → nat_lt (n + j) n ≡ false
upper j n = grind (arith, nat_tests)

back : (n j : ℕ) → (n + j) - n ≡ j
back n j = omega arith

-- `X` and `Y` tell of a number of each whether it is quiet
pub first_quiet : (a b : ℕ) (X Y : ℕ → Type 0) → ((k : ℕ) → k < a + b → chosen (nat_lt k a) (X k) (Y (k - a))) → (k : ℕ) → k < a → X k
first_quiet a b X Y all k less = subst (λ t. chosen t (X k) (Y (k - a))) (lower k a less) (all k (omega (arith, less)))
