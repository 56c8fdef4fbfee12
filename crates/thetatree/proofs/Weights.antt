-- Sums of a row of numbers one of which is replaced.
use Rattle.std.proofs.Common.{◌≡◌, ◌≢◌, ℕ, zero, suc, ◌<◌, ◌≤◌, ℤ, pos, ◌+ℤ◌, ◌≤ℤ◌, true, false, cond, refl, ap, sym, subst, inl, inr, arith}
use Rattle.std.specs.Prelude.{nat_eq}
use Rattle.std.proofs.lemmas.Bool.{cases_eq}
use Rattle.std.proofs.lemmas.Bool.Decides.{nat_tests}
use Rattle.std.proofs.lemmas.Int.{ints}
use Rattle.thetatree.proofs.Parts.{sum_below}

pub eq_true : (g i : ℕ) → g ≡ i → nat_eq g i ≡ true
eq_true g i is = grind (arith, nat_tests)

pub eq_false : (g i : ℕ) → g ≢ i → nat_eq g i ≡ false
eq_false g i is = grind (arith, nat_tests)

pub eq_from : (g i : ℕ) → nat_eq g i ≡ true → g ≡ i
eq_from g i is = grind (arith, nat_tests)

abbrev pub replaced : (ℕ → ℤ) → ℕ → ℤ → ℕ → ℤ
replaced w g v i = cond (nat_eq g i) v (w i)

pub replaced_same : (w : ℕ → ℤ) (g i : ℕ) (v : ℤ) → g ≡ i → replaced w g v i ≡ v
replaced_same w g i v is = rw (eq_true g i is) refl

pub replaced_other : (w : ℕ → ℤ) (g i : ℕ) (v : ℤ) → g ≢ i → replaced w g v i ≡ w i
replaced_other w g i v is = rw (eq_false g i is) refl

pub replaced_low : (w : ℕ → ℤ) (g : ℕ) (v : ℤ) (h : ℕ) → h ≤ g → sum_below (replaced w g v) h ≡ sum_below w h
replaced_low w g v zero low = refl
replaced_low w g v (suc h) low =
    omega (arith, ints, replaced_low w g v h (omega (arith, low)), replaced_other w g h v (λ e. omega (arith, e, low)))

pub replaced_high : (w : ℕ → ℤ) (g : ℕ) (v : ℤ) (h : ℕ) → g < h → (sum_below (replaced w g v) h +ℤ w g) ≡ (sum_below w h +ℤ v)
replaced_high w g v zero high = absurd (omega (arith, high))
replaced_high w g v (suc h) high = elim (cases_eq g h) [
  | inl same ↦ omega (arith, ints, replaced_low w g v h (omega (arith, same)), replaced_same w g h v same, ap w same)
  | inr other ↦ omega (arith, ints, replaced_high w g v h (omega (arith, high, other)), replaced_other w g h v other)
]

pub rises : (w : ℕ → ℤ) → ((i : ℕ) → pos 0 ≤ℤ w i) → (lo hi : ℕ) → lo ≤ hi → sum_below w lo ≤ℤ sum_below w hi
rises w from lo zero low = let none : lo ≡ 0 = omega (arith, low) in subst (λ i. sum_below w i ≤ℤ pos 0) (sym none) (omega (arith, ints))
rises w from lo (suc hi) low = elim (cases_eq lo (suc hi)) [
  | inl same ↦ subst (λ i. sum_below w i ≤ℤ sum_below w (suc hi)) (sym same) (omega (arith, ints))
  | inr other ↦ omega (arith, ints, rises w from lo hi (omega (arith, low, other)), from hi)
]
