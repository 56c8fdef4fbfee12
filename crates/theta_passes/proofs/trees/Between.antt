-- Rows between two moments.
use Rattle.std.specs.Prelude.{Bool, false, int_le, int_lt, nat_lt, not, refl, true, ℕ, ℤ, ◌&&◌, ◌<ℤ◌, ◌<◌, ◌≡◌, ◌≤ℤ◌, ◌≤◌, ◌⊎◌}
use Rattle.std.proofs.Common.{arith, inl, inr, sym, ◌∙◌}
use Rattle.std.proofs.lemmas.Bool.Decides.{nat_tests}
use Rattle.task_sets.specs.laws.Ects.{le_true, lt_holds, lt_true}
use Rattle.theta_passes.specs.code.Rows.{is_between, says_absent}
use Rattle.theta_passes.specs.declared.rows.Row.{Row}

pub below_or : (k n : ℕ) → (k < n) ⊎ (k < n → ⊥)
below_or k n = decided (nat_lt k n) refl
  where
    decided : (b : Bool) → nat_lt k n ≡ b → (k < n) ⊎ (k < n → ⊥)
    decided true is = inl (grind (arith, nat_tests))
    decided false is = inr (λ low. let h : n ≤ k = grind (arith, nat_tests) in omega (arith, h, low))

pub between_facts : (r : Row) (above level : ℤ) → is_between r above level ≡ true → (not (says_absent r.presence) ≡ true) × (level <ℤ r.lct)
between_facts r above level is = step (not (says_absent r.presence)) (int_lt level r.lct) (int_le r.lct above) refl refl is
  where
    step : (a b c : Bool) → not (says_absent r.presence) ≡ a → int_lt level r.lct ≡ b → (a && (b && c)) ≡ true → (not (says_absent r.presence) ≡ true) × (level <ℤ r.lct)
    step true true c on late h = (on, lt_holds level r.lct late)
    step true false c on late h = cc
    step false b c on late h = cc

pub not_between : (r : Row) (above level : ℤ) → is_between r above level ≡ false → not (says_absent r.presence) ≡ true → level <ℤ r.lct → r.lct ≤ℤ above → ⊥
not_between r above level is on late low =
    let h : is_between r above level ≡ true = join3 (not (says_absent r.presence)) (int_lt level r.lct) (int_le r.lct above) on (lt_true level r.lct late) (le_true r.lct above low) in
    let clash : false ≡ true = sym is ∙ h in cc
  where
    join3 : (a b c : Bool) → a ≡ true → b ≡ true → c ≡ true → (a && (b && c)) ≡ true
    join3 true true c p q h = h
    join3 true false c p q h = cc
    join3 false b c p q h = cc
