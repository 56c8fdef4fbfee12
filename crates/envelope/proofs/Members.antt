-- Members of a set, its first place and its least earliest start.
use Rattle.std.proofs.Common.{◌≡◌, ◌≢◌, ℕ, ◌<◌, ◌≤◌, ℤ, pos, ◌-ℤ◌, ◌≤ℤ◌, true, false, List, [], ◌∷◌, refl, ap, sym, ◌∙◌, subst, inl, inr, arith}
use Rattle.std.specs.Prelude.{nat_eq}
use Rattle.std.specs.Int.{int_min}
use Rattle.std.proofs.lemmas.Bool.{cases_eq}
use Rattle.std.proofs.lemmas.Int.{ints, int_min_is}
use Rattle.envelope.specs.code.Bars.{Bars, bar_at, has, IsOnce, least_est, energy_of}
use Rattle.thetatree.proofs.Members.{has_cases, has_first, has_later}
use Rattle.thetatree.proofs.Parts.{sum_below}
use Rattle.thetatree.proofs.Weights.{eq_from, replaced, replaced_same, replaced_other, replaced_low, replaced_high, rises}

-- the least earliest start is at most that of each member, and is one
pub least_below : (t : Bars) (k : ℕ) (ks : List ℕ) (y : ℕ) → has (k ∷ ks) y ≡ true → least_est t k ks ≤ℤ (bar_at t y).est
least_below t k [] y here = elim (has_cases (nat_eq k y) [] y here) [
  | inl same ↦ subst (λ i. (bar_at t k).est ≤ℤ (bar_at t i).est) (eq_from k y same) (omega (arith, ints))
  | inr none ↦ cc
]
least_below t k (i ∷ ks) y here = elim (has_cases (nat_eq k y) (i ∷ ks) y here) [
  | inl same ↦ subst (λ j. int_min (bar_at t k).est (least_est t i ks) ≤ℤ (bar_at t j).est) (eq_from k y same) (omega (arith, ints, int_min_is (bar_at t k).est (least_est t i ks)))
  | inr later ↦ omega (arith, ints, int_min_is (bar_at t k).est (least_est t i ks), least_below t i ks y later)
]

pub least_from : (t : Bars) (a : ℤ) (k : ℕ) (ks : List ℕ) → ((y : ℕ) → has (k ∷ ks) y ≡ true → a ≤ℤ (bar_at t y).est) → a ≤ℤ least_est t k ks
least_from t a k [] from = from k (has_first k [])
least_from t a k (i ∷ ks) from =
    omega (arith, ints, int_min_is (bar_at t k).est (least_est t i ks), from k (has_first k (i ∷ ks)), least_from t a i ks (λ y here. from y (has_later k (i ∷ ks) y here)))

pub least_is : (t : Bars) (k : ℕ) (ks : List ℕ) → ((y : ℕ) → has ks y ≡ true → (bar_at t k).est ≤ℤ (bar_at t y).est) → least_est t k ks ≡ (bar_at t k).est
least_is t k [] from = refl
least_is t k (i ∷ ks) from = omega (arith, ints, int_min_is (bar_at t k).est (least_est t i ks), least_from t (bar_at t k).est i ks from)

-- places of a part, each with no more than its number in a row, have no more than the row
pub covered : (t : Bars) (lo hi : ℕ) → lo ≤ hi → (ks : List ℕ) → IsOnce ks → (w : ℕ → ℤ) → ((i : ℕ) → pos 0 ≤ℤ w i)
    → ((y : ℕ) → has ks y ≡ true → (lo ≤ y) × (y < hi) × ((bar_at t y).energy ≤ℤ w y)) → energy_of t ks ≤ℤ (sum_below w hi -ℤ sum_below w lo)
covered t lo hi wide [] once w from each = omega (arith, ints, rises w from lo hi wide)
covered t lo hi wide (k ∷ ks) once w from each =
    let here = each k (has_first k ks) in
    let rest = covered t lo hi wide ks once.1 (replaced w k (pos 0)) kept_from kept_each in
    omega (arith, ints, rest, here.2, replaced_low w k (pos 0) lo here.0, replaced_high w k (pos 0) hi here.1)
  where
    kept_from : (i : ℕ) → pos 0 ≤ℤ replaced w k (pos 0) i
    kept_from i = elim (cases_eq k i) [
      | inl same ↦ omega (arith, ints, replaced_same w k i (pos 0) same)
      | inr other ↦ omega (arith, ints, replaced_other w k i (pos 0) other, from i)
    ]

    apart : (y : ℕ) → has ks y ≡ true → k ≢ y
    apart y there same = let clash : true ≡ false = sym there ∙ ap (has ks) (sym same) ∙ once.0 in cc

    kept_each : (y : ℕ) → has ks y ≡ true → (lo ≤ y) × (y < hi) × ((bar_at t y).energy ≤ℤ replaced w k (pos 0) y)
    kept_each y there =
        let old = each y (has_later k ks y there) in
        (old.0, old.1, omega (arith, ints, old.2, replaced_other w k y (pos 0) (apart y there)))
