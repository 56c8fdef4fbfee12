-- Bars tried one after the other.
use Rattle.std.proofs.Common.{ℕ, ◌+◌, ◌-◌, ◌<◌, ◌≤◌, ◌≤ℤ◌, List, length, sym, subst, inl, inr, arith}
use Rattle.std.proofs.lemmas.Bool.{cases_eq}
use Rattle.std.proofs.lemmas.Int.{ints}
use Rattle.envelope.specs.declared.bars.Bar.{Bar}
use Rattle.envelope.specs.code.Bars.{bar_in, IsSmallBar, AreBars}

-- what is known once the bars before i were tried
pub record Tried (ts : List Bar) (i : ℕ) : Type 0 where
  pub few : length ts ≤ 100000
  pub small : (k : ℕ) → k < i → IsSmallBar (bar_in ts k)
  pub in_order : (j k : ℕ) → j ≤ k → k < i → (bar_in ts j).est ≤ℤ (bar_in ts k).est

pub tried_none : (ts : List Bar) → length ts ≤ 100000 → Tried ts 0
tried_none ts few = record {
  few = few;
  small = λ k none. absurd (omega (arith, none));
  in_order = λ j k low none. absurd (omega (arith, none));
}

pub tried_more : (ts : List Bar) (i : ℕ) → Tried ts i → IsSmallBar (bar_in ts i) → (0 < i → (bar_in ts (i - 1)).est ≤ℤ (bar_in ts i).est) → Tried ts (i + 1)
tried_more ts i tried small later = record {
  few = tried.few;
  small = λ k within. elim (cases_eq k i) [
    | inl same ↦ subst (λ j. IsSmallBar (bar_in ts j)) (sym same) small
    | inr other ↦ tried.small k (omega (arith, within, other))
  ];
  in_order = λ j k low within. elim (cases_eq k i) [
    | inl same ↦ subst (λ m. (bar_in ts j).est ≤ℤ (bar_in ts m).est) (sym same) (elim (cases_eq j i) [
      | inl at ↦ subst (λ m. (bar_in ts m).est ≤ℤ (bar_in ts i).est) (sym at) (omega (arith, ints))
      | inr apart ↦ omega (arith, ints, tried.in_order j (i - 1) (omega (arith, low, same, apart)) (omega (arith, low, same, apart)), later (omega (arith, low, same, apart)))
    ])
    | inr other ↦ tried.in_order j k low (omega (arith, within, other))
  ];
}

pub tried_all : (ts : List Bar) (i : ℕ) → Tried ts i → length ts ≤ i → AreBars ts
tried_all ts i tried all = record {
  few = tried.few;
  small = λ k within. tried.small k (omega (arith, within, all));
  in_order = λ j k low within. tried.in_order j k low (omega (arith, within, all));
}
