-- Some numbers woken, one after another.
use Rattle.std.proofs.Common.{◌≡◌, ◌⊎◌, inl, inr, ℕ, zero, suc, ◌+◌, ◌<◌, Bool, true, false, ◌||◌, List, [], ◌∷◌, length, take, get_or, refl, sym, subst, arith, ◌∙◌}
use Rattle.std.specs.Prelude.{nat_eq}
use Rattle.std.proofs.lemmas.Bool.Decides.{nat_tests}
use Rattle.iqueue.specs.code.Queue.{is_in}
use Rattle.wake_levels.specs.code.Waking.{Waking, is_awake, is_in_any, woken_on}
use Rattle.wake_levels.specs.code.Calm.{WakesEach}
use Rattle.wake_levels.specs.laws.Turning.{kept_on, has_on, count_on}
use Rattle.base_laws.specs.laws.Numbers.{below_or_last}

only : (j k : ℕ) → is_in j (k ∷ []) ≡ true → j ≡ k
only j k h = same j k h
  where
    same : (j k : ℕ) → (nat_eq j k || false) ≡ true → j ≡ k
    same j k h = grind (arith, nat_tests)

pub each_one : (k level : ℕ) (a b : Waking) → b ≡ record a { levels = woken_on k level a.levels } → level < length a.levels → WakesEach (k ∷ []) a b
each_one k level a b is within = subst (WakesEach (k ∷ []) a) (sym is) (record {
  below = refl;
  count = count_on k level a.levels;
  kept = λ j h. kept_on k level j a.levels h;
  woken = λ j h. subst (λ i. is_in_any i (woken_on k level a.levels) ≡ true) (sym (only j k h)) (has_on k level a.levels within);
})

next : (n : ℕ) → n + 1 ≡ suc n
next n = omega arith

one_more : (ks : List ℕ) (n k : ℕ) → n < length ks → k ≡ get_or ks n k → (j : ℕ) → is_in j (take (suc n) ks) ≡ true → (is_in j (k ∷ []) ≡ true) ⊎ (is_in j (take n ks) ≡ true)
one_more [] n k within is j h = absurd (omega (arith, within))
one_more (i ∷ ks) zero k within is j h = inl (subst (λ (n : ℕ). is_in j (n ∷ []) ≡ true) (sym is) h)
one_more (i ∷ ks) (suc n) k within is j h = by_case (nat_eq j i) (one_more ks n k (omega (arith, within)) is j) h
  where
    by_case : (b : Bool) → (is_in j (take (suc n) ks) ≡ true → (is_in j (k ∷ []) ≡ true) ⊎ (is_in j (take n ks) ≡ true)) → (b || is_in j (take (suc n) ks)) ≡ true → (is_in j (k ∷ []) ≡ true) ⊎ ((b || is_in j (take n ks)) ≡ true)
    by_case true rest h = inr refl
    by_case false rest h = rest h

pub wakes_more : (ks : List ℕ) (n k : ℕ) (a b c : Waking) → WakesEach (take n ks) a b → n < length ks → k ≡ get_or ks n k → WakesEach (k ∷ []) b c → WakesEach (take (n + 1) ks) a c
wakes_more ks n k a b c before within is now = record {
  below = now.below ∙ before.below;
  count = now.count ∙ before.count;
  kept = λ j h. now.kept j (before.kept j h);
  woken = λ j h. elim (one_more ks n k within is j (subst (λ (i : ℕ). is_in j (take i ks) ≡ true) (next n) h)) [
    | inl e ↦ now.woken j e
    | inr e ↦ now.kept j (before.woken j e)
  ];
}

-- each below k, and then k
here : (k : ℕ) → is_in k (k ∷ []) ≡ true
here k = self k
  where
    self : (k : ℕ) → (nat_eq k k || false) ≡ true
    self k = grind (arith, nat_tests)

pub woken_more : (k : ℕ) (a b : Waking) → WakesEach (k ∷ []) a b → ((j : ℕ) → j < k → is_awake a j ≡ true) → (j : ℕ) → j < k + 1 → is_awake b j ≡ true
woken_more k a b wakes before j less = elim (below_or_last j k less) [
  | inl e ↦ wakes.kept j (before j e)
  | inr e ↦ subst (λ i. is_awake b i ≡ true) (sym e) (wakes.woken k (here k))
]
