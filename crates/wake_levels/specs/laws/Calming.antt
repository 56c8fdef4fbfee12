-- What keeps those that aren't awake quiet.
use Rattle.std.specs.Prelude.{◌≡◌, ℕ, ◌<◌, false, IsTrue, length, None}
use Rattle.std.proofs.Common.{refl, sym, subst, ◌∙◌, arith}
use Rattle.std.proofs.lemmas.Bool.{true≢false}
use Rattle.wake_levels.specs.code.Waking.{Waking, is_awake, first_turn, without_on_all, woken_on}
use Rattle.wake_levels.specs.code.Calm.{IsCalm}
use Rattle.wake_levels.specs.laws.Turning.{kept_on, has_on, none_in, kept_without, count_without}
use Rattle.base_laws.specs.laws.Truth.{fails_before}
use Rattle.base_laws.specs.laws.Numbers.{same_or_not}

-- what isn't awake now wasn't
-- where whoever was awake is, but perhaps one that is quiet
pub calm_but : (k n : ℕ) (quiet : ℕ → Type 0) (a b : Waking) → IsCalm n quiet a → b.below ≡ a.below → ((j : ℕ) → (j ≡ k → ⊥) → IsTrue (is_awake a j) → IsTrue (is_awake b j)) → (is_awake b k ≡ false → quiet k) → IsCalm n quiet b
calm_but k n quiet a b calm below kept here = record {
  below = below ∙ calm.below;
  others = λ j within asleep. same_or_not j k
      (λ e. subst quiet (sym e) (here (subst (λ i. is_awake b i ≡ false) e asleep)))
      (λ other. calm.others j within (fails_before (is_awake a j) (is_awake b j) (kept j other) asleep));
}

-- one that is quiet may leave every level
pub calm_unwoken : (k n : ℕ) (quiet : ℕ → Type 0) (a : Waking) → quiet k → IsCalm n quiet a → IsCalm n quiet (record a { levels = without_on_all k a.levels })
calm_unwoken k n quiet a here calm = calm_but k n quiet a (record a { levels = without_on_all k a.levels }) calm refl (λ j other. kept_without k j a.levels other) (λ asleep. here)

-- and any may be put off to one level
pub calm_later : (k n level : ℕ) (quiet : ℕ → Type 0) (a : Waking) → level < length a.levels → IsCalm n quiet a
    → IsCalm n quiet (record a { levels = woken_on k level (without_on_all k a.levels) })
calm_later k n level quiet a within calm = calm_but k n quiet a (record a { levels = woken_on k level (without_on_all k a.levels) }) calm refl
    (λ j other awake. kept_on k level j (without_on_all k a.levels) (kept_without k j a.levels other awake))
    (λ asleep. absurd (true≢false (sym (has_on k level (without_on_all k a.levels) (omega (arith, within, count_without k a.levels))) ∙ asleep)))

-- where none is awake all are quiet
pub all_quiet : (n : ℕ) (quiet : ℕ → Type 0) (a : Waking) → first_turn a.levels ≡ None → IsCalm n quiet a → (k : ℕ) → k < n → quiet k
all_quiet n quiet a none calm k within = calm.others k within (none_in a.levels none k)
