-- Whoever has its turn is put to sleep, or put off.
use Rattle.std.specs.Prelude.{◌≡◌, ℕ, ◌<◌, false, length, Option, Some, None}
use Rattle.std.proofs.Common.{refl, sym, subst, ◌∙◌, arith}
use Rattle.wake_levels.specs.declared.levels.Turn.{Turn}
use Rattle.wake_levels.specs.code.Waking.{Waking, is_awake, weight, first_turn, without_on_all, woken_on}
use Rattle.wake_levels.specs.code.Calm.{IsCalm}
use Rattle.wake_levels.specs.laws.Turning.{weight_without, weight_on, count_without, count_on, none_in}
use Rattle.wake_levels.specs.laws.Calming.{calm_unwoken, calm_later, all_quiet}

-- the levels after whoever had its turn was put to sleep, and after it was put off
pub record IsCalmed (n : ℕ) (quiet : ℕ → Type 0) (a b : Waking) : Type 0 where
  pub below : b.below ≡ a.below
  pub count : length b.levels ≡ length a.levels
  pub calm : IsCalm n quiet b
  pub lighter : weight b.levels < weight a.levels

pub asleep : (n : ℕ) (quiet : ℕ → Type 0) (a b : Waking) (o : Option Turn) (t : Turn) → o ≡ first_turn a.levels → o ≡ Some t → b ≡ record a { levels = without_on_all t.k a.levels } → quiet t.k → IsCalm n quiet a → IsCalmed n quiet a b
asleep n quiet a b o t first some is here calm = subst (IsCalmed n quiet a) (sym is) (record {
  below = refl;
  count = count_without t.k a.levels;
  calm = calm_unwoken t.k n quiet a here calm;
  lighter = let two = weight_without a.levels t turn in omega (arith, two.0, two.1);
})
  where
    turn : first_turn a.levels ≡ Some t
    turn = sym first ∙ some

pub later : (n late : ℕ) (quiet : ℕ → Type 0) (a c : Waking) (o : Option Turn) (t : Turn) → o ≡ first_turn a.levels → o ≡ Some t → late < length a.levels → t.level < late
    → c ≡ record a { levels = woken_on t.k late (without_on_all t.k a.levels) } → IsCalm n quiet a → IsCalmed n quiet a c
later n late quiet a c o t first some within less is calm = subst (IsCalmed n quiet a) (sym is) (record {
  below = refl;
  count = count_on t.k late (without_on_all t.k a.levels) ∙ count_without t.k a.levels;
  calm = calm_later t.k n late quiet a within calm;
  lighter = let two = weight_without a.levels t turn in let more = weight_on t.k late (without_on_all t.k a.levels) (omega (arith, within, count_without t.k a.levels)) in omega (arith, two.0, two.1, more, within, less, count_without t.k a.levels);
})
  where
    turn : first_turn a.levels ≡ Some t
    turn = sym first ∙ some

pub quiet_all : (n : ℕ) (quiet : ℕ → Type 0) (a : Waking) (o : Option Turn) → o ≡ first_turn a.levels → o ≡ None → IsCalm n quiet a → (k : ℕ) → k < n → quiet k
quiet_all n quiet a o first none calm = all_quiet n quiet a (sym first ∙ none) calm

pub asleep_all : (a : Waking) (o : Option Turn) → o ≡ first_turn a.levels → o ≡ None → (k : ℕ) → is_awake a k ≡ false
asleep_all a o first none k = none_in a.levels (sym first ∙ none) k
