-- Weights, factor by factor.
use Rattle.std.specs.Prelude.{◌≡◌, ℕ, ◌+◌, ◌*◌, ◌^◌, ◌<◌, ◌≤◌, ℤ, pos, ◌-ℤ◌, ◌≤ℤ◌, ◌<ℤ◌, true, false, List, ◌∷◌, length, map, drop, Option, Some, None, option_map, option_and_then, nat_le}
use Rattle.std.specs.Int.{int_gap}
use Rattle.std.proofs.Common.{refl, sym, ap, ◌∙◌, arith, cond, get_or}
use Rattle.std.proofs.lemmas.Int.{ints}
use Rattle.std.proofs.lemmas.Bool.Decides.{nat_tests}
use Rattle.std.proofs.lemmas.List.{at_drop_more, at_drop_all}
use Rattle.std.proofs.Math.Nat.{mul-le-mul_left}
use Rattle.base_laws.specs.laws.Digits.{some}
use Rattle.sched_model.specs.declared.types.Expr.{Expr}
use Rattle.sched_model.specs.Words.{all_of}
use Rattle.sched_model.specs.Ranges.{Ends}
use Rattle.sched_model.specs.Data.{Data}
use Rattle.sched_model.specs.Hull.{hull_of}
use Rattle.sched_model.specs.Rank.{width, weight}
use Rattle.sched_model.specs.code.Ranks.{limited_weight, weight_from, weight_of}
use Rattle.sched_model.specs.laws.Rank.{wide, gap_up}

pub width_is : (r : Ends) (n : ℕ) → r.0 ≤ℤ r.1 → pos n ≡ r.1 -ℤ r.0 → n + 1 ≡ width r
width_is r n h is = let up = gap_up r.0 r.1 h in omega (arith, ints, is, up)

pub width_one : (r : Ends) → r.1 <ℤ r.0 → 1 ≡ width r
width_one r h = none r.0 r.1 h
  where
    none : (a b : ℤ) → b <ℤ a → 1 ≡ int_gap a b + 1
    none a b h = grind (arith, ints)

one_least : (rs : List Ends) → 1 ≤ weight rs
one_least rs = some (map width rs) (wide rs)

pub weight_begins : (m : Data) (es : List Expr) → weight_from m 1 (drop 0 es) ≡ weight_of m es
weight_begins m es = refl

turned : (k : ℕ) (r : Ends) (o : Option (List Ends)) → option_and_then (λ rs. limited_weight (k * weight rs)) (option_map (λ rs. r ∷ rs) o) ≡ option_and_then (λ rs. limited_weight (k * width r * weight rs)) o
turned k r None = refl
turned k r (Some rs) = ap limited_weight (grouped k (width r) (weight rs))
  where
    grouped : (k w n : ℕ) → k * (w * n) ≡ k * w * n
    grouped k w n = omega arith

first_turned : (m : Data) (k : ℕ) (e : Expr) (es : List Expr) (r : Ends) → hull_of m e ≡ Some r → weight_from m k (e ∷ es) ≡ weight_from m (k * width r) es
first_turned m k e es r is = ap (λ o. option_and_then (λ rs. limited_weight (k * weight rs)) (all_of (o ∷ map (hull_of m) es))) is ∙ turned k r (all_of (map (hull_of m) es))

pub weight_turn : (m : Data) (k n : ℕ) (es : List Expr) (i : ℕ) (d : Expr) (r : Ends) (whole : Option ℤ) → weight_from m k (drop i es) ≡ whole → i < length es → Some r ≡ hull_of m (get_or es i d) → n ≡ k * width r → weight_from m n (drop (i + 1) es) ≡ whole
weight_turn m k n es i d r whole before within is next =
    ap (λ x. weight_from m x (drop (i + 1) es)) next ∙ sym (at_drop_more (weight_from m k) es i d within ∙ first_turned m k (get_or es i d) (drop (i + 1) es) r (sym is)) ∙ before

over : (n : ℕ) (o : Option (List Ends)) → 2 ^ 62 < n → option_and_then (λ rs. limited_weight (n * weight rs)) o ≡ None
over n None h = refl
over n (Some rs) h = beyond (n * weight rs) (more n (weight rs) h (one_least rs))
  where
    more : (n w : ℕ) → 2 ^ 62 < n → 1 ≤ w → 2 ^ 62 < n * w
    more n w h i = let m = mul-le-mul_left n i in omega (arith, h, m)

    beyond : (x : ℕ) → 2 ^ 62 < x → limited_weight x ≡ None
    beyond x h = ap (λ b. cond b (Some (pos x)) None) (too_much x h)
      where
        too_much : (x : ℕ) → 2 ^ 62 < x → nat_le x (2 ^ 62) ≡ false
        too_much x h = grind (arith, nat_tests)

pub weight_over : (m : Data) (k n : ℕ) (es : List Expr) (i : ℕ) (d : Expr) (r : Ends) (whole : Option ℤ) → weight_from m k (drop i es) ≡ whole → i < length es → Some r ≡ hull_of m (get_or es i d) → n ≡ k * width r → 2 ^ 62 < n → None ≡ whole
weight_over m k n es i d r whole before within is next more =
    sym (sym (weight_turn m k n es i d r whole before within is next) ∙ over n (all_of (map (hull_of m) (drop (i + 1) es))) more)

pub weight_none : (m : Data) (k : ℕ) (es : List Expr) (i : ℕ) (d : Expr) (whole : Option ℤ) → weight_from m k (drop i es) ≡ whole → i < length es → None ≡ hull_of m (get_or es i d) → None ≡ whole
weight_none m k es i d whole before within is =
    sym (sym before ∙ at_drop_more (weight_from m k) es i d within ∙ ap (λ o. option_and_then (λ rs. limited_weight (k * weight rs)) (all_of (o ∷ map (hull_of m) (drop (i + 1) es)))) (sym is))

pub weight_end : (m : Data) (k : ℕ) (es : List Expr) (i : ℕ) (z : ℤ) (whole : Option ℤ) → weight_from m k (drop i es) ≡ whole → length es ≤ i → k ≤ 2 ^ 62 → z ≡ pos k → Some z ≡ whole
weight_end m k es i z whole before all few is =
    ap Some is ∙ sym (sym before ∙ at_drop_all (weight_from m k) es i all ∙ ap limited_weight (alone k) ∙ ap (λ b. cond b (Some (pos k)) None) (within k few))
  where
    alone : (k : ℕ) → k * 1 ≡ k
    alone k = omega arith

    within : (k : ℕ) → k ≤ 2 ^ 62 → nat_le k (2 ^ 62) ≡ true
    within k h = grind (arith, nat_tests)
