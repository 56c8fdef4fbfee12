-- Sums over lists that are read from the front, and what a pulse adds until a moment.
use Rattle.std.specs.Prelude.{int_le, int_lt, cond}
use Rattle.std.proofs.Common.{◌≡◌, ℕ, ◌+◌, ◌<◌, ◌≤◌, ℤ, pos, ◌+ℤ◌, Bool, true, false, not, List, length, map, drop, get_or, sym, ap, ◌∙◌, arith}
use Rattle.std.proofs.lemmas.Int.{ints}
use Rattle.std.proofs.lemmas.List.{at_drop_more, at_drop_all}
use Rattle.base_laws.specs.laws.Numbers.{regroup}
use Rattle.sched_model.specs.Words.{total}
use Rattle.sched_model.specs.Cumulative.{between, signed}

-- one more part in the sum, and the end
pub sum_turn : {X : Type 0} (f : X → ℤ) (xs : List X) (i : ℕ) (d : X) (z sum sum' whole : ℤ) → sum +ℤ total (map f (drop i xs)) ≡ whole → i < length xs → z ≡ f (get_or xs i d) → sum' ≡ sum +ℤ z
    → sum' +ℤ total (map f (drop (i + 1) xs)) ≡ whole
sum_turn f xs i d z sum sum' whole before within is next =
    sym (at_drop_more (λ ys. sum +ℤ total (map f ys)) xs i d within ∙ ap (λ y. sum +ℤ (y +ℤ total (map f (drop (i + 1) xs)))) (sym is) ∙ regroup sum z (total (map f (drop (i + 1) xs))) sum' next) ∙ before

pub sum_end : {X : Type 0} (f : X → ℤ) (xs : List X) (i : ℕ) (sum whole : ℤ) → sum +ℤ total (map f (drop i xs)) ≡ whole → length xs ≤ i → sum ≡ whole
sum_end f xs i sum whole before past = let none : sum ≡ sum +ℤ pos 0 = omega (arith, ints) in none ∙ sym (at_drop_all (λ ys. sum +ℤ total (map f ys)) xs i past) ∙ before

-- up where it begins, and down where it ends
pub up_down : (minus : Bool) (u v h t : ℤ) → int_lt u v ≡ true
    → (cond (int_le u t) (signed minus h) (pos 0) +ℤ (cond (int_le v t) (signed (not minus) h) (pos 0) +ℤ pos 0)) ≡ signed minus (between u v h t)
up_down true u v h t less = grind (arith, ints)
up_down false u v h t less = grind (arith, ints)

-- one that never begins adds nothing
pub never_up : (minus : Bool) (u v h t : ℤ) → int_lt u v ≡ false → pos 0 ≡ signed minus (between u v h t)
never_up true u v h t more = grind (arith, ints)
never_up false u v h t more = grind (arith, ints)
