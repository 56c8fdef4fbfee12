-- The numbers of a node get no larger than the room of its place: the room of a node has place for the
-- rooms of the two nodes below it.
use Rattle.std.proofs.Common.{ℕ, ◌+◌, ◌*◌, ◌/◌, ◌<◌, ◌≤◌, ℤ, pos, ◌+ℤ◌, ◌≤ℤ◌, Bool, true, false, cond, int_lt, Option, None, Some, IfSome, arith}
use Rattle.std.specs.Option.{option_map}
use Rattle.std.proofs.Math.Nat.{div-mul-le_self}
use Rattle.std.proofs.lemmas.Nat.{le-div}
use Rattle.std.proofs.lemmas.Int.{ints}
use Rattle.thetatree.specs.declared.leaves.Task.{Task}
use Rattle.thetatree.specs.declared.leaves.Colour.{Colour}
use Rattle.thetatree.specs.declared.leaves.Colour.TheVariants.{Out, White, Gray}
use Rattle.thetatree.specs.declared.node.Best.{Best}
use Rattle.thetatree.specs.declared.node.Node.{Node}
use Rattle.thetatree.specs.code.Nodes.{greater_of, later, better, best_of, no_node, leaf_node, joined, IsNear, IsSmall}

-- half of a product
halve : (a b j c : ℕ) → a * (2 * j) ≤ c → b * (2 * j + 1) ≤ c → (a + b) * j ≤ c
halve a b j c p q =
    let p' : 2 * (a * j) ≤ c = omega (arith, p) in
    let q' : 2 * (b * j) + b ≤ c = omega (arith, q) in
    omega (arith, p', q')

pub rooms : (c j : ℕ) → 0 < j → c / (2 * j) + c / (2 * j + 1) ≤ c / j
rooms c j some = le-div (c / (2 * j) + c / (2 * j + 1)) c j some (halve (c / (2 * j)) (c / (2 * j + 1)) j c (div-mul-le_self c (2 * j)) (div-mul-le_self c (2 * j + 1)))

-- small nodes stay small in a larger room
near_wider : (a b : ℕ) (z : ℤ) → a ≤ b → IsNear a z → IsNear b z
near_wider a b z wide near = (near.0, omega (arith, ints, near.1))

-- a number of the left part, with a sum of the right part after it
near_after : (a b c : ℕ) (z n : ℤ) → a + b ≤ c → IsNear a z → pos 0 ≤ℤ n → n ≤ℤ pos b → IsNear c (z +ℤ n)
near_after a b c z n wide near from to = (omega (arith, ints, near.0, from), omega (arith, ints, near.1, to))

pub greater_in : (P : ℤ → Type 0) (a b : Option ℤ) → IfSome a P → IfSome b P → IfSome (greater_of a b) P
greater_in P None b p q = q
greater_in P (Some a) None p q = p
greater_in P (Some a) (Some b) p q = picked (int_lt a b)
  where
    picked : (t : Bool) → P (cond t b a)
    picked true = q
    picked false = p

pub better_in : (P : Best → Type 0) (a b : Best) → P a → P b → P (better a b)
better_in P a b p q = picked (int_lt a.value b.value)
  where
    picked : (t : Bool) → P (cond t b a)
    picked true = q
    picked false = p

pub best_in : (P : Best → Type 0) (a b : Option Best) → IfSome a P → IfSome b P → IfSome (best_of a b) P
best_in P None b p q = q
best_in P (Some a) None p q = p
best_in P (Some a) (Some b) p q = better_in P a b p q

pub joined_small : (a b c : ℕ) (l r : Node) → a + b ≤ c → IsSmall a l → IsSmall b r → IsSmall c (joined l r)
joined_small a b c l r wide left right = record {
  sum_from = omega (arith, ints, left.sum_from, right.sum_from);
  sum_to = omega (arith, ints, left.sum_to, right.sum_to);
  gray_from = better_in (λ x. pos 0 ≤ℤ x.value) (later r.sum l.gray_sum) (later l.sum r.gray_sum)
      (omega (arith, ints, left.gray_from, right.sum_from)) (omega (arith, ints, left.sum_from, right.gray_from));
  gray_to = better_in (λ x. x.value ≤ℤ pos c) (later r.sum l.gray_sum) (later l.sum r.gray_sum)
      (omega (arith, ints, left.gray_to, right.sum_to)) (omega (arith, ints, left.sum_to, right.gray_to));
  ect = greater_in (IsNear c) r.ect (option_map (λ z. z +ℤ r.sum) l.ect) (wider r.ect right.ect) (after l.ect left.ect);
  gray_ect = best_in (λ x. IsNear c x.value) r.gray_ect (best_of (option_map (later r.sum) l.gray_ect) (option_map (λ z. later z r.gray_sum) l.ect))
      (wider_best r.gray_ect right.gray_ect)
      (best_in (λ x. IsNear c x.value) (option_map (later r.sum) l.gray_ect) (option_map (λ z. later z r.gray_sum) l.ect)
      (after_best l.gray_ect left.gray_ect) (gray_after l.ect left.ect));
}
  where
    wider : (o : Option ℤ) → IfSome o (IsNear b) → IfSome o (IsNear c)
    wider None near = tt
    wider (Some z) near = near_wider b c z (omega (arith, wide)) near

    wider_best : (o : Option Best) → IfSome o (λ x. IsNear b x.value) → IfSome o (λ x. IsNear c x.value)
    wider_best None near = tt
    wider_best (Some x) near = near_wider b c x.value (omega (arith, wide)) near

    after : (o : Option ℤ) → IfSome o (IsNear a) → IfSome (option_map (λ z. z +ℤ r.sum) o) (IsNear c)
    after None near = tt
    after (Some z) near = near_after a b c z r.sum wide near right.sum_from right.sum_to

    after_best : (o : Option Best) → IfSome o (λ x. IsNear a x.value) → IfSome (option_map (later r.sum) o) (λ x. IsNear c x.value)
    after_best None near = tt
    after_best (Some x) near = near_after a b c x.value r.sum wide near right.sum_from right.sum_to

    gray_after : (o : Option ℤ) → IfSome o (IsNear a) → IfSome (option_map (λ z. later z r.gray_sum) o) (λ x. IsNear c x.value)
    gray_after None near = tt
    gray_after (Some z) near = (omega (arith, ints, near.0, right.gray_from), omega (arith, ints, near.1, right.gray_to, wide))

pub no_small : (room : ℕ) → IsSmall room no_node
no_small room = record {
  sum_from = omega (arith, ints);
  sum_to = omega (arith, ints);
  gray_from = omega (arith, ints);
  gray_to = omega (arith, ints);
  ect = tt;
  gray_ect = tt;
}

pub leaf_small : (room : ℕ) (a : Task) (colour : Colour) (k : ℕ) → 2000000000 ≤ room → IsNear 0 a.est → pos 0 ≤ℤ a.p → a.p ≤ℤ pos 2000000000 → IsSmall room (leaf_node a colour k)
leaf_small room a Out k wide near from to = no_small room
leaf_small room a White k wide near from to = record {
  sum_from = from;
  sum_to = omega (arith, ints, to);
  gray_from = from;
  gray_to = omega (arith, ints, to);
  ect = near_after 0 2000000000 room a.est a.p wide near from to;
  gray_ect = near_after 0 2000000000 room a.est a.p wide near from to;
}
leaf_small room a Gray k wide near from to = record {
  sum_from = omega (arith, ints);
  sum_to = omega (arith, ints);
  gray_from = from;
  gray_to = omega (arith, ints, to);
  ect = tt;
  gray_ect = near_after 0 2000000000 room a.est a.p wide near from to;
}
