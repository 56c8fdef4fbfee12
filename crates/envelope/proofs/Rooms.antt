-- The numbers of a node get no larger than the room of its place: the room of a node has place for the
-- rooms of the two nodes below it.
use Rattle.std.proofs.Common.{ℕ, ◌+◌, ◌*◌, ◌/◌, ◌<◌, ◌≤◌, ℤ, pos, ◌+ℤ◌, ◌*ℤ◌, ◌≤ℤ◌, Bool, true, false, cond, int_lt, Option, None, Some, IfSome, arith}
use Rattle.std.specs.Option.{option_map}
use Rattle.std.proofs.Math.Nat.{div-mul-le_self}
use Rattle.std.proofs.lemmas.Nat.{le-div}
use Rattle.std.proofs.lemmas.Int.{ints}
use Rattle.envelope.specs.declared.bars.Bar.{Bar}
use Rattle.envelope.specs.declared.node.Node.{Node}
use Rattle.envelope.specs.code.Bars.{IsSmallBar, IsCapacity}
use Rattle.envelope.specs.code.Nodes.{greater_of, no_node, leaf_node, joined, IsNear, IsSmall}
use Rattle.envelope.proofs.Products.{offered_from, offered_to}

-- half of a product
halve : (a b j c : ℕ) → a * (2 * j) ≤ c → b * (2 * j + 1) ≤ c → (a + b) * j ≤ c
halve a b j c p q =
    let p' : 2 * (a * j) ≤ c = omega (arith, p) in
    let q' : 2 * (b * j) + b ≤ c = omega (arith, q) in
    omega (arith, p', q')

pub rooms : (c j : ℕ) → 0 < j → c / (2 * j) + c / (2 * j + 1) ≤ c / j
rooms c j some = le-div (c / (2 * j) + c / (2 * j + 1)) c j some (halve (c / (2 * j)) (c / (2 * j + 1)) j c (div-mul-le_self c (2 * j)) (div-mul-le_self c (2 * j + 1)))

-- small nodes stay small in a larger room
near_wider : (a b : ℕ) (z : ℤ) → a ≤ b → IsNear a z → IsNear b z
near_wider a b z wide near = (near.0, omega (arith, ints, near.1))

-- a number of the left part, with a sum of the right part after it
near_after : (a b c : ℕ) (z n : ℤ) → a + b ≤ c → IsNear a z → pos 0 ≤ℤ n → n ≤ℤ pos b → IsNear c (z +ℤ n)
near_after a b c z n wide near from to = (omega (arith, ints, near.0, from), omega (arith, ints, near.1, to))

pub greater_in : (P : ℤ → Type 0) (a b : Option ℤ) → IfSome a P → IfSome b P → IfSome (greater_of a b) P
greater_in P None b p q = q
greater_in P (Some a) None p q = p
greater_in P (Some a) (Some b) p q = picked (int_lt a b)
  where
    picked : (t : Bool) → P (cond t b a)
    picked true = q
    picked false = p

pub joined_small : (a b c : ℕ) (l r : Node) → a + b ≤ c → IsSmall a l → IsSmall b r → IsSmall c (joined l r)
joined_small a b c l r wide left right = record {
  sum_from = omega (arith, ints, left.sum_from, right.sum_from);
  sum_to = omega (arith, ints, left.sum_to, right.sum_to);
  env = greater_in (IsNear c) r.env (option_map (λ z. z +ℤ r.sum) l.env) (wider r.env right.env) (after l.env left.env);
}
  where
    wider : (o : Option ℤ) → IfSome o (IsNear b) → IfSome o (IsNear c)
    wider None near = tt
    wider (Some z) near = near_wider b c z (omega (arith, wide)) near

    after : (o : Option ℤ) → IfSome o (IsNear a) → IfSome (option_map (λ z. z +ℤ r.sum) o) (IsNear c)
    after None near = tt
    after (Some z) near = near_after a b c z r.sum wide near right.sum_from right.sum_to

pub no_small : (room : ℕ) → IsSmall room no_node
no_small room = record { sum_from = omega (arith, ints); sum_to = omega (arith, ints); env = tt }

pub leaf_small : (room : ℕ) (c : ℤ) (a : Bar) (on : Bool) → 1000000000000000 ≤ room → IsCapacity c → IsSmallBar a → IsSmall room (leaf_node c a on)
leaf_small room c a false wide capacity bar = no_small room
leaf_small room c a true wide capacity bar = record {
  sum_from = bar.energy_from;
  sum_to = omega (arith, ints, bar.energy_to, wide);
  env = near_after 0 1000000000000000 room (c *ℤ a.est) a.energy wide
      (offered_from c a.est capacity bar.est_from, omega (arith, ints, offered_to c a.est capacity bar.est_to)) bar.energy_from bar.energy_to;
}
