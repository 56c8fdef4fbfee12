-- Products of a capacity, which isn't negative, rise with the other factor.
use Rattle.std.proofs.Common.{◌≡◌, ℕ, zero, suc, ◌^◌, ◌≤◌, ℤ, pos, negsuc, neg_ℤ, ◌+ℤ◌, ◌*ℤ◌, ◌≤ℤ◌, arith}
use Rattle.std.proofs.lemmas.Int.{ints}
use Rattle.std.proofs.Math.IntN.{zero-*ℤ, suc_ℤ-*ℤ, pos-*ℤ-pos, pos-*ℤ-negsuc}
use Rattle.envelope.specs.code.Bars.{IsCapacity}

more : (x y a b : ℤ) → x ≤ℤ y → a ≤ℤ b → (a +ℤ x) ≤ℤ (b +ℤ y)
more x y a b h i = omega (arith, ints, h, i)

pub rises_by : (n : ℕ) (x y : ℤ) → x ≤ℤ y → (pos n *ℤ x) ≤ℤ (pos n *ℤ y)
rises_by zero x y h = rw (zero-*ℤ x, zero-*ℤ y) (omega (arith, ints))
rises_by (suc n) x y h =
    let first : (pos (suc n) *ℤ x) ≡ ((pos n *ℤ x) +ℤ x) = suc_ℤ-*ℤ (pos n) x in
    let second : (pos (suc n) *ℤ y) ≡ ((pos n *ℤ y) +ℤ y) = suc_ℤ-*ℤ (pos n) y in
    rw (first, second) (more x y (pos n *ℤ x) (pos n *ℤ y) h (rises_by n x y h))

pub product_rises : (c x y : ℤ) → pos 0 ≤ℤ c → x ≤ℤ y → (c *ℤ x) ≤ℤ (c *ℤ y)
product_rises (pos n) x y from h = rises_by n x y h
product_rises (negsuc n) x y from h = absurd (omega (arith, ints, from))

-- what a capacity offers up to the last moment, and what it offered from the first one on
ends_of : (n : ℕ) → n ≤ 2 ^ 62 → ((pos n *ℤ pos 1000000000) ≤ℤ pos (2 ^ 92)) × (neg_ℤ (pos (2 ^ 92)) ≤ℤ (pos n *ℤ negsuc 999999999))
ends_of n few = rw (pos-*ℤ-pos n 1000000000, pos-*ℤ-negsuc n 999999999) (omega (arith, ints, few), omega (arith, ints, few))

pub offered_to : (c t : ℤ) → IsCapacity c → t ≤ℤ pos 1000000000 → (c *ℤ t) ≤ℤ pos (2 ^ 92)
offered_to (pos n) t (from, to) high = omega (arith, ints, rises_by n t (pos 1000000000) high, (ends_of n (omega (arith, ints, to))).0)
offered_to (negsuc n) t (from, to) high = absurd (omega (arith, ints, from))

pub offered_from : (c t : ℤ) → IsCapacity c → neg_ℤ (pos 1000000000) ≤ℤ t → neg_ℤ (pos (2 ^ 92)) ≤ℤ (c *ℤ t)
offered_from (pos n) t (from, to) low = omega (arith, ints, rises_by n (negsuc 999999999) t (omega (arith, ints, low)), (ends_of n (omega (arith, ints, to))).1)
offered_from (negsuc n) t (from, to) low = absurd (omega (arith, ints, from))
