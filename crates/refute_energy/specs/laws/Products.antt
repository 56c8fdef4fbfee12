-- Products of a number that isn't negative.
use Rattle.std.specs.Prelude.{◌≡◌, ℕ, zero, suc, ℤ, pos, negsuc, ◌+ℤ◌, ◌-ℤ◌, ◌*ℤ◌, ◌≤ℤ◌}
use Rattle.std.proofs.Common.{subst, arith}
use Rattle.std.proofs.lemmas.Int.{ints}
use Rattle.std.proofs.Math.IntN.{*ℤ_comm, zero-*ℤ, suc_ℤ-*ℤ}

more : (x y a b : ℤ) → x ≤ℤ y → a ≤ℤ b → (a +ℤ x) ≤ℤ (b +ℤ y)
more x y a b h i = omega (arith, ints, h, i)

pub rises_by : (n : ℕ) (x y : ℤ) → x ≤ℤ y → (pos n *ℤ x) ≤ℤ (pos n *ℤ y)
rises_by zero x y h = rw (zero-*ℤ x, zero-*ℤ y) (omega (arith, ints))
rises_by (suc n) x y h =
    let first : (pos (suc n) *ℤ x) ≡ ((pos n *ℤ x) +ℤ x) = suc_ℤ-*ℤ (pos n) x in
    let second : (pos (suc n) *ℤ y) ≡ ((pos n *ℤ y) +ℤ y) = suc_ℤ-*ℤ (pos n) y in
    rw (first, second) (more x y (pos n *ℤ x) (pos n *ℤ y) h (rises_by n x y h))

-- a product rises with the second factor, where the first isn't negative
pub rises : (c x y : ℤ) → pos 0 ≤ℤ c → x ≤ℤ y → (c *ℤ x) ≤ℤ (c *ℤ y)
rises (pos n) x y from h = rises_by n x y h
rises (negsuc n) x y from h = absurd (omega (arith, ints, from))

apart_by : (n : ℕ) (x y : ℤ) → (pos n *ℤ (x -ℤ y)) ≡ ((pos n *ℤ x) -ℤ (pos n *ℤ y))
apart_by zero x y = rw (zero-*ℤ (x -ℤ y), zero-*ℤ x, zero-*ℤ y) (omega (arith, ints))
apart_by (suc n) x y =
    let whole : (pos (suc n) *ℤ (x -ℤ y)) ≡ ((pos n *ℤ (x -ℤ y)) +ℤ (x -ℤ y)) = suc_ℤ-*ℤ (pos n) (x -ℤ y) in
    let first : (pos (suc n) *ℤ x) ≡ ((pos n *ℤ x) +ℤ x) = suc_ℤ-*ℤ (pos n) x in
    let second : (pos (suc n) *ℤ y) ≡ ((pos n *ℤ y) +ℤ y) = suc_ℤ-*ℤ (pos n) y in
    rw (whole, first, second) (added (pos n *ℤ (x -ℤ y)) (pos n *ℤ x) (pos n *ℤ y) (apart_by n x y))
  where
    added : (a b c : ℤ) → a ≡ b -ℤ c → (a +ℤ (x -ℤ y)) ≡ ((b +ℤ x) -ℤ (c +ℤ y))
    added a b c h = omega (arith, ints, h)

-- the product of a difference
pub apart : (c x y : ℤ) → pos 0 ≤ℤ c → (c *ℤ (x -ℤ y)) ≡ ((c *ℤ x) -ℤ (c *ℤ y))
apart (pos n) x y from = apart_by n x y
apart (negsuc n) x y from = absurd (omega (arith, ints, from))

-- a product of two numbers that aren't negative isn't
pub not_negative : (c x : ℤ) → pos 0 ≤ℤ c → pos 0 ≤ℤ x → pos 0 ≤ℤ (c *ℤ x)
not_negative c x from h = nonneg (c *ℤ x) (subst (λ z. z ≤ℤ (c *ℤ x)) (none c) (rises c (pos 0) x from h))
  where
    none : (c : ℤ) → (c *ℤ pos 0) ≡ pos 0
    none c = subst (λ z. z ≡ pos 0) (*ℤ_comm (pos 0) c) (zero-*ℤ c)

    nonneg : (z : ℤ) → pos 0 ≤ℤ z → pos 0 ≤ℤ z
    nonneg z h = h
