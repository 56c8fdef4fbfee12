-- A product of a number of 64 bits and a moment.
use Rattle.std.specs.Prelude.{◌≡◌, ℕ, suc, ◌^◌, ◌≤◌, ℤ, pos, negsuc, neg_ℤ, ◌*ℤ◌, ◌≤ℤ◌}
use Rattle.std.proofs.Common.{sym, subst, arith}
use Rattle.std.proofs.lemmas.Int.{ints}
use Rattle.std.proofs.Math.IntN.{*ℤ_comm, pos-*ℤ-pos, pos-*ℤ-negsuc, *ℤ-negsuc}
use Rattle.refute_energy.specs.laws.Products.{rises_by}

pub record IsWide (z : ℤ) : Type 0 where
  pub low : neg_ℤ (pos (2 ^ 94)) ≤ℤ z
  pub high : z ≤ℤ pos (2 ^ 94)

ends_of : (n : ℕ) → n ≤ 1000000000 → ((pos n *ℤ pos (2 ^ 63)) ≤ℤ pos (2 ^ 94)) × (neg_ℤ (pos (2 ^ 94)) ≤ℤ (pos n *ℤ negsuc (2 ^ 63)))
ends_of n few = rw (pos-*ℤ-pos n (2 ^ 63), pos-*ℤ-negsuc n (2 ^ 63)) (omega (arith, ints, few), omega (arith, ints, few))

by_count : (n : ℕ) (h : ℤ) → n ≤ 1000000000 → neg_ℤ (pos (2 ^ 63)) ≤ℤ h → h ≤ℤ pos (2 ^ 63) → IsWide (h *ℤ pos n)
by_count n h few lo hi = subst IsWide (*ℤ_comm (pos n) h) (made (pos n *ℤ h) (pos n *ℤ negsuc (2 ^ 63)) (pos n *ℤ pos (2 ^ 63)) (rises_by n (negsuc (2 ^ 63)) h (omega (arith, ints, lo))) (rises_by n h (pos (2 ^ 63)) hi) (ends_of n few).1 (ends_of n few).0)
  where
    made : (z a b : ℤ) → a ≤ℤ z → z ≤ℤ b → neg_ℤ (pos (2 ^ 94)) ≤ℤ a → b ≤ℤ pos (2 ^ 94) → IsWide z
    made z a b h i j k = record { low = omega (arith, ints, h, j); high = omega (arith, ints, i, k) }

product_wide : (h p : ℤ) → neg_ℤ (pos (2 ^ 63)) ≤ℤ h → h ≤ℤ pos (2 ^ 63) → neg_ℤ (pos 1000000000) ≤ℤ p → p ≤ℤ pos 1000000000 → IsWide (h *ℤ p)
product_wide h (pos n) lo hi low high = by_count n h (omega (arith, ints, high)) lo hi
product_wide h (negsuc n) lo hi low high = subst IsWide (sym (*ℤ-negsuc h n)) (turned (h *ℤ pos (suc n)) (by_count (suc n) h (omega (arith, ints, low)) lo hi))
  where
    turned : (z : ℤ) → IsWide z → IsWide (neg_ℤ z)
    turned z w = record { low = omega (arith, ints, w.high); high = omega (arith, ints, w.low) }

pub wide_low : (h p : ℤ) → neg_ℤ (pos (2 ^ 63)) ≤ℤ h → h ≤ℤ pos (2 ^ 63) → neg_ℤ (pos 1000000000) ≤ℤ p → p ≤ℤ pos 1000000000 → neg_ℤ (pos (2 ^ 94)) ≤ℤ (h *ℤ p)
wide_low h p lo hi low high = (product_wide h p lo hi low high).low

pub wide_high : (h p : ℤ) → neg_ℤ (pos (2 ^ 63)) ≤ℤ h → h ≤ℤ pos (2 ^ 63) → neg_ℤ (pos 1000000000) ≤ℤ p → p ≤ℤ pos 1000000000 → (h *ℤ p) ≤ℤ pos (2 ^ 94)
wide_high h p lo hi low high = (product_wide h p lo hi low high).high

pub wide_low_as : (h p z : ℤ) → z ≡ h *ℤ p → neg_ℤ (pos (2 ^ 63)) ≤ℤ h → h ≤ℤ pos (2 ^ 63) → neg_ℤ (pos 1000000000) ≤ℤ p → p ≤ℤ pos 1000000000 → neg_ℤ (pos (2 ^ 94)) ≤ℤ z
wide_low_as h p z is lo hi low high = let w = wide_low h p lo hi low high in turn z (h *ℤ p) is w
  where
    turn : (z y : ℤ) → z ≡ y → neg_ℤ (pos (2 ^ 94)) ≤ℤ y → neg_ℤ (pos (2 ^ 94)) ≤ℤ z
    turn z y h i = omega (arith, ints, h, i)

pub wide_high_as : (h p z : ℤ) → z ≡ h *ℤ p → neg_ℤ (pos (2 ^ 63)) ≤ℤ h → h ≤ℤ pos (2 ^ 63) → neg_ℤ (pos 1000000000) ≤ℤ p → p ≤ℤ pos 1000000000 → z ≤ℤ pos (2 ^ 94)
wide_high_as h p z is lo hi low high = let w = wide_high h p lo hi low high in turn z (h *ℤ p) is w
  where
    turn : (z y : ℤ) → z ≡ y → y ≤ℤ pos (2 ^ 94) → z ≤ℤ pos (2 ^ 94)
    turn z y h i = omega (arith, ints, h, i)
