-- Sets of places: what one more place, or one less, does to them.
use Rattle.std.specs.Prelude.{◌≡◌, ℕ, ◌*◌, ◌<◌, ◌≤◌, ◌%◌, ◌^◌, Bool, true, false, not, ◌&&◌, ◌||◌, nat_eq, max, ◌≢◌}
use Rattle.std.specs.Int.{bit_at, bit_not, trailing_zeros, w64}
use mir.Val.{bool_byte}
use Rattle.std.specs.Int.Bits.{bit_and}
use Rattle.std.specs.Int.RustNames.{bit_or}
use Rattle.std.proofs.Common.{sym, ap, ◌∙◌, arith, inl, inr}
use Rattle.std.proofs.lemmas.Bool.{cases_eq, cases_lt, true≢false}
use Rattle.std.proofs.lemmas.Bool.Decides.{nat_tests}
use Rattle.std.proofs.lemmas.Nat.{and_le_l}
use Rattle.std.proofs.lemmas.Nat.Bits.{bit_at_or, bit_at-zero, bit_at-trailing_zeros, bit_at_set_same, bit_at_set_other, bit_at_clear_same, bit_at_clear_other, bit_at_above}
use Rattle.base_laws.specs.laws.Numbers.{differs}
use Rattle.theta_passes.specs.code.Places.{has_place}

is_one : (n : ℕ) → n ≡ 1 → nat_eq n 1 ≡ true
is_one n e = grind (arith, nat_tests)

number_itself : (n : ℕ) → nat_eq n n ≡ true
number_itself n = grind (arith, nat_tests)

same_or : (b : Bool) (x y : Bool) → b ≡ true → x ≡ true → x ≡ (b || y)
same_or true x y on e = e
same_or false x y on e = absurd (true≢false (sym on))

other_or : (b : Bool) (x y : Bool) → b ≡ false → x ≡ y → x ≡ (b || y)
other_or true x y off e = absurd (true≢false off)
other_or false x y off e = e

-- one more
with_one : (set k j : ℕ) → k < 64 → has_place (bit_or set ((1 * 2 ^ k) % 2 ^ 64)) j ≡ (nat_eq j k || has_place set j)
with_one set k j room = elim (cases_eq j k) [
  | inl e ↦ same_or (nat_eq j k) (has_place (bit_or set ((1 * 2 ^ k) % 2 ^ 64)) j) (has_place set j) (ap (λ n. nat_eq n k) e ∙ number_itself k) (is_one (bit_at (bit_or set ((1 * 2 ^ k) % 2 ^ 64)) j) (ap (bit_at (bit_or set ((1 * 2 ^ k) % 2 ^ 64))) e ∙ bit_at_set_same w64 set k room))
  | inr other ↦ other_or (nat_eq j k) (has_place (bit_or set ((1 * 2 ^ k) % 2 ^ 64)) j) (has_place set j) (differs j k other) (ap (λ n. nat_eq n 1) (bit_at_set_other w64 set k room j other))
]

with_none : (set j n : ℕ) → n ≡ 0 → has_place (bit_or set n) j ≡ has_place set j
with_none set j n none = ap (λ m. nat_eq m 1) (bit_at_or set n j ∙ most (bit_at set j) (bit_at n j) (ap (λ m. bit_at m j) none ∙ bit_at-zero j))
  where
    most : (a b : ℕ) → b ≡ 0 → max a b ≡ a
    most a b none = omega arith

pub with_is : (set k j n : ℕ) (b : Bool) → k < 64 → n ≡ bool_byte b → has_place (bit_or set ((n * 2 ^ k) % 2 ^ 64)) j ≡ ((b && nat_eq j k) || has_place set j)
with_is set k j n true room is = ap (λ m. has_place (bit_or set ((m * 2 ^ k) % 2 ^ 64)) j) is ∙ with_one set k j room
with_is set k j n false room is = with_none set j ((n * 2 ^ k) % 2 ^ 64) (ap (λ m. (m * 2 ^ k) % 2 ^ 64) is ∙ nothing (2 ^ k))
  where
    nothing : (m : ℕ) → (0 * m) % 2 ^ 64 ≡ 0
    nothing m = omega arith

-- one less
pub lowest_there : (set : ℕ) → 0 < set → set < 2 ^ 64 → has_place set (trailing_zeros w64 set) ≡ true
lowest_there set some fits = is_one (bit_at set (trailing_zeros w64 set)) (bit_at-trailing_zeros w64 set some fits).1

abbrev pub less : ℕ → ℕ → ℕ
less set k = bit_and set (bit_not w64 ((1 * 2 ^ k) % 2 ^ 64))

gone : (set k : ℕ) → k < 64 → has_place (less set k) k ≡ false
gone set k room = ap (λ m. nat_eq m 1) (bit_at_clear_same w64 set k room)

pub without_less : (set k : ℕ) → k < 64 → has_place set k ≡ true → less set k < set
without_less set k room there = elim (cases_eq (less set k) set) [
  | inl same ↦ absurd (true≢false (sym there ∙ ap (λ s. has_place s k) (sym same) ∙ gone set k room))
  | inr other ↦ omega (arith, and_le_l set (bit_not w64 ((1 * 2 ^ k) % 2 ^ 64)), other)
]

above : (set k j : ℕ) → set < 2 ^ 64 → 64 ≤ j → has_place (less set k) j ≡ has_place set j
above set k j fits past = ap (λ m. nat_eq m 1) (bit_at_above (less set k) 64 j (omega (arith, and_le_l set (bit_not w64 ((1 * 2 ^ k) % 2 ^ 64)), fits)) past ∙ sym (bit_at_above set 64 j fits past))

still : (set k j : ℕ) → k < 64 → set < 2 ^ 64 → j ≢ k → has_place (less set k) j ≡ has_place set j
still set k j room fits other = elim (cases_lt j 64) [
  | inl low ↦ ap (λ m. nat_eq m 1) (bit_at_clear_other w64 set k room j low other)
  | inr high ↦ above set k j fits high
]

pub without_is : (set k j : ℕ) → k < 64 → set < 2 ^ 64 → has_place (less set k) j ≡ (not (nat_eq j k) && has_place set j)
without_is set k j room fits = elim (cases_eq j k) [
  | inl e ↦ ap (has_place (less set k)) e ∙ gone set k room ∙ sym (ap (λ b. not b && has_place set j) (ap (λ n. nat_eq n k) e ∙ number_itself k))
  | inr other ↦ still set k j room fits other ∙ sym (ap (λ b. not b && has_place set j) (differs j k other))
]
