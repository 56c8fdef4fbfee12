-- Sets of places: what one more place, one less, and the comparison of two words say of them.
use mir.Val.{bool_byte}
use Rattle.std.specs.Prelude.{◌≡◌, ◌≢◌, ℕ, ◌<◌, ◌≤◌, ◌*◌, ◌/◌, ◌%◌, ◌^◌, Bool, true, false, not, ◌&&◌, ◌||◌, List, nat_eq, min, max}
use Rattle.std.specs.Int.{bit_at, bit_not, trailing_zeros, w64}
use Rattle.std.specs.Int.Bits.{bit_and}
use Rattle.std.specs.Int.RustNames.{bit_or}
use Rattle.std.proofs.Common.{sym, ap, ◌∙◌, arith, inl, inr, get_or}
use Rattle.std.proofs.lemmas.Bool.{cases_eq, cases_lt, true≢false}
use Rattle.std.proofs.lemmas.Bool.Decides.{nat_tests}
use Rattle.std.proofs.lemmas.Nat.{and_le_l}
use Rattle.std.proofs.lemmas.Nat.Bits.{bit_at-lt, bit_at-zero, bit_at_and, bit_at_or, bit_at_above, bit_at_set_same, bit_at_set_other, bit_at_clear_same, bit_at_clear_other, bit_at-trailing_zeros}
use Rattle.prop_unary.specs.code.Rows.{has_word}
use Rattle.base_laws.specs.laws.Numbers.{differs}

-- words
is_one : (n : ℕ) → n ≡ 1 → nat_eq n 1 ≡ true
is_one n e = grind (arith, nat_tests)

number_itself : (n : ℕ) → nat_eq n n ≡ true
number_itself n = grind (arith, nat_tests)

pub same_number : (i j : ℕ) → nat_eq i j ≡ true → i ≡ j
same_number i j h = grind (arith, nat_tests)

same_or : (b x y : Bool) → b ≡ true → x ≡ true → x ≡ (b || y)
same_or true x y on e = e
same_or false x y on e = absurd (true≢false (sym on))

other_or : (b x y : Bool) → b ≡ false → x ≡ y → x ≡ (b || y)
other_or true x y off e = absurd (true≢false off)
other_or false x y off e = e

-- one more bit
with_one : (word b i : ℕ) → b < 64 → has_word (bit_or word ((1 * 2 ^ b) % 2 ^ 64)) i ≡ (nat_eq i b || has_word word i)
with_one word b i room =
    let more = bit_or word ((1 * 2 ^ b) % 2 ^ 64) in
    elim (cases_eq i b) [
      | inl e ↦ same_or (nat_eq i b) (has_word more i) (has_word word i) (ap (λ n. nat_eq n b) e ∙ number_itself b) (is_one (bit_at more i) (ap (bit_at more) e ∙ bit_at_set_same w64 word b room))
      | inr other ↦ other_or (nat_eq i b) (has_word more i) (has_word word i) (differs i b other) (ap (λ n. nat_eq n 1) (bit_at_set_other w64 word b room i other))
    ]

with_none : (word i n : ℕ) → n ≡ 0 → has_word (bit_or word n) i ≡ has_word word i
with_none word i n none = ap (λ m. nat_eq m 1) (bit_at_or word n i ∙ most (bit_at word i) (bit_at n i) (ap (λ m. bit_at m i) none ∙ bit_at-zero i))
  where
    most : (x y : ℕ) → y ≡ 0 → max x y ≡ x
    most x y none = omega arith

pub with_bit_is : (word b i n : ℕ) (is_set : Bool) → b < 64 → n ≡ bool_byte is_set → has_word (bit_or word ((n * 2 ^ b) % 2 ^ 64)) i ≡ ((is_set && nat_eq i b) || has_word word i)
with_bit_is word b i n true room is = ap (λ m. has_word (bit_or word ((m * 2 ^ b) % 2 ^ 64)) i) is ∙ with_one word b i room
with_bit_is word b i n false room is = with_none word i ((n * 2 ^ b) % 2 ^ 64) (ap (λ m. (m * 2 ^ b) % 2 ^ 64) is ∙ nothing (2 ^ b))
  where
    nothing : (m : ℕ) → (0 * m) % 2 ^ 64 ≡ 0
    nothing m = omega arith

-- one bit less
pub lowest_there : (word : ℕ) → 0 < word → word < 2 ^ 64 → has_word word (trailing_zeros w64 word) ≡ true
lowest_there word some fits = is_one (bit_at word (trailing_zeros w64 word)) (bit_at-trailing_zeros w64 word some fits).1

abbrev less : ℕ → ℕ → ℕ
less word b = bit_and word (bit_not w64 ((1 * 2 ^ b) % 2 ^ 64))

gone : (word b : ℕ) → b < 64 → has_word (less word b) b ≡ false
gone word b room = ap (λ n. nat_eq n 1) (bit_at_clear_same w64 word b room)

pub without_less : (word b : ℕ) → b < 64 → has_word word b ≡ true → less word b < word
without_less word b room there = elim (cases_eq (less word b) word) [
  | inl same ↦ absurd (true≢false (sym there ∙ ap (λ n. has_word n b) (sym same) ∙ gone word b room))
  | inr other ↦ omega (arith, and_le_l word (bit_not w64 ((1 * 2 ^ b) % 2 ^ 64)), other)
]

above : (word b i : ℕ) → word < 2 ^ 64 → 64 ≤ i → has_word (less word b) i ≡ has_word word i
above word b i fits past = ap (λ n. nat_eq n 1) (bit_at_above (less word b) 64 i (omega (arith, and_le_l word (bit_not w64 ((1 * 2 ^ b) % 2 ^ 64)), fits)) past ∙ sym (bit_at_above word 64 i fits past))

still : (word b i : ℕ) → b < 64 → word < 2 ^ 64 → i ≢ b → has_word (less word b) i ≡ has_word word i
still word b i room fits other = elim (cases_lt i 64) [
  | inl low ↦ ap (λ n. nat_eq n 1) (bit_at_clear_other w64 word b room i low other)
  | inr high ↦ above word b i fits high
]

pub without_bit_is : (word b i : ℕ) → b < 64 → word < 2 ^ 64 → has_word (less word b) i ≡ (not (nat_eq i b) && has_word word i)
without_bit_is word b i room fits = elim (cases_eq i b) [
  | inl e ↦ ap (has_word (less word b)) e ∙ gone word b room ∙ sym (ap (λ t. not t && has_word word i) (ap (λ n. nat_eq n b) e ∙ number_itself b))
  | inr other ↦ still word b i room fits other ∙ sym (ap (λ t. not t && has_word word i) (differs i b other))
]

both_one : (x y : ℕ) → y < 2 → min x y ≡ x → nat_eq x 1 ≡ true → nat_eq y 1 ≡ true
both_one x y small e h = grind (arith, nat_tests)

pub part_is : (word other b : ℕ) → bit_and word other ≡ word → has_word word b ≡ true → has_word other b ≡ true
part_is word other b e h = both_one (bit_at word b) (bit_at other b) (bit_at-lt other b) (sym (bit_at_and word other b) ∙ ap (λ n. bit_at n b) e) h

abbrev in_words : List ℕ → ℕ → Bool
in_words ws k = has_word (get_or ws (k / 64) 0) (k % 64)

pub none_in : (k : ℕ) (ws : List ℕ) → ((i : ℕ) → get_or ws i 0 ≡ 0) → in_words ws k ≡ false
none_in k ws none = ap (λ w. has_word w (k % 64)) (none (k / 64)) ∙ ap (λ n. nat_eq n 1) (bit_at-zero (k % 64))
