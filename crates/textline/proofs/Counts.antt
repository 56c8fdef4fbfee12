-- Words that spell counts.
use Rattle.std.proofs.Common.{◌≡◌, ℕ, zero, suc, ◌+◌, ◌*◌, ◌-◌, ◌^◌, ◌<◌, ◌≤◌, true, [], ◌∷◌, length, drop, get_or, sym, ◌∙◌, ap, subst, arith, Option, Some, None, IfSome, IfNone}
use Rattle.std.proofs.lemmas.List.{at_drop_more}
use Rattle.std.proofs.lemmas.Bool.Decides.{nat_tests}
use Rattle.std.specs.Char.{digit_value}
use Rattle.std.specs.Fmt.{decimal}
use Rattle.std.specs.Str.{all_ascii_digits}
use Rattle.std.specs.Str.Parse.{digits_value, digits_value_after}
use Rattle.std.proofs.lemmas.Fmt.{digits_decimal, digits_value-decimal, decimal-digits_value, decimal_nonempty, first_decimal, length-decimal-le}
use Rattle.base_laws.specs.laws.Numerals.{digits_are_numerals}
use Rattle.textline.specs.Lines.{Bytes}
use Rattle.textline.specs.Words.{ReadsCount}

grows : (ds : Bytes) (v : ℕ) → v ≤ digits_value_after 10 v ds
grows [] v = omega arith
grows (d ∷ ds) v = omega (arith, grows ds (v * 10 + digit_value d))

pub value_over : (ds : Bytes) (i v total b : ℕ) → i < length ds → b ≡ get_or ds i 0 → 48 ≤ b → b ≤ 57 → digits_value_after 10 v (drop i ds) ≡ total → 2 ^ 64 ≤ v * 10 + (b - 48) → total < 2 ^ 64 → ⊥
value_over ds i v total b within at low high same more small =
    let step = at_drop_more (λ xs. digits_value_after 10 v xs) ds i 0 within in
    let worth : digit_value b ≡ b - 48 = grind (arith, nat_tests) in
    let least = grows (drop (i + 1) ds) (v * 10 + digit_value (get_or ds i 0)) in
    let here : digit_value (get_or ds i 0) ≡ b - 48 = ap digit_value (sym at) ∙ worth in
    absurd (omega arith)

-- no leading zero
pub record IsCount (w : Bytes) (n : ℕ) : Type 0 where
  pub digits : all_ascii_digits w ≡ true
  pub some : 0 < length w
  pub first : get_or w 0 0 ≡ 48 → length w ≡ 1
  pub value : digits_value 10 w ≡ n

pub spells_count : (w : Bytes) (n : ℕ) → IsCount w n → n < 2 ^ 64 → w ≡ decimal n
spells_count w n is small = sym (decimal-digits_value digits_are_numerals w is.digits is.some is.first (omega (arith, is.value, small))) ∙ ap decimal is.value

decimal_count : (n : ℕ) → n < 2 ^ 64 → IsCount (decimal n) n
decimal_count zero small = record { digits = digits_decimal digits_are_numerals zero small; some = decimal_nonempty zero small; first = λ h. omega (arith, decimal_nonempty zero small, length-decimal-le 1 zero (omega arith) (omega arith) small); value = digits_value-decimal digits_are_numerals zero small }
decimal_count (suc n) small = record { digits = digits_decimal digits_are_numerals (suc n) small; some = decimal_nonempty (suc n) small; first = λ h. absurd (omega (arith, h, first_decimal (suc n) (omega arith) small)); value = digits_value-decimal digits_are_numerals (suc n) small }

pub is_count : (w : Bytes) (n : ℕ) → n < 2 ^ 64 → w ≡ decimal n → IsCount w n
is_count w n small is = subst (λ v. IsCount v n) (sym is) (decimal_count n small)

pub empty_is_none : (w : Bytes) → length w ≡ 0 → (n : ℕ) → n < 2 ^ 64 → w ≡ decimal n → ⊥
empty_is_none w none n small is = absurd (omega (arith, none, (is_count w n small is).some))

pub zero_first_is_none : (w : Bytes) → 1 < length w → get_or w 0 0 ≡ 48 → (n : ℕ) → n < 2 ^ 64 → w ≡ decimal n → ⊥
zero_first_is_none w long zero_first n small is = absurd (omega (arith, long, (is_count w n small is).first zero_first))

pub count_read : (w : Bytes) (r : Option ℕ) → 0 < length w → (get_or w 0 0 ≡ 48 → length w ≡ 1) → IfSome r (λ n. (all_ascii_digits w ≡ true) × (n ≡ digits_value 10 w) × (n < 2 ^ 64)) → IfNone r (all_ascii_digits w ≡ true → digits_value 10 w < 2 ^ 64 → ⊥) → ReadsCount w r
count_read w (Some n) some first is none = spells_count w n (record { digits = is.0; some = some; first = first; value = sym is.1 }) is.2
count_read w None some first is none = λ n small same. let canonical = is_count w n small same in none canonical.digits (omega (arith, canonical.value, small))
