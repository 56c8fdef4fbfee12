-- The spelling of a number is a word.
use Rattle.std.specs.Prelude.{◌≡◌, ℕ, suc, ◌^◌, ◌<◌, true, ℤ, pos, negsuc, [], ◌∷◌}
use Rattle.std.proofs.Common.{refl, arith}
use Rattle.std.specs.Fmt.{decimal, signed_decimal}
use Rattle.std.specs.Str.{all_ascii_digits}
use Rattle.std.specs.Char.{is_ascii_digit}
use Rattle.std.proofs.lemmas.Fmt.{digits_decimal}
use Rattle.std.proofs.lemmas.Bool.Decides.{nat_tests}
use Rattle.std.proofs.lemmas.Bool.{and_parts, and_from}
use lib.Signed.{mag}
use Rattle.base_laws.specs.laws.Numerals.{digits_are_numerals}
use Rattle.textline.specs.Lines.{Bytes}
use Rattle.textline.specs.Words.{is_plain, is_word}

plain_digit : (b : ℕ) → is_ascii_digit b ≡ true → is_plain b ≡ true
plain_digit b h = grind (arith, nat_tests)

pub digits_are_word : (ds : Bytes) → all_ascii_digits ds ≡ true → is_word ds ≡ true
digits_are_word [] h = refl
digits_are_word (b ∷ ds) h = let two = and_parts (is_ascii_digit b) (all_ascii_digits ds) h in and_from (is_plain b) (is_word ds) (plain_digit b two.0) (digits_are_word ds two.1)

pub decimal_is_word : (n : ℕ) → n < 2 ^ 64 → is_word (decimal n) ≡ true
decimal_is_word n small = digits_are_word (decimal n) (digits_decimal digits_are_numerals n small)

pub signed_is_word : (z : ℤ) → mag z < 2 ^ 63 → is_word (signed_decimal z) ≡ true
signed_is_word (pos n) small = decimal_is_word n (omega (arith, small))
signed_is_word (negsuc n) small = decimal_is_word (suc n) (omega (arith, small))
