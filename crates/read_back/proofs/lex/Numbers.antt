-- The digits that a number is written with: each is a digit, there is one, and they are read as the number.
use Rattle.std.proofs.Common.{◌≡◌, ℕ, ◌-◌, ◌<◌, ◌≤◌, true, List, length, map, arith, rules}
use Rattle.std.specs.List.{list_all}
use Rattle.std.specs.Fmt.{decimal}
use Rattle.std.specs.Int.Digits.{number_from_digits_after}
use Rattle.std.proofs.lemmas.Str.Parse.{IsNumeralModel, IsDigitsTest, FoldsDigits, numerals_by_fold}
use Rattle.std.proofs.lemmas.Fmt.{digits_decimal, digits_value-decimal, decimal_nonempty}
use Rattle.cpo_text.specs.Tokens.{is_digit, digits_value, literal_limit}

abbrev AreDigits : List ℕ → Type 0
AreDigits ds = list_all is_digit ds ≡ true

tells : IsDigitsTest AreDigits
tells = search rules

abbrev read_on : ℕ → List ℕ → ℕ
read_on n ds = number_from_digits_after 10 n (map (λ b. b - 48) ds)

folds : FoldsDigits read_on
folds = search rules

own : IsNumeralModel AreDigits (read_on 0)
own = numerals_by_fold AreDigits tells read_on folds

pub decimal_are_digits : (n : ℕ) → n ≤ literal_limit → list_all is_digit (decimal n) ≡ true
decimal_are_digits n small = digits_decimal own n (omega arith)

pub decimal_is_some : (n : ℕ) → n ≤ literal_limit → 0 < length (decimal n)
decimal_is_some n small = decimal_nonempty n (omega arith)

pub decimal_is_value : (n : ℕ) → n ≤ literal_limit → digits_value (decimal n) ≡ n
decimal_is_value n small = digits_value-decimal own n (omega arith)
