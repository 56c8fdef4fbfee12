-- A byte that begins no comment.
use Rattle.std.proofs.Common.{◌≡◌, ℕ, ◌==◌, true, false, List, [], ◌∷◌, refl, arith}
use Rattle.std.proofs.lemmas.Bool.Decides.{nat_tests}
use Rattle.cpo_text.specs.Tokens.{is_letter, is_digit, is_blank, is_sign_pair, begins}

-- no comment begins with a byte other than a slash
pub no_comment : (c : ℕ) (cs : List ℕ) → (c == 47) ≡ false → begins 47 42 (c ∷ cs) ≡ false
no_comment c [] other = refl
no_comment c (d ∷ ds) other = rw other refl

-- no letter is a slash
pub letter_no_slash : (c : ℕ) → is_letter c ≡ true → (c == 47) ≡ false
letter_no_slash c is = grind (arith, nat_tests)

-- no digit is a slash
pub digit_no_slash : (c : ℕ) → is_digit c ≡ true → (c == 47) ≡ false
digit_no_slash c is = grind (arith, nat_tests)

-- no blank is a slash
pub blank_no_slash : (c : ℕ) → is_blank c ≡ true → (c == 47) ≡ false
blank_no_slash c is = grind (arith, nat_tests)

-- no sign of two bytes begins with a slash
pub pair_no_slash : (a b : ℕ) → is_sign_pair a b ≡ true → (a == 47) ≡ false
pair_no_slash a b is = grind (arith, nat_tests)
