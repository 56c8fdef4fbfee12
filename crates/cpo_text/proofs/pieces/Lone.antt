-- Round brackets, commas and semicolons are signs by themselves, whatever stands behind them.
use Rattle.std.proofs.Common.{◌≡◌, ℕ, ◌==◌, true, false, ◌||◌, List, [], ◌∷◌, Some, refl, arith}
use Rattle.std.proofs.lemmas.Bool.Decides.{nat_tests}
use Rattle.cpo_text.specs.declared.piece.Piece.TheVariants.{Sign}
use Rattle.cpo_text.specs.Tokens.{is_sign_byte, is_sign_pair}
use Rattle.cpo_text.specs.code.Lexing.{piece_from}
use Rattle.cpo_text.proofs.pieces.Classes.{sign_plain}

is_sign : (c : ℕ) → (c == 40 || c == 41 || c == 44 || c == 59) ≡ true → is_sign_byte c ≡ true
is_sign c is = grind (arith, nat_tests)

no_slash : (c : ℕ) → (c == 40 || c == 41 || c == 44 || c == 59) ≡ true → (c == 47) ≡ false
no_slash c is = grind (arith, nat_tests)

no_pair : (c b : ℕ) → (c == 40 || c == 41 || c == 44 || c == 59) ≡ true → is_sign_pair c b ≡ false
no_pair c b is = grind (arith, nat_tests)

pub lone_sign : (c : ℕ) (cs : List ℕ) → (c == 40 || c == 41 || c == 44 || c == 59) ≡ true → piece_from c cs ≡ Some (Sign, 1)
lone_sign c [] is = let sign = is_sign c is in let plain = sign_plain c sign in let slash = no_slash c is in rw (plain.letter, plain.digit, plain.blank, plain.quote, sign, slash) refl
lone_sign c (b ∷ cs) is =
    let sign = is_sign c is in
    let plain = sign_plain c sign in
    let slash = no_slash c is in
    let pair = no_pair c b is in
    rw (plain.letter, plain.digit, plain.blank, plain.quote, pair, sign, slash) refl
