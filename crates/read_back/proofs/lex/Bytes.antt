-- Which byte a piece begins with, and which classes of bytes exclude one another.
use Rattle.std.proofs.Common.{◌≡◌, ℕ, ◌≤◌, ◌==◌, Bool, true, false, ◌||◌, List, [], ◌∷◌, length, take, refl, arith}
use Rattle.std.specs.List.{list_all}
use Rattle.std.proofs.lemmas.Bool.Decides.{nat_tests}
use Rattle.std.proofs.lemmas.Bool.{and_parts}
use Rattle.cpo_text.specs.declared.piece.Piece.{Piece}
use Rattle.cpo_text.specs.declared.piece.Piece.TheVariants.{Name, Int, Sign, Quoted, Blank, Line, Block}
use Rattle.cpo_text.specs.Tokens.{is_letter, is_digit, is_blank, is_sign_byte, is_sign_pair, IsPiece, IsAtFront}

-- the first byte of a sign
abbrev pub is_sign_first : ℕ → Bool
is_sign_first c = is_sign_byte c || (c == 38 || c == 124)

abbrev pub Begins : Piece → ℕ → Type 0
Begins Name c = is_letter c ≡ true
Begins Int c = is_digit c ≡ true
Begins Sign c = is_sign_first c ≡ true
Begins Quoted c = c ≡ 34
Begins Blank c = is_blank c ≡ true
Begins Line c = c ≡ 47
Begins Block c = c ≡ 47

pub single_first : (c : ℕ) → is_sign_byte c ≡ true → is_sign_first c ≡ true
single_first c is = rw is refl

pub pair_first : (c d : ℕ) → is_sign_pair c d ≡ true → is_sign_first c ≡ true
pair_first c d is = grind (arith, nat_tests)

pub begins_by : (p : Piece) (c : ℕ) (cs : List ℕ) → IsPiece p (c ∷ cs) → Begins p c
begins_by Name c cs is = is.0
begins_by Int c cs is = (and_parts (is_digit c) (list_all is_digit cs) is).0
begins_by Sign c [] is = single_first c is
begins_by Sign c (d ∷ []) is = pair_first c d is
begins_by Sign c (d ∷ e ∷ es) is = absurd is
begins_by Quoted c cs is = cc (is.1)
begins_by Blank c [] is = is
begins_by Blank c (d ∷ ds) is = absurd is
begins_by Line c cs is = cc (is.1)
begins_by Block c cs is = cc (is.1)

-- what is at the front, without the test for a comment
pub at_front : (bs : List ℕ) (p : Piece) (m : ℕ) → IsAtFront bs p m → (m ≤ length bs) × IsPiece p (take m bs)
at_front bs Name m h = (h.0, h.1)
at_front bs Int m h = (h.0, h.1)
at_front bs Sign m h = (h.0, h.1)
at_front bs Quoted m h = (h.0, h.1)
at_front bs Blank m h = (h.0, h.1)
at_front bs Line m h = (h.0, h.1)
at_front bs Block m h = h

-- which class of bytes begins only one kind of piece

pub letter_is_name : (c : ℕ) (p : Piece) → is_letter c ≡ true → Begins p c → p ≡ Name
letter_is_name c Name is b = refl
letter_is_name c Int is b = absurd (grind (arith, nat_tests))
letter_is_name c Sign is b = absurd (grind (arith, nat_tests))
letter_is_name c Quoted is b = absurd (grind (arith, nat_tests))
letter_is_name c Blank is b = absurd (grind (arith, nat_tests))
letter_is_name c Line is b = absurd (grind (arith, nat_tests))
letter_is_name c Block is b = absurd (grind (arith, nat_tests))

pub digit_is_int : (c : ℕ) (p : Piece) → is_digit c ≡ true → Begins p c → p ≡ Int
digit_is_int c Name is b = absurd (grind (arith, nat_tests))
digit_is_int c Int is b = refl
digit_is_int c Sign is b = absurd (grind (arith, nat_tests))
digit_is_int c Quoted is b = absurd (grind (arith, nat_tests))
digit_is_int c Blank is b = absurd (grind (arith, nat_tests))
digit_is_int c Line is b = absurd (grind (arith, nat_tests))
digit_is_int c Block is b = absurd (grind (arith, nat_tests))

pub blank_is_blank : (c : ℕ) (p : Piece) → is_blank c ≡ true → Begins p c → p ≡ Blank
blank_is_blank c Name is b = absurd (grind (arith, nat_tests))
blank_is_blank c Int is b = absurd (grind (arith, nat_tests))
blank_is_blank c Sign is b = absurd (grind (arith, nat_tests))
blank_is_blank c Quoted is b = absurd (grind (arith, nat_tests))
blank_is_blank c Blank is b = refl
blank_is_blank c Line is b = absurd (grind (arith, nat_tests))
blank_is_blank c Block is b = absurd (grind (arith, nat_tests))

pub sign_is_sign : (c : ℕ) (p : Piece) → is_sign_first c ≡ true → (c == 47) ≡ false → Begins p c → p ≡ Sign
sign_is_sign c Name is other b = absurd (grind (arith, nat_tests))
sign_is_sign c Int is other b = absurd (grind (arith, nat_tests))
sign_is_sign c Sign is other b = refl
sign_is_sign c Quoted is other b = absurd (grind (arith, nat_tests))
sign_is_sign c Blank is other b = absurd (grind (arith, nat_tests))
sign_is_sign c Line is other b = absurd (grind (arith, nat_tests))
sign_is_sign c Block is other b = absurd (grind (arith, nat_tests))
