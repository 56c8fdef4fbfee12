-- The bytes of a chunk are the longest piece at their place.
use Rattle.std.proofs.Common.{◌≡◌, ℕ, zero, suc, ◌<◌, ◌≤◌, ◌==◌, Bool, true, false, ◌&&◌, List, [], ◌∷◌, ◌++◌, length, take, sym, subst, arith, length-append}
use Rattle.std.specs.Prelude.{not}
use Rattle.std.specs.List.{list_all}
use Rattle.std.specs.Fmt.{decimal}
use Rattle.std.proofs.Math.Seq.{take-append_seam}
use Rattle.std.proofs.lemmas.Bool.Decides.{nat_tests}
use Rattle.std.proofs.lemmas.Bool.{and_parts, not-true}
use Rattle.cpo_text.specs.declared.piece.Piece.{Piece}
use Rattle.cpo_text.specs.declared.piece.Piece.TheVariants.{Name, Int, Sign, Blank}
use Rattle.cpo_text.specs.Tokens.{is_letter, is_digit, is_name_byte, is_blank, is_sign_byte, IsPiece, IsAtFront, IsLongest, literal_limit}
use Rattle.cpo_text.specs.lemmas.Slashes.{pair_no_slash, no_comment, letter_no_slash, digit_no_slash, blank_no_slash}
use Rattle.read_back.specs.Says.{Chunk, chunk_bytes, is_sign, is_left_out, is_chunk, makes_pair}
use Rattle.read_back.specs.Says.Chunk.{name, number, sign, blank}
use Rattle.read_back.proofs.lex.Bytes.{is_sign_first, single_first, pair_first, begins_by, at_front, letter_is_name, digit_is_int, blank_is_blank, sign_is_sign}
use Rattle.read_back.proofs.lex.Numbers.{decimal_are_digits, decimal_is_some}

-- the bytes begin with none that passes
abbrev pub stops : (ℕ → Bool) → List ℕ → Bool
stops p [] = true
stops p (b ∷ bs) = not (p b)

-- a row of bytes that pass goes no further
too_far : (p : ℕ → Bool) (xs rest : List ℕ) (m : ℕ) → length xs < m → m ≤ length (xs ++ rest) → stops p rest ≡ true → list_all p (take m (xs ++ rest)) ≡ true → ⊥
too_far p [] [] m less within stop all = absurd (omega arith)
too_far p [] (b ∷ bs) zero less within stop all = absurd (omega arith)
too_far p [] (b ∷ bs) (suc m) less within stop all = decided (p b) stop (and_parts (p b) (list_all p (take m bs)) all).0
  where
    decided : (t : Bool) → not t ≡ true → t ≡ true → ⊥
    decided true stop is = cc
    decided false stop is = cc
too_far p (x ∷ xs) rest zero less within stop all = absurd (omega arith)
too_far p (x ∷ xs) rest (suc m) less within stop all = too_far p xs rest m (omega arith) (omega arith) stop (and_parts (p x) (list_all p (take m (xs ++ rest))) all).1

-- no piece at this place is longer
abbrev pub NoneLonger : List ℕ → ℕ → Type 0
NoneLonger bs n = (other : Piece) (m : ℕ) → n < m → m ≤ length bs → IsPiece other (take m bs) → ⊥

name_none_longer : (c : ℕ) (cs rest : List ℕ) → is_letter c ≡ true → stops is_name_byte rest ≡ true → NoneLonger (c ∷ cs ++ rest) (suc (length cs))
name_none_longer c cs rest first stop other zero less within is = absurd (omega arith)
name_none_longer c cs rest first stop other (suc m) less within is =
    let kind = letter_is_name c other first (begins_by other c (take m (cs ++ rest)) is) in
    let name_is : IsPiece Name (c ∷ take m (cs ++ rest)) = subst (λ p. IsPiece p (c ∷ take m (cs ++ rest))) kind is in
    too_far is_name_byte cs rest m (omega arith) (omega arith) stop name_is.1

digits_none_longer : (d : ℕ) (ds rest : List ℕ) → is_digit d ≡ true → stops is_digit rest ≡ true → NoneLonger (d ∷ ds ++ rest) (suc (length ds))
digits_none_longer d ds rest first stop other zero less within is = absurd (omega arith)
digits_none_longer d ds rest first stop other (suc m) less within is =
    let kind = digit_is_int d other first (begins_by other d (take m (ds ++ rest)) is) in
    let int_is : IsPiece Int (d ∷ take m (ds ++ rest)) = subst (λ p. IsPiece p (d ∷ take m (ds ++ rest))) kind is in
    too_far is_digit ds rest m (omega arith) (omega arith) stop (and_parts (is_digit d) (list_all is_digit (take m (ds ++ rest))) int_is).1

blank_none_longer : (b : ℕ) (rest : List ℕ) → is_blank b ≡ true → NoneLonger (b ∷ rest) 1
blank_none_longer b rest first other zero less within is = absurd (omega arith)
blank_none_longer b rest first other (suc zero) less within is = absurd (omega arith)
blank_none_longer b [] first other (suc (suc m)) less within is = absurd (omega arith)
blank_none_longer b (d ∷ ds) first other (suc (suc m)) less within is =
    let kind = blank_is_blank b other first (begins_by other b (d ∷ take m ds) is) in
    subst (λ p. IsPiece p (b ∷ d ∷ take m ds)) kind is

single_none_longer : (a : ℕ) (rest : List ℕ) → is_sign_first a ≡ true → (a == 47) ≡ false → makes_pair (a ∷ []) rest ≡ false → NoneLonger (a ∷ rest) 1
single_none_longer a rest first slash alone other zero less within is = absurd (omega arith)
single_none_longer a rest first slash alone other (suc zero) less within is = absurd (omega arith)
single_none_longer a [] first slash alone other (suc (suc m)) less within is = absurd (omega arith)
single_none_longer a (b ∷ bs) first slash alone other (suc (suc m)) less within is =
    let kind = sign_is_sign a other first slash (begins_by other a (b ∷ take m bs) is) in
    pair (take m bs) (subst (λ p. IsPiece p (a ∷ b ∷ take m bs)) kind is)
  where
    pair : (xs : List ℕ) → IsPiece Sign (a ∷ b ∷ xs) → ⊥
    pair [] h = let no = alone in cc
    pair (x ∷ xs) h = h

pair_none_longer : (a b : ℕ) (rest : List ℕ) → is_sign_first a ≡ true → (a == 47) ≡ false → NoneLonger (a ∷ b ∷ rest) 2
pair_none_longer a b rest first slash other zero less within is = absurd (omega arith)
pair_none_longer a b rest first slash other (suc zero) less within is = absurd (omega arith)
pair_none_longer a b rest first slash other (suc (suc zero)) less within is = absurd (omega arith)
pair_none_longer a b [] first slash other (suc (suc (suc m))) less within is = absurd (omega arith)
pair_none_longer a b (d ∷ ds) first slash other (suc (suc (suc m))) less within is =
    let kind = sign_is_sign a other first slash (begins_by other a (b ∷ d ∷ take m ds) is) in
    subst (λ p. IsPiece p (a ∷ b ∷ d ∷ take m ds)) kind is

abbrev pub chunk_piece : Chunk → Piece
chunk_piece (name n) = Name
chunk_piece (number n) = Int
chunk_piece (sign s) = Sign
chunk_piece (blank b) = Blank

-- the text behind a chunk doesn't go on with it
abbrev pub is_followed : Chunk → List ℕ → Bool
is_followed (name n) rest = stops is_name_byte rest
is_followed (number n) rest = stops is_digit rest
is_followed (sign s) rest = not (makes_pair s rest)
is_followed (blank b) rest = true

longest : (bs : List ℕ) (p : Piece) (n : ℕ) → IsAtFront bs p n → NoneLonger bs n → IsLongest bs p n
longest bs p n front none = record { front = front; longest = λ other m less h. let f = at_front bs other m h in none other m less f.0 f.1 }

room : (xs rest : List ℕ) → length xs ≤ length (xs ++ rest)
room xs rest = omega (arith, length-append xs rest)

name_longest : (c : ℕ) (cs rest : List ℕ) → is_letter c ≡ true → list_all is_name_byte cs ≡ true → stops is_name_byte rest ≡ true → IsLongest (c ∷ cs ++ rest) Name (suc (length cs))
name_longest c cs rest first all stop =
    let within = room (c ∷ cs) rest in
    let front = take-append_seam cs rest in
    longest (c ∷ cs ++ rest) Name (suc (length cs)) (within, subst (λ xs. IsPiece Name (c ∷ xs)) (sym front) (first, all), no_comment c (cs ++ rest) (letter_no_slash c first)) (name_none_longer c cs rest first stop)

digits_longest : (ds rest : List ℕ) → list_all is_digit ds ≡ true → 0 < length ds → stops is_digit rest ≡ true → IsLongest (ds ++ rest) Int (length ds)
digits_longest [] rest all some stop = absurd (omega arith)
digits_longest (d ∷ ds) rest all some stop =
    let within = room (d ∷ ds) rest in
    let front = take-append_seam ds rest in
    let first = (and_parts (is_digit d) (list_all is_digit ds) all).0 in
    longest (d ∷ ds ++ rest) Int (suc (length ds)) (within, subst (λ xs. IsPiece Int (d ∷ xs)) (sym front) all, no_comment d (ds ++ rest) (digit_no_slash d first)) (digits_none_longer d ds rest first stop)

sign_longest : (s rest : List ℕ) → is_sign s ≡ true → makes_pair s rest ≡ false → IsLongest (s ++ rest) Sign (length s)
sign_longest [] rest is alone = cc
sign_longest (a ∷ []) rest is alone =
    let parts = and_parts (is_sign_byte a) (not (a == 47)) is in
    let slash = not-true (a == 47) parts.1 in
    longest (a ∷ rest) Sign 1 (room (a ∷ []) rest, parts.0, no_comment a rest slash) (single_none_longer a rest (single_first a parts.0) slash alone)
sign_longest (a ∷ b ∷ []) rest is alone =
    let slash = pair_no_slash a b is in
    longest (a ∷ b ∷ rest) Sign 2 (room (a ∷ b ∷ []) rest, is, no_comment a (b ∷ rest) slash) (pair_none_longer a b rest (pair_first a b is) slash)
sign_longest (a ∷ b ∷ d ∷ ds) rest is alone = cc

blank_longest : (b : ℕ) (rest : List ℕ) → is_blank b ≡ true → IsLongest (b ∷ rest) Blank 1
blank_longest b rest is = longest (b ∷ rest) Blank 1 (room (b ∷ []) rest, is, no_comment b rest (blank_no_slash b is)) (blank_none_longer b rest is)

pub chunk_longest : (c : Chunk) (rest : List ℕ) → is_chunk c ≡ true → is_followed c rest ≡ true → IsLongest (chunk_bytes c ++ rest) (chunk_piece c) (length (chunk_bytes c))
chunk_longest (name []) rest is follows = cc
chunk_longest (name (c ∷ cs)) rest is follows =
    let spelt = and_parts (is_letter c) (list_all is_name_byte cs) (and_parts (is_letter c && list_all is_name_byte cs) (not (is_left_out (c ∷ cs))) is).0 in
    name_longest c cs rest spelt.0 spelt.1 follows
chunk_longest (number n) rest is follows =
    let small : n ≤ literal_limit = grind (arith, nat_tests) in
    digits_longest (decimal n) rest (decimal_are_digits n small) (decimal_is_some n small) follows
chunk_longest (sign s) rest is follows = sign_longest s rest is (not-true (makes_pair s rest) follows)
chunk_longest (blank b) rest is follows = blank_longest b rest is
