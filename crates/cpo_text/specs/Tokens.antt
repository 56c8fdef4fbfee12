-- The tokens of a text: at each place the longest piece, where a piece is a token, a blank or a comment.
use Rattle.std.specs.Prelude.{◌≡◌, ℕ, ◌+◌, ◌-◌, ◌^◌, ◌<◌, ◌≤◌, Bool, true, false, ◌||◌, ◌&&◌, ◌==◌, not, nat_le, if◌then◌else◌, List, [], ◌∷◌, ◌++◌, length, take, drop, map, Option, Some, None}
use Rattle.std.specs.List.{list_all}
use Rattle.std.specs.Int.Digits.{number_from_digits}
use Rattle.cpo_text.specs.declared.piece.Piece.{Piece}
use Rattle.cpo_text.specs.declared.piece.Piece.TheVariants.{Name, Int, Sign, Quoted, Blank, Line, Block}
use Rattle.cpo_text.specs.Words.{Word, size_word}
use Rattle.cpo_text.specs.Words.Word.{name, sign, quoted}

abbrev pub is_letter : ℕ → Bool
is_letter b = (nat_le 65 b && nat_le b 90) || (nat_le 97 b && nat_le b 122) || b == 95

abbrev pub is_digit : ℕ → Bool
is_digit b = nat_le 48 b && nat_le b 57

abbrev pub is_name_byte : ℕ → Bool
is_name_byte b = is_letter b || is_digit b

-- space, tab, carriage return, line feed
abbrev pub is_blank : ℕ → Bool
is_blank b = b == 32 || b == 9 || b == 13 || b == 10

-- = ( ) [ ] , ; + - * < > !   and in no rule of the grammar   { } . # : / %
abbrev pub is_sign_byte : ℕ → Bool
is_sign_byte b = b == 61 || b == 40 || b == 41 || b == 91 || b == 93 || b == 44 || b == 59 || b == 43 || b == 45 || b == 42 || b == 60 || b == 62 || b == 33
    || b == 123 || b == 125 || b == 46 || b == 35 || b == 58 || b == 47 || b == 37

-- ..  ==  !=  <=  >=  &&  ||  =>
abbrev pub is_sign_pair : ℕ → ℕ → Bool
is_sign_pair a b = (a == 46 && b == 46) || (a == 61 && b == 61) || (a == 33 && b == 61) || (a == 60 && b == 61) || (a == 62 && b == 61)
    || (a == 38 && b == 38) || (a == 124 && b == 124) || (a == 61 && b == 62)

-- may stand in a quotation: not `"` and not a line feed
abbrev pub is_quotable : ℕ → Bool
is_quotable b = not (b == 34 || b == 10)

-- not a line feed
abbrev pub is_on_line : ℕ → Bool
is_on_line b = not (b == 10)

-- whether the bytes begin with these two
abbrev pub begins : ℕ → ℕ → List ℕ → Bool
begins a b (x ∷ y ∷ bs) = x == a && y == b
begins a b _ = false

-- whether the end of a comment `*/` begins at some place
abbrev pub has_close : List ℕ → Bool
has_close [] = false
has_close (b ∷ bs) = begins 42 47 (b ∷ bs) || has_close bs

-- the bytes are a piece of this kind, all of them
abbrev pub IsPiece : Piece → List ℕ → Type 0
IsPiece Name (c ∷ cs) = (is_letter c ≡ true) × (list_all is_name_byte cs ≡ true)
IsPiece Int (c ∷ cs) = list_all is_digit (c ∷ cs) ≡ true
IsPiece Sign (a ∷ []) = is_sign_byte a ≡ true
IsPiece Sign (a ∷ b ∷ []) = is_sign_pair a b ≡ true
IsPiece Quoted bs = (inner : List ℕ) × (bs ≡ 34 ∷ inner ++ 34 ∷ []) × (list_all is_quotable inner ≡ true)
IsPiece Blank (b ∷ []) = is_blank b ≡ true
IsPiece Line bs = (inner : List ℕ) × (bs ≡ 47 ∷ 47 ∷ inner) × (list_all is_on_line inner ≡ true)
IsPiece Block bs = (inner : List ℕ) × (bs ≡ 47 ∷ 42 ∷ inner ++ 42 ∷ 47 ∷ []) × (has_close (inner ++ 42 ∷ []) ≡ false)
IsPiece _ _ = ⊥

-- so many bytes at the front are a piece; a `/*` is nothing but the beginning of a comment
abbrev pub IsAtFront : List ℕ → Piece → ℕ → Type 0
IsAtFront bs Block n = (n ≤ length bs) × IsPiece Block (take n bs)
IsAtFront bs piece n = (n ≤ length bs) × IsPiece piece (take n bs) × (begins 47 42 bs ≡ false)

-- and no more bytes are one
pub record IsLongest (bs : List ℕ) (piece : Piece) (n : ℕ) : Type 0 where
  pub front : IsAtFront bs piece n
  pub longest : (other : Piece) (m : ℕ) → n < m → IsAtFront bs other m → ⊥

abbrev pub NonePiece : List ℕ → Type 0
NonePiece bs = (piece : Piece) (n : ℕ) → IsAtFront bs piece n → ⊥

-- the bytes are these pieces with these lengths in a row, and then the rest
abbrev pub ArePieces : List ℕ → List (Piece × ℕ) → List ℕ → Type 0
ArePieces bs [] rest = bs ≡ rest
ArePieces bs (p ∷ ps) rest = IsLongest bs p.0 p.1 × ArePieces (drop p.1 bs) ps rest

-- a token by its offset and what it says
pub record Token : Type 0 where
  pub at : ℕ
  pub word : Word

-- the bound on literals, 4611686018427387904
abbrev pub literal_limit : ℕ
literal_limit = 2 ^ 62

abbrev pub bounded : ℕ → Option ℕ
bounded n = if nat_le n literal_limit then Some n else None

abbrev pub digits_value : List ℕ → ℕ
digits_value bs = number_from_digits 10 (map (λ b. b - 48) bs)

-- what a token of these bytes says; blanks and comments say nothing
abbrev pub word_of : Piece → List ℕ → Option Word
word_of Name bs = Some (name bs)
word_of Int bs = Some (size_word (bounded (digits_value bs)))
word_of Sign bs = Some (sign bs)
word_of Quoted bs = Some quoted
word_of _ bs = None

-- a token in front of others, where something is said
abbrev pub put : ℕ → Option Word → List Token → List Token
put at None ts = ts
put at (Some w) ts = record { at = at; word = w } ∷ ts

-- the tokens among some pieces, the first of which stands at an offset
abbrev pub tokens_of : ℕ → List ℕ → List (Piece × ℕ) → List Token
tokens_of at bs [] = []
tokens_of at bs (p ∷ ps) = put at (word_of p.0 (take p.1 bs)) (tokens_of (at + p.1) (drop p.1 bs) ps)

-- the whole text is pieces; these are its tokens
pub record HasTokens (text : List ℕ) (ts : List Token) : Type 0 where
  pub pieces : List (Piece × ℕ)
  pub whole : ArePieces text pieces []
  pub are : ts ≡ tokens_of 0 text pieces

-- the text is pieces up to a byte at which none begins; these are the tokens before it
pub record HasBadByte (text : List ℕ) (ts : List Token) (at : ℕ) : Type 0 where
  pub pieces : List (Piece × ℕ)
  pub before : ArePieces text pieces (drop at text)
  pub are : ts ≡ tokens_of 0 text pieces
  pub within : at < length text
  pub none : NonePiece (drop at text)
