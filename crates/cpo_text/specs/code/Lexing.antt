-- Pieces and tokens computed: between the relation on texts and the reader.
use Rattle.std.specs.Prelude.{ℕ, zero, suc, ◌+◌, ◌-◌, ◌==◌, Bool, if◌then◌else◌, List, [], ◌∷◌, Option, Some, None, option_map, codes, false}
use Rattle.std.specs.List.{prefix_len}
use Rattle.cpo_text.specs.declared.piece.Piece.{Piece}
use Rattle.cpo_text.specs.declared.piece.Piece.TheVariants.{Name, Int, Sign, Quoted, Blank, Line, Block}
use Rattle.cpo_text.specs.Words.{Word, is_sign}
use Rattle.cpo_text.specs.Tokens.{is_letter, is_digit, is_name_byte, is_blank, is_sign_byte, is_sign_pair, is_on_line, begins, Token, tokens_of}

-- how many bytes a quotation has behind its first quote, the last quote included
abbrev pub quote_len : List ℕ → Option ℕ
quote_len [] = None
quote_len (b ∷ bs) = if b == 34 then Some 1 else (if b == 10 then None else option_map suc (quote_len bs))

-- how many bytes there are up to the end of the first `*/`
abbrev pub close_len : List ℕ → Option ℕ
close_len [] = None
close_len (b ∷ bs) = if begins 42 47 (b ∷ bs) then Some 2 else option_map suc (close_len bs)

-- what begins with a slash and these bytes
abbrev pub slash_at : List ℕ → Option (Piece × ℕ)
slash_at [] = Some (Sign, 1)
slash_at (b ∷ bs) = if b == 47 then Some (Line, 2 + prefix_len is_on_line bs)
    else (if b == 42 then option_map (λ n. (Block, 2 + n)) (close_len bs) else Some (Sign, 1))

abbrev pub sign_at : ℕ → List ℕ → Option (Piece × ℕ)
sign_at a [] = if is_sign_byte a then Some (Sign, 1) else None
sign_at a (b ∷ bs) = if is_sign_pair a b then Some (Sign, 2) else (if is_sign_byte a then Some (Sign, 1) else None)

-- the longest piece at the front, with its length
abbrev pub piece_from : ℕ → List ℕ → Option (Piece × ℕ)
piece_from c cs = if is_letter c then Some (Name, 1 + prefix_len is_name_byte cs)
    else (if is_digit c then Some (Int, 1 + prefix_len is_digit cs)
    else (if is_blank c then Some (Blank, 1)
    else (if c == 34 then option_map (λ n. (Quoted, 1 + n)) (quote_len cs)
    else (if c == 47 then slash_at cs else sign_at c cs))))

unfoldable pub piece_at : List ℕ → Option (Piece × ℕ)
piece_at [] = None
piece_at (c ∷ cs) = piece_from c cs

-- the length of the piece, where it is a blank or a comment
abbrev pub gap_of : Option (Piece × ℕ) → Option ℕ
gap_of (Some (Blank, n)) = Some n
gap_of (Some (Line, n)) = Some n
gap_of (Some (Block, n)) = Some n
gap_of _ = None

abbrev pub after : Option (Piece × ℕ) → (ℕ → List (Piece × ℕ)) → List (Piece × ℕ)
after None more = []
after (Some p) more = p ∷ more (p.1 - 1)

-- the pieces of some bytes, the first so many of which are passed over, up to a place at which none begins
abbrev pub pieces_from : List ℕ → ℕ → List (Piece × ℕ)
pieces_from [] k = []
pieces_from (b ∷ bs) (suc k) = pieces_from bs k
pieces_from (b ∷ bs) zero = after (piece_at (b ∷ bs)) (λ k. pieces_from bs k)

unfoldable pub pieces : List ℕ → List (Piece × ℕ)
pieces bs = pieces_from bs 0

abbrev pub rest_after : Option (Piece × ℕ) → List ℕ → (ℕ → List ℕ) → List ℕ
rest_after None bs more = bs
rest_after (Some p) bs more = more (p.1 - 1)

abbrev pub rest_from : List ℕ → ℕ → List ℕ
rest_from [] k = []
rest_from (b ∷ bs) (suc k) = rest_from bs k
rest_from (b ∷ bs) zero = rest_after (piece_at (b ∷ bs)) (b ∷ bs) (λ k. rest_from bs k)

-- the bytes from the place at which no piece begins
unfoldable pub rest : List ℕ → List ℕ
rest bs = rest_from bs 0

-- the tokens of some bytes, the first of which stands at an offset
unfoldable pub tokens_from : ℕ → List ℕ → List Token
tokens_from at bs = tokens_of at bs (pieces bs)

-- whether this is said by a semicolon
abbrev pub says_end : Option Word → Bool
says_end None = false
says_end (Some w) = is_sign (codes ";") w
