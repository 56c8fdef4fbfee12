-- Laws of reading: nothing in it is a choice.
use Rattle.std.specs.Prelude.{◌≡◌, ◌⊎◌, ℕ, ◌+◌, ◌<◌, ◌&&◌, nat_le, nat_lt, List, [], ◌∷◌, length, if◌then◌else◌}
use Rattle.cpo_text.specs.Words.{Word}
use Rattle.cpo_text.specs.Tokens.{Token, ArePieces, HasTokens, HasBadByte, NonePiece}
use Rattle.cpo_text.specs.Spelling.{IsStatement}
use Rattle.cpo_text.specs.Reads.{IsGrammatical, AreReadings}
use Rattle.cpo_text.specs.declared.piece.Piece.{Piece}
use Rattle.cpo_text.specs.declared.text.Reading.{Reading}
use Rattle.cpo_text.specs.declared.tree.Statement.{Statement}

-- two lists of pieces that reach the end, or a place at which no piece begins, are one
abbrev pub PiecesAreDetermined : Type 0
PiecesAreDetermined = (text : List ℕ) (ps qs : List (Piece × ℕ)) (r s : List ℕ) → ArePieces text ps r → NonePiece r → ArePieces text qs s → NonePiece s → (ps ≡ qs) × (r ≡ s)

-- how many of some pieces, the first of which begins at an offset, have the byte at a place
abbrev pub pieces_at : ℕ → ℕ → List (Piece × ℕ) → ℕ
pieces_at k at [] = 0
pieces_at k at (p ∷ ps) = (if nat_le at k && nat_lt k (at + p.1) then 1 else 0) + pieces_at k (at + p.1) ps

-- each byte of a text of pieces belongs to exactly one of them: to a token, or to what stands between the tokens
abbrev pub EachByteInOnePiece : Type 0
EachByteInOnePiece = (text : List ℕ) (ps : List (Piece × ℕ)) → ArePieces text ps [] → (k : ℕ) → k < length text → pieces_at k 0 ps ≡ 1

-- so a text has one list of tokens
abbrev pub TokensAreDetermined : Type 0
TokensAreDetermined = (text : List ℕ) (ts us : List Token) → HasTokens text ts → HasTokens text us → ts ≡ us

abbrev pub BadByteIsDetermined : Type 0
BadByteIsDetermined = (text : List ℕ) (ts us : List Token) (i j : ℕ) → HasBadByte text ts i → HasBadByte text us j → (ts ≡ us) × (i ≡ j)

-- every text has tokens or a bad byte, and none has both
abbrev pub EveryTextHasTokensOrBadByte : Type 0
EveryTextHasTokensOrBadByte = (text : List ℕ) → ((ts : List Token) × HasTokens text ts) ⊎ ((ts : List Token) × (at : ℕ) × HasBadByte text ts at)

abbrev pub NotBoth : Type 0
NotBoth = (text : List ℕ) (ts us : List Token) (at : ℕ) → HasTokens text ts → HasBadByte text us at → ⊥

-- words are at most one statement
abbrev pub StatementsAreDetermined : Type 0
StatementsAreDetermined = (ws : List Word) (s t : Statement) → IsStatement ws s → IsStatement ws t → s ≡ t

-- and it is decided whether they are one
abbrev pub GrammarIsDecided : Type 0
GrammarIsDecided = (ws : List Word) → IsGrammatical ws ⊎ (IsGrammatical ws → ⊥)

-- each run has one reading
abbrev pub ReadingsAreDetermined : Type 0
ReadingsAreDetermined = (rs : List (List Token)) (xs ys : List Reading) → AreReadings rs xs → AreReadings rs ys → xs ≡ ys
