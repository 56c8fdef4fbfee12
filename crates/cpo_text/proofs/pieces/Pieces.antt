-- Each byte of a text of pieces belongs to one of them.
use Rattle.std.proofs.Common.{◌≡◌, ℕ, ◌+◌, ◌<◌, ◌≤◌, Bool, true, false, nat_le, nat_lt, List, [], ◌∷◌, length, drop, refl, ap, arith, length-drop}
use Rattle.std.proofs.lemmas.Bool.Decides.{nat_tests}
use Rattle.cpo_text.specs.declared.piece.Piece.{Piece}
use Rattle.cpo_text.specs.declared.piece.Piece.TheVariants.{Name, Int, Sign, Quoted, Blank, Line, Block}
use Rattle.cpo_text.specs.Tokens.{IsAtFront, ArePieces}
use Rattle.cpo_text.specs.Laws.{pieces_at, EachByteInOnePiece}

within : (bs : List ℕ) (p : Piece) (n : ℕ) → IsAtFront bs p n → n ≤ length bs
within bs Name n front = front.0
within bs Int n front = front.0
within bs Sign n front = front.0
within bs Quoted n front = front.0
within bs Blank n front = front.0
within bs Line n front = front.0
within bs Block n front = front.0

not_from : (k at : ℕ) → k < at → nat_le at k ≡ false
not_from k at before = grind (arith, nat_tests)

from : (k at : ℕ) → at ≤ k → nat_le at k ≡ true
from k at behind = grind (arith, nat_tests)

up_to : (k end : ℕ) → k < end → nat_lt k end ≡ true
up_to k end before = grind (arith, nat_tests)

none_before : (k at : ℕ) (ps : List (Piece × ℕ)) → k < at → pieces_at k at ps ≡ 0
none_before k at [] before = refl
none_before k at (p ∷ ps) before = let here = not_from k at before in let more = none_before k (at + p.1) ps (omega arith) in rw (here, more) refl

one_of : (k at : ℕ) (bs : List ℕ) (ps : List (Piece × ℕ)) → ArePieces bs ps [] → at ≤ k → k < at + length bs → pieces_at k at ps ≡ 1
one_of k at bs [] are behind inside = let none = ap length are in absurd (omega arith)
one_of k at bs (p ∷ ps) are behind inside =
    decided (nat_lt k (at + p.1)) refl (λ later. one_of k (at + p.1) (drop p.1 bs) ps are.1 later (omega (arith, length-drop p.1 bs, within bs p.0 p.1 are.0.front)))
  where
    decided : (b : Bool) → nat_lt k (at + p.1) ≡ b → (at + p.1 ≤ k → pieces_at k (at + p.1) ps ≡ 1) → pieces_at k at (p ∷ ps) ≡ 1
    decided true here rest =
        let before : k < at + p.1 = grind (arith, nat_tests) in
        let begun = from k at behind in
        let more = none_before k (at + p.1) ps before in
        rw (begun, here, more) refl
    decided false here rest =
        let later : at + p.1 ≤ k = grind (arith, nat_tests) in
        let begun = from k at behind in
        let more = rest later in
        rw (begun, here, more) refl

pub each_byte : EachByteInOnePiece
each_byte text ps are k inside = one_of k 0 text ps are (omega arith) (omega arith)
