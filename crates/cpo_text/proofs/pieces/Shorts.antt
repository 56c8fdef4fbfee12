-- A text has no more tokens than bytes.
use Rattle.std.proofs.Common.{◌≡◌, ℕ, zero, suc, ◌+◌, ◌<◌, ◌≤◌, List, length, take, drop, Option, Some, None, refl, ap, arith, length-drop}
use Rattle.cpo_text.specs.Words.{Word}
use Rattle.cpo_text.specs.declared.piece.Piece.{Piece}
use Rattle.cpo_text.specs.declared.place.Place.{Place}
use Rattle.cpo_text.specs.Tokens.{Token, put, word_of}
use Rattle.cpo_text.specs.code.Lexing.{piece_at, tokens_from}
use Rattle.cpo_text.specs.code.Places.{left}
use Rattle.cpo_text.proofs.pieces.Walks.{tokens_step, tokens_stop, part_of}

put_short : (at : ℕ) (o : Option Word) (ts : List Token) → length (put at o ts) ≤ 1 + length ts
put_short at None ts = omega arith
put_short at (Some w) ts = omega arith

tokens_short : (k at : ℕ) (bs : List ℕ) → length bs < k → length (tokens_from at bs) ≤ length bs
tokens_short zero at bs few = absurd (omega arith)
tokens_short (suc k) at bs few = decided (piece_at bs) refl (λ n more. tokens_short k (at + n) (drop n bs) more)
  where
    decided : (o : Option (Piece × ℕ)) → piece_at bs ≡ o → ((n : ℕ) → length (drop n bs) < k → length (tokens_from (at + n) (drop n bs)) ≤ length (drop n bs)) → length (tokens_from at bs) ≤ length bs
    decided None is later = let none = ap length (tokens_stop at bs is) in omega arith
    decided (Some p) is later =
        let part = part_of bs p.0 p.1 is in
        let some = part.some in
        let within = part.within in
        let size = length-drop p.1 bs in
        let step = ap length (tokens_step at bs p.0 p.1 is) in
        let one = put_short at (word_of p.0 (take p.1 bs)) (tokens_from (at + p.1) (drop p.1 bs)) in
        let more = later p.1 (omega arith) in
        omega arith

pub left_short : (p : Place) → length p.text.now ≤ 16777216 → length (left p) ≤ 16777216
unfolding left
left_short p short =
    let size = length-drop p.at p.text.now in
    let few = tokens_short (suc (length (drop p.at p.text.now))) p.at (drop p.at p.text.now) (omega arith) in
    omega arith
