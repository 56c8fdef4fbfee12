-- One piece further, as the scan for bad bytes counts it.
use Rattle.std.proofs.Common.{◌≡◌, ℕ, ◌+◌, ◌≤◌, cond, List, [], length, take, drop, Option, Some, None, refl, sym, ap, ◌∙◌, arith}
use Rattle.std.proofs.lemmas.List.{drop-drop, drop_all}
use Rattle.std.proofs.lemmas.List.Sums.{sum_by-cons}
use Rattle.cpo_text.specs.declared.piece.Piece.{Piece}
use Rattle.cpo_text.specs.Words.{Word}
use Rattle.cpo_text.specs.Tokens.{Token, word_of, put}
use Rattle.cpo_text.specs.Runs.{ended, is_end}
use Rattle.cpo_text.specs.code.Lexing.{piece_at, rest, tokens_from, says_end}
use Rattle.cpo_text.proofs.pieces.Walks.{tokens_step, tokens_stop, rest_step, rest_stop, at_end}

ended_put : (at : ℕ) (o : Option Word) (ts : List Token) → ended (put at o ts) ≡ cond (says_end o) 1 0 + ended ts
ended_put at None ts = omega arith
ended_put at (Some w) ts = sum_by-cons (λ t. cond (is_end t) 1 0) (record { at = at; word = w }) ts

-- what is known of a piece that was found, with its bytes
pub record IsTurn (text : List ℕ) (at : ℕ) (p : Piece) (n : ℕ) (bytes : List ℕ) : Type 0 where
  pub found : piece_at (drop at text) ≡ Some (p, n)
  pub front : bytes ≡ take n (drop at text)

pub turn_of : (text rest bytes : List ℕ) (at : ℕ) (p : Piece) (n : ℕ) → rest ≡ drop at text → Some (p, n) ≡ piece_at rest → bytes ≡ take n rest → IsTurn text at p n bytes
turn_of text rest bytes at p n is found front = record { found = ap piece_at (sym is) ∙ sym found; front = front ∙ ap (take n) is }

pub reach_turn : (text : List ℕ) (at : ℕ) (p : Piece) (n : ℕ) (bytes : List ℕ) → IsTurn text at p n bytes → rest (drop at text) ≡ rest (drop (at + n) text)
reach_turn text at p n bytes t = rest_step (drop at text) p n t.found ∙ ap rest (drop-drop n at text)

pub count_turn : (text : List ℕ) (at : ℕ) (p : Piece) (n : ℕ) (bytes : List ℕ) → IsTurn text at p n bytes
    → ended (tokens_from at (drop at text)) ≡ cond (says_end (word_of p bytes)) 1 0 + ended (tokens_from (at + n) (drop (at + n) text))
count_turn text at p n bytes t =
    ap ended (tokens_step at (drop at text) p n t.found) ∙ ended_put at (word_of p (take n (drop at text))) (tokens_from (at + n) (drop n (drop at text)))
    ∙ rw (t.front, drop-drop n at text) refl

pub rest_at_end : (text : List ℕ) (at : ℕ) → length text ≤ at → rest (drop at text) ≡ []
rest_at_end text at done = rw (drop_all at text done) (rest_stop [] at_end)

-- the bad byte
pub bad_here : (text rest' : List ℕ) (at : ℕ) → rest' ≡ drop at text → None ≡ piece_at rest' → rest (drop at text) ≡ drop at text
bad_here text rest' at is none = rest_stop (drop at text) (ap piece_at (sym is) ∙ sym none)

pub none_ended : (text rest' : List ℕ) (at : ℕ) → rest' ≡ drop at text → None ≡ piece_at rest' → ended (tokens_from at (drop at text)) ≡ 0
none_ended text rest' at is none = ap ended (tokens_stop at (drop at text) (ap piece_at (sym is) ∙ sym none))
