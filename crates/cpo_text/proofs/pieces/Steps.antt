-- One piece further in a text.
use Rattle.std.proofs.Common.{◌≡◌, ℕ, ◌+◌, List, [], ◌∷◌, take, drop, Some, None, refl, sym, ap, ◌∙◌}
use Rattle.std.proofs.lemmas.List.{drop-drop}
use Rattle.cpo_text.specs.declared.piece.Piece.{Piece}
use Rattle.cpo_text.specs.Tokens.{word_of, put}
use Rattle.cpo_text.specs.code.Lexing.{piece_at, tokens_from}
use Rattle.cpo_text.specs.code.Places.{said_word}
use Rattle.cpo_text.specs.declared.word.Word.{Word as Said}
use Rattle.cpo_text.proofs.pieces.Walks.{tokens_step, tokens_stop}

pub no_tokens : (at : ℕ) (text rest : List ℕ) → rest ≡ drop at text → None ≡ piece_at rest → tokens_from at (drop at text) ≡ []
no_tokens at text rest is none = tokens_stop at (drop at text) (ap piece_at (sym is) ∙ sym none)

step : (at : ℕ) (text rest : List ℕ) (p : Piece) (n : ℕ) → rest ≡ drop at text → Some (p, n) ≡ piece_at rest
    → tokens_from at (drop at text) ≡ put at (word_of p (take n rest)) (tokens_from (at + n) (drop (at + n) text))
step at text rest p n is found = tokens_step at (drop at text) p n (ap piece_at (sym is) ∙ sym found) ∙ rw (is, drop-drop n at text) refl

pub said_step : (at : ℕ) (text rest bytes : List ℕ) (p : Piece) (n : ℕ) (w : Said) → rest ≡ drop at text → Some (p, n) ≡ piece_at rest → bytes ≡ take n rest → Some (said_word w) ≡ word_of p bytes
    → tokens_from at (drop at text) ≡ record { at = at; word = said_word w } ∷ tokens_from (at + n) (drop (at + n) text)
said_step at text rest bytes p n w is found front said = step at text rest p n is found ∙ ap (λ o. put at o (tokens_from (at + n) (drop (at + n) text))) (ap (word_of p) (sym front) ∙ sym said)

pub silent_step : (at : ℕ) (text rest bytes : List ℕ) (p : Piece) (n : ℕ) → rest ≡ drop at text → Some (p, n) ≡ piece_at rest → bytes ≡ take n rest → None ≡ word_of p bytes
    → tokens_from at (drop at text) ≡ tokens_from (at + n) (drop (at + n) text)
silent_step at text rest bytes p n is found front said = step at text rest p n is found ∙ ap (λ o. put at o (tokens_from (at + n) (drop (at + n) text))) (ap (word_of p) (sym front) ∙ sym said)
