-- A text that is made of chunks that stand apart has these chunks for its pieces, and its tokens have their words.
use Rattle.std.proofs.Common.{◌≡◌, ℕ, ◌≤◌, ◌+◌, true, List, [], ◌∷◌, ◌++◌, length, drop, Some, refl, sym, ap, subst, ◌∙◌, arith}
use Rattle.std.specs.Prelude.{flat_map, nat_le}
use Rattle.std.specs.List.{list_all}
use Rattle.std.specs.Fmt.{decimal}
use Rattle.std.proofs.Math.Seq.{take-append_seam, drop-append_seam}
use Rattle.std.proofs.lemmas.Bool.Decides.{nat_tests}
use Rattle.std.proofs.lemmas.Bool.{and_parts}
use Rattle.cpo_text.specs.declared.piece.Piece.{Piece}
use Rattle.cpo_text.specs.Words.{Word, Word as word, size_word}
use Rattle.cpo_text.specs.Tokens.{Token, ArePieces, HasTokens, bounded, digits_value, literal_limit, word_of, put, tokens_of}
use Rattle.cpo_text.specs.Runs.{words_of}
use Rattle.read_back.specs.Says.{Chunk, chunk_bytes, chunk_words, is_chunk, are_apart, Says}
use Rattle.read_back.specs.Says.Chunk.{name, number, sign, blank}
use Rattle.read_back.proofs.lex.Numbers.{decimal_is_value}
use Rattle.read_back.proofs.lex.Pieces.{chunk_piece, chunk_longest}
use Rattle.read_back.proofs.lex.Follows.{followed, rest_apart}

abbrev pub chunk_bytes_all : List Chunk → List ℕ
chunk_bytes_all cs = flat_map chunk_bytes cs

abbrev pub chunk_pieces : List Chunk → List (Piece × ℕ)
chunk_pieces [] = []
chunk_pieces (c ∷ cs) = (chunk_piece c, length (chunk_bytes c)) ∷ chunk_pieces cs

are_pieces : (cs : List Chunk) → list_all is_chunk cs ≡ true → are_apart cs ≡ true → ArePieces (chunk_bytes_all cs) (chunk_pieces cs) []
are_pieces [] are apart = refl
are_pieces (c ∷ cs) are apart =
    let parts = and_parts (is_chunk c) (list_all is_chunk cs) are in
    let rest = chunk_bytes_all cs in (
      chunk_longest c rest parts.0 (followed c cs are apart),
      subst (λ bs. ArePieces bs (chunk_pieces cs) []) (sym (drop-append_seam (chunk_bytes c) rest)) (are_pieces cs parts.1 (rest_apart c cs apart)),
    )

-- what one chunk says

within : (n : ℕ) → n ≤ literal_limit → bounded n ≡ Some n
within n small = let is : nat_le n literal_limit ≡ true = grind (arith, nat_tests) in rw is refl

number_says : (n : ℕ) → n ≤ literal_limit → size_word (bounded (digits_value (decimal n))) ≡ word.number n
number_says n small = ap size_word (ap bounded (decimal_is_value n small) ∙ within n small)

put_words : (at : ℕ) (c : Chunk) (ts : List Token) → is_chunk c ≡ true → words_of (put at (word_of (chunk_piece c) (chunk_bytes c)) ts) ≡ chunk_words c ++ words_of ts
put_words at (name n) ts is = refl
put_words at (number n) ts is = let small : n ≤ literal_limit = grind (arith, nat_tests) in ap (λ w. w ∷ words_of ts) (number_says n small)
put_words at (sign s) ts is = refl
put_words at (blank b) ts is = refl

words_said : (at : ℕ) (cs : List Chunk) → list_all is_chunk cs ≡ true → words_of (tokens_of at (chunk_bytes_all cs) (chunk_pieces cs)) ≡ flat_map chunk_words cs
words_said at [] are = refl
words_said at (c ∷ cs) are =
    let parts = and_parts (is_chunk c) (list_all is_chunk cs) are in
    let rest = chunk_bytes_all cs in
    let size = length (chunk_bytes c) in
    let tokens = λ (bs : List ℕ). tokens_of (at + size) bs (chunk_pieces cs) in
    ap (λ bs. words_of (put at (word_of (chunk_piece c) bs) (tokens (drop size (chunk_bytes c ++ rest))))) (take-append_seam (chunk_bytes c) rest)
    ∙ ap (λ bs. words_of (put at (word_of (chunk_piece c) (chunk_bytes c)) (tokens bs))) (drop-append_seam (chunk_bytes c) rest)
    ∙ put_words at c (tokens rest) parts.0
    ∙ ap (λ ws. chunk_words c ++ ws) (words_said (at + size) cs parts.1)

-- the tokens of a text that says some words
pub record Tokens (text : List ℕ) (words : List Word) : Type 0 where
  pub tokens : List Token
  pub are : HasTokens text tokens
  pub said : words_of tokens ≡ words

of_chunks : (cs : List Chunk) → list_all is_chunk cs ≡ true → are_apart cs ≡ true → Tokens (chunk_bytes_all cs) (flat_map chunk_words cs)
of_chunks cs are apart = record {
  tokens = tokens_of 0 (chunk_bytes_all cs) (chunk_pieces cs);
  are = record { pieces = chunk_pieces cs; whole = are_pieces cs are apart; are = refl };
  said = words_said 0 cs are;
}

pub tokens_said : (text : List ℕ) (words : List Word) → Says text words → Tokens text words
tokens_said text words says =
    subst (λ t. Tokens t words) (sym says.spelt) (subst (λ ws. Tokens (chunk_bytes_all says.chunks) ws) (sym says.said) (of_chunks says.chunks says.are says.apart))
