-- Texts that are built of names, numbers, signs and blanks which no reader joins with their neighbours, and the words that they say.
use Rattle.std.specs.Prelude.{◌≡◌, ℕ, nat_le, Bool, true, false, not, ◌&&◌, ◌==◌, List, [], ◌∷◌, flat_map, IsTrue}
use Rattle.std.specs.List.{list_all, list_any}
use Rattle.std.specs.Str.{bytes_eq}
use Rattle.std.specs.Fmt.{decimal}
use Rattle.cpo_text.specs.Words.{Word, Word as word}
use Rattle.cpo_text.specs.Tokens.{is_letter, is_name_byte, is_blank, is_sign_byte, is_sign_pair, literal_limit}
use Rattle.cpo_text.specs.Runs.{left_out_words}

pub data Chunk : Type 0 where
  name : List ℕ → Chunk
  number : ℕ → Chunk
  sign : List ℕ → Chunk
  blank : ℕ → Chunk

abbrev pub chunk_bytes : Chunk → List ℕ
chunk_bytes (name n) = n
chunk_bytes (number n) = decimal n
chunk_bytes (sign s) = s
chunk_bytes (blank b) = b ∷ []

abbrev pub chunk_words : Chunk → List Word
chunk_words (name n) = word.name n ∷ []
chunk_words (number n) = word.number n ∷ []
chunk_words (sign s) = word.sign s ∷ []
chunk_words (blank b) = []

-- a letter, then letters and digits
abbrev pub is_spelt : List ℕ → Bool
is_spelt [] = false
is_spelt (c ∷ cs) = is_letter c && list_all is_name_byte cs

abbrev pub is_left_out : List ℕ → Bool
is_left_out n = list_any (bytes_eq n) left_out_words

-- no slash: one may begin a comment
abbrev pub is_sign : List ℕ → Bool
is_sign (a ∷ []) = is_sign_byte a && not (a == 47)
is_sign (a ∷ b ∷ []) = is_sign_pair a b
is_sign _ = false

-- a name that is no word left out of the language, a number that is a literal, a sign, or a blank
abbrev pub is_chunk : Chunk → Bool
is_chunk (name n) = is_spelt n && not (is_left_out n)
is_chunk (number n) = nat_le n literal_limit
is_chunk (sign s) = is_sign s
is_chunk (blank b) = is_blank b

-- no pair is made of the single sign and the first byte of the other
abbrev pub makes_pair : List ℕ → List ℕ → Bool
makes_pair (a ∷ []) (b ∷ bs) = is_sign_pair a b
makes_pair _ _ = false

-- two chunks that may stand beside one another
abbrev pub is_apart : Chunk → Chunk → Bool
is_apart (name n) (name k) = false
is_apart (name n) (number k) = false
is_apart (number n) (name k) = false
is_apart (number n) (number k) = false
is_apart (sign s) (sign t) = not (makes_pair s t)
is_apart c d = true

abbrev pub are_apart : List Chunk → Bool
are_apart [] = true
are_apart (c ∷ []) = true
are_apart (c ∷ d ∷ ds) = is_apart c d && are_apart (d ∷ ds)

-- the text is made of such chunks, and says these words
pub record Says (text : List ℕ) (words : List Word) : Type 0 where
  pub chunks : List Chunk
  pub spelt : text ≡ flat_map chunk_bytes chunks
  pub said : words ≡ flat_map chunk_words chunks
  pub are : IsTrue (list_all is_chunk chunks)
  pub apart : IsTrue (are_apart chunks)
