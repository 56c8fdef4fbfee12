-- The text of a number or of a range says its words.
use Rattle.std.proofs.Common.{◌≡◌, ℕ, suc, ℤ, pos, negsuc, List, [], ◌∷◌, ◌++◌, refl}
use Rattle.std.specs.Prelude.{flat_map, IsTrue, nat_le}
use Rattle.std.specs.List.{list_all}
use Rattle.std.specs.Fmt.{signed_decimal}
use Rattle.std.proofs.lemmas.List.{append_assoc, append-nil}
use Rattle.std.proofs.lemmas.Bool.{and_from}
use Rattle.cpo_text.specs.Tokens.{literal_limit}
use Rattle.cpo_text.specs.Spelling.{int_words, range_words, given}
use Rattle.sched_text.specs.Pieces.{range_text}
use Rattle.sched_text.specs.Canonical.{given as given_text}
use Rattle.read_back.specs.Trees.{int_tree, range_tree}
use Rattle.read_back.specs.Says.{Says, Chunk, chunk_bytes, chunk_words, is_chunk, are_apart}
use Rattle.read_back.specs.Says.Chunk.{name, number, sign}
use Rattle.read_back.proofs.Joined.{nothing, a_number}
use Rattle.read_back.proofs.said.Joined.{across, minus}
use Rattle.read_back.proofs.Numbers.{is_literal}

-- a number with its sign
pub an_int : (z : ℤ) → IsTrue (is_literal z) → Says (signed_decimal z) (int_words (int_tree z))
an_int (pos n) is = a_number n is
an_int (negsuc n) is = across (sign (45 ∷ [])) minus nothing (a_number (suc n) is)

abbrev int_chunks : ℤ → List Chunk
int_chunks (pos n) = number n ∷ []
int_chunks (negsuc n) = sign (45 ∷ []) ∷ number (suc n) ∷ []

int_spelt : (z : ℤ) (cs : List Chunk) → flat_map chunk_bytes (int_chunks z ++ cs) ≡ signed_decimal z ++ flat_map chunk_bytes cs
int_spelt (pos n) cs = refl
int_spelt (negsuc n) cs = refl

int_said : (z : ℤ) (cs : List Chunk) → flat_map chunk_words (int_chunks z ++ cs) ≡ int_words (int_tree z) ++ flat_map chunk_words cs
int_said (pos n) cs = refl
int_said (negsuc n) cs = refl

int_are : (z : ℤ) (cs : List Chunk) → IsTrue (is_literal z) → IsTrue (list_all is_chunk cs) → IsTrue (list_all is_chunk (int_chunks z ++ cs))
int_are (pos n) cs is rest = and_from (nat_le n literal_limit) _ is rest
int_are (negsuc n) cs is rest = and_from (nat_le (suc n) literal_limit) _ is rest

-- a word, its sign, and a range
abbrev range_chunks : List ℕ → ℤ → ℤ → List Chunk
range_chunks n lo hi = name n ∷ sign (61 ∷ []) ∷ (int_chunks lo ++ sign (46 ∷ 46 ∷ []) ∷ (int_chunks hi ++ []))

range_apart : (n : List ℕ) (lo hi : ℤ) → IsTrue (are_apart (range_chunks n lo hi))
range_apart n (pos a) (pos b) = refl
range_apart n (pos a) (negsuc b) = refl
range_apart n (negsuc a) (pos b) = refl
range_apart n (negsuc a) (negsuc b) = refl

range_spelt : (n : List ℕ) (lo hi : ℤ) → given_text n (range_text lo hi) ≡ flat_map chunk_bytes (range_chunks n lo hi)
range_spelt n lo hi = rw (int_spelt lo (sign (46 ∷ 46 ∷ []) ∷ (int_chunks hi ++ [])), int_spelt hi []) (simp (append_assoc, append-nil))

range_said : (n : List ℕ) (lo hi : ℤ) → given n (range_words (range_tree lo hi)) ≡ flat_map chunk_words (range_chunks n lo hi)
range_said n lo hi = rw (int_said lo (sign (46 ∷ 46 ∷ []) ∷ (int_chunks hi ++ [])), int_said hi [], append-nil (int_words (int_tree hi))) refl

pub a_range : (n : List ℕ) (lo hi : ℤ) → IsTrue (is_chunk (name n)) → IsTrue (is_literal lo) → IsTrue (is_literal hi) → Says (given_text n (range_text lo hi)) (given n (range_words (range_tree lo hi)))
a_range n lo hi is from to = record {
  chunks = range_chunks n lo hi;
  spelt = range_spelt n lo hi;
  said = range_said n lo hi;
  are = and_from (is_chunk (name n)) _ is (int_are lo (sign (46 ∷ 46 ∷ []) ∷ (int_chunks hi ++ [])) from (int_are hi [] to refl));
  apart = range_apart n lo hi;
}
