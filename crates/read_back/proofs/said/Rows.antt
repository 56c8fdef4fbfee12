-- Items with commas between them, in a list or in a call, say their words with commas between them.
use Rattle.std.proofs.Common.{ℕ, ℤ, true, List, [], ◌∷◌, ◌++◌, map, refl}
use Rattle.std.specs.Prelude.{IsTrue}
use Rattle.std.specs.List.{list_all}
use Rattle.std.specs.Fmt.{signed_decimal}
use Rattle.std.proofs.lemmas.Bool.{and_parts, and_from}
use Rattle.cpo_text.specs.Words.{Word, Word as word, commas, square, call}
use Rattle.cpo_text.specs.Spelling.{int_words, name_words, given}
use Rattle.sched_text.specs.Pieces as piece
use Rattle.sched_text.specs.Canonical.{given as given_text}
use Rattle.read_back.specs.Trees.{int_tree}
use Rattle.read_back.specs.Says.{Says, is_chunk}
use Rattle.read_back.specs.Says.Chunk.{name, sign}
use Rattle.read_back.proofs.Joined.{nothing, a_name}
use Rattle.read_back.proofs.Numbers.{is_literal}
use Rattle.read_back.proofs.said.Joined.{across, along, comma, open_round, close_round, open_square, close_square}
use Rattle.read_back.proofs.said.Numbers.{an_int}

-- each text says the words at its place
pub data Row : List (List ℕ) → List (List Word) → Type 0 where
  none : Row [] []
  more : {x : List ℕ} {w : List Word} {xs : List (List ℕ)} {ws : List (List Word)} → Says x w → Row xs ws → Row (x ∷ xs) (w ∷ ws)

by_commas : {xs : List (List ℕ)} {ws : List (List Word)} → Row xs ws → Says (piece.commas xs) (commas ws)
by_commas none = nothing
by_commas (more here none) = here
by_commas (more here (more next rest)) = along (sign (44 ∷ [])) comma here (by_commas (more next rest))

pub in_square : {xs : List (List ℕ)} {ws : List (List Word)} → Row xs ws → Says (piece.listed xs) (square ws)
in_square row = across (sign (91 ∷ [])) open_square nothing (across (sign (93 ∷ [])) close_square (by_commas row) nothing)

pub a_call : (n : List ℕ) (xs : List (List ℕ)) (ws : List (List Word)) → IsTrue (is_chunk (name n)) → Says (piece.commas xs) (commas ws) → Says (piece.call n xs) (call n ws)
a_call n xs ws is inner = across (sign (40 ∷ [])) open_round (a_name n is) (across (sign (41 ∷ [])) close_round inner nothing)

pub called : (n : List ℕ) {xs : List (List ℕ)} {ws : List (List Word)} → IsTrue (is_chunk (name n)) → Row xs ws → Says (piece.call n xs) (call n ws)
called n {xs} {ws} is row = a_call n xs ws is (by_commas row)

-- rows of names and numbers

pub ints_row : (zs : List ℤ) → IsTrue (list_all is_literal zs) → Row (map signed_decimal zs) (map int_words (map int_tree zs))
ints_row [] all = none
ints_row (z ∷ zs) all = let parts = and_parts (is_literal z) (list_all is_literal zs) all in more (an_int z parts.0) (ints_row zs parts.1)

pub names_row : (ns : List (List ℕ)) → IsTrue (list_all (λ n. is_chunk (name n)) ns) → Row ns (map name_words ns)
names_row [] all = none
names_row (n ∷ ns) all = let parts = and_parts (is_chunk (name n)) (list_all (λ k. is_chunk (name k)) ns) all in more (a_name n parts.0) (names_row ns parts.1)

-- a list behind a word and its sign
pub a_given_list : (n : List ℕ) {xs : List (List ℕ)} {ws : List (List Word)} → IsTrue (is_chunk (name n)) → Row xs ws → Says (given_text n (piece.listed xs)) (given n (square ws))
a_given_list n is row = across (sign (91 ∷ [])) open_square (named_sign n is) (across (sign (93 ∷ [])) close_square (by_commas row) nothing) where
  named_sign : (k : List ℕ) → IsTrue (is_chunk (name k)) → Says (k ++ 61 ∷ []) (word.name k ∷ word.sign (61 ∷ []) ∷ [])
  named_sign k is = record { chunks = name k ∷ sign (61 ∷ []) ∷ []; spelt = refl; said = refl; are = and_from (is_chunk (name k)) true is refl; apart = refl }
