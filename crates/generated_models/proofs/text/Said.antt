-- Lines of text that say words, one behind another.
use Rattle.std.proofs.Common.{◌≡◌, ℕ, Bool, true, List, [], ◌∷◌, ◌++◌, map, refl, sym, ap, ◌∙◌}
use Rattle.std.specs.Prelude.{flat_map}
use Rattle.std.specs.List.{list_all, join_with_byte}
use Rattle.std.proofs.lemmas.Bool.{and_parts}
use Rattle.std.proofs.lemmas.List.{append_assoc, append-nil}
use Rattle.std.proofs.lemmas.List.Concat.{flat_map-append}
use Rattle.base_laws.specs.laws.Items.{all_append}
use Rattle.cpo_text.specs.Words.{Word, Word as word, commas}
use Rattle.read_back.specs.Says.{Says, Chunk, chunk_bytes, chunk_words, is_chunk, are_apart}
use Rattle.read_back.specs.Says.Chunk.{name, number, sign, blank}

-- a text that says words, behind which any other may stand
pub record Line (text : List ℕ) (words : List Word) : Type 0 where
  pub chunks : List Chunk
  pub spelt : text ≡ flat_map chunk_bytes chunks
  pub said : words ≡ flat_map chunk_words chunks
  pub are : list_all is_chunk chunks ≡ true
  pub apart : (rest : List Chunk) → are_apart rest ≡ true → are_apart (chunks ++ rest) ≡ true

pub no_line : Line [] []
no_line = record { chunks = []; spelt = refl; said = refl; are = refl; apart = λ rest h. h }

pub two_lines : {a b : List ℕ} {ws vs : List Word} → Line a ws → Line b vs → Line (a ++ b) (ws ++ vs)
two_lines first second =
    let bytes = first.spelt in
    let more = second.spelt in
    let words = first.said in
    let others = second.said in
    record {
      chunks = first.chunks ++ second.chunks;
      spelt = (λ i. bytes i ++ more i) ∙ sym (flat_map-append chunk_bytes first.chunks second.chunks);
      said = (λ i. words i ++ others i) ∙ sym (flat_map-append chunk_words first.chunks second.chunks);
      are = all_append is_chunk first.chunks second.chunks first.are second.are;
      apart = λ rest h. ap are_apart (append_assoc first.chunks second.chunks rest) ∙ first.apart (second.chunks ++ rest) (second.apart rest h);
    }

pub says : {text : List ℕ} {words : List Word} → Line text words → Says text words
says line = record { chunks = line.chunks; spelt = line.spelt; said = line.said; are = line.are; apart = ap are_apart (sym (append-nil line.chunks)) ∙ line.apart [] refl }

pub all_lines : {X : Type 0} (test : X → Bool) (text : X → List ℕ) (words : X → List Word) → ((x : X) → test x ≡ true → Line (text x) (words x)) → (xs : List X) → list_all test xs ≡ true → Line (flat_map text xs) (flat_map words xs)
all_lines test text words each [] all = no_line
all_lines test text words each (x ∷ xs) all = let parts = and_parts (test x) (list_all test xs) all in two_lines (each x parts.0) (all_lines test text words each xs parts.1)

-- a line feed stands before anything
pub feed : (rest : List Chunk) → are_apart rest ≡ true → are_apart (blank 10 ∷ rest) ≡ true
feed [] h = refl
feed (name n ∷ cs) h = h
feed (number n ∷ cs) h = h
feed (sign s ∷ cs) h = h
feed (blank b ∷ cs) h = h

-- the items of a list, each made of a name, with commas between them; behind it stand other chunks
abbrev pub row : (List ℕ → List Chunk → List Chunk) → List (List ℕ) → List Chunk → List Chunk
row onto [] tail = tail
row onto (n ∷ []) tail = onto n tail
row onto (n ∷ k ∷ ns) tail = onto n (sign (44 ∷ []) ∷ row onto (k ∷ ns) tail)

pub record IsItem (onto : List ℕ → List Chunk → List Chunk) (text : List ℕ → List ℕ) (words : List ℕ → List Word) : Type 0 where
  pub bytes : (n : List ℕ) (tail : List Chunk) → flat_map chunk_bytes (onto n tail) ≡ text n ++ flat_map chunk_bytes tail
  pub said : (n : List ℕ) (tail : List Chunk) → flat_map chunk_words (onto n tail) ≡ words n ++ flat_map chunk_words tail
  pub are : (n : List ℕ) (tail : List Chunk) → is_chunk (name n) ≡ true → list_all is_chunk tail ≡ true → list_all is_chunk (onto n tail) ≡ true
  pub opened : (n : List ℕ) (tail : List Chunk) → are_apart (onto n tail) ≡ true → are_apart (sign (91 ∷ []) ∷ onto n tail) ≡ true
  pub behind : (n : List ℕ) (tail : List Chunk) → are_apart (onto n tail) ≡ true → are_apart (sign (44 ∷ []) ∷ onto n tail) ≡ true
  pub before : (n : List ℕ) (tail : List Chunk) → are_apart (sign (44 ∷ []) ∷ tail) ≡ true → are_apart (onto n (sign (44 ∷ []) ∷ tail)) ≡ true
  pub closed : (n : List ℕ) (tail : List Chunk) → are_apart (sign (93 ∷ []) ∷ tail) ≡ true → are_apart (onto n (sign (93 ∷ []) ∷ tail)) ≡ true

module _ (onto : List ℕ → List Chunk → List Chunk) (text : List ℕ → List ℕ) (words : List ℕ → List Word) (item : IsItem onto text words) where
  pub row_bytes : (ns : List (List ℕ)) (tail : List Chunk) → flat_map chunk_bytes (row onto ns tail) ≡ join_with_byte 44 (map text ns) ++ flat_map chunk_bytes tail
  row_bytes [] tail = refl
  row_bytes (n ∷ []) tail = item.bytes n tail
  row_bytes (n ∷ k ∷ ns) tail =
      item.bytes n (sign (44 ∷ []) ∷ row onto (k ∷ ns) tail)
      ∙ ap (λ l. text n ++ 44 ∷ l) (row_bytes (k ∷ ns) tail)
      ∙ sym (append_assoc (text n) (44 ∷ join_with_byte 44 (map text (k ∷ ns))) (flat_map chunk_bytes tail))

  pub row_said : (ns : List (List ℕ)) (tail : List Chunk) → flat_map chunk_words (row onto ns tail) ≡ commas (map words ns) ++ flat_map chunk_words tail
  row_said [] tail = refl
  row_said (n ∷ []) tail = item.said n tail
  row_said (n ∷ k ∷ ns) tail =
      item.said n (sign (44 ∷ []) ∷ row onto (k ∷ ns) tail)
      ∙ ap (λ l. words n ++ word.sign (44 ∷ []) ∷ l) (row_said (k ∷ ns) tail)
      ∙ sym (append_assoc (words n) (word.sign (44 ∷ []) ∷ commas (map words (k ∷ ns))) (flat_map chunk_words tail))

  pub row_are : (ns : List (List ℕ)) (tail : List Chunk) → list_all (λ n. is_chunk (name n)) ns ≡ true → list_all is_chunk tail ≡ true → list_all is_chunk (row onto ns tail) ≡ true
  row_are [] tail all more = more
  row_are (n ∷ []) tail all more = item.are n tail (and_parts (is_chunk (name n)) true all).0 more
  row_are (n ∷ k ∷ ns) tail all more =
      let parts = and_parts (is_chunk (name n)) (list_all (λ n. is_chunk (name n)) (k ∷ ns)) all in
      item.are n (sign (44 ∷ []) ∷ row onto (k ∷ ns) tail) parts.0 (row_are (k ∷ ns) tail parts.1 more)

  comma_row : (k : List ℕ) (ns : List (List ℕ)) (tail : List Chunk) → are_apart (row onto (k ∷ ns) tail) ≡ true → are_apart (sign (44 ∷ []) ∷ row onto (k ∷ ns) tail) ≡ true
  comma_row k [] tail h = item.behind k tail h
  comma_row k (n ∷ ns) tail h = item.behind k (sign (44 ∷ []) ∷ row onto (n ∷ ns) tail) h

  some_row : (n : List ℕ) (ns : List (List ℕ)) (tail : List Chunk) → are_apart (sign (93 ∷ []) ∷ tail) ≡ true → are_apart (row onto (n ∷ ns) (sign (93 ∷ []) ∷ tail)) ≡ true
  some_row n [] tail h = item.closed n tail h
  some_row n (k ∷ ns) tail h = item.before n (row onto (k ∷ ns) (sign (93 ∷ []) ∷ tail)) (comma_row k ns (sign (93 ∷ []) ∷ tail) (some_row k ns tail h))

  -- in square brackets
  pub row_apart : (ns : List (List ℕ)) (tail : List Chunk) → are_apart (sign (93 ∷ []) ∷ tail) ≡ true → are_apart (sign (91 ∷ []) ∷ row onto ns (sign (93 ∷ []) ∷ tail)) ≡ true
  row_apart [] tail h = h
  row_apart (n ∷ []) tail h = item.opened n (sign (93 ∷ []) ∷ tail) (some_row n [] tail h)
  row_apart (n ∷ k ∷ ns) tail h = item.opened n (sign (44 ∷ []) ∷ row onto (k ∷ ns) (sign (93 ∷ []) ∷ tail)) (some_row n (k ∷ ns) tail h)
