-- A word is what a token says: the bytes of a name or a sign, or the value of a number. The spelling of a tree is a list of words.
use Rattle.std.specs.Prelude.{ℕ, Bool, false, List, [], ◌∷◌, ◌++◌, Option, Some, None, codes, bytes_eq}
use Rattle.std.specs.List.{list_any}

-- a number above the bound on literals is a word without a value
pub data Word : Type 0 where
  name : List ℕ → Word
  number : ℕ → Word
  large : Word
  sign : List ℕ → Word
  quoted : Word

-- a number by its value, where it has one
abbrev pub size_word : Option ℕ → Word
size_word (Some n) = number n
size_word None = large

-- the word is this sign
abbrev pub is_sign : List ℕ → Word → Bool
is_sign s (sign b) = bytes_eq s b
is_sign s _ = false

-- the word is one of these names
abbrev pub is_name_in : List (List ℕ) → Word → Bool
is_name_in ns (name b) = list_any (bytes_eq b) ns
is_name_in ns _ = false

-- the items in order, with a sign between each two
abbrev pub between : List ℕ → List (List Word) → List Word
between s [] = []
between s (x ∷ []) = x
between s (x ∷ y ∷ xs) = x ++ sign s ∷ between s (y ∷ xs)

abbrev pub commas : List (List Word) → List Word
commas items = between (codes ",") items

abbrev pub square : List (List Word) → List Word
square items = sign (codes "[") ∷ commas items ++ sign (codes "]") ∷ []

abbrev pub round : List Word → List Word
round ws = sign (codes "(") ∷ ws ++ sign (codes ")") ∷ []

-- a call word and its arguments
abbrev pub call : List ℕ → List (List Word) → List Word
call word items = name word ∷ round (commas items)
