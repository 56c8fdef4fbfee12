-- The words of numbers, names and lists of them.
use Rattle.std.specs.Prelude.{ℕ, Bool, true, false, if◌then◌else◌, List, [], ◌∷◌, ◌++◌, map, codes, Option, Some, None}
use Rattle.cpo_text.specs.Words.{Word, size_word, square}
use Rattle.cpo_text.specs.Words.Word.{name, number, sign}
use Rattle.cpo_text.specs.declared.tree.Int.{Int}

-- the minus sign, or nothing
abbrev pub minus_words : Bool → List Word
minus_words true = sign (codes "-") ∷ []
minus_words false = []

abbrev pub int_words : Int → List Word
int_words i = minus_words i.minus ++ size_word i.size ∷ []

-- one more argument, where it is there
abbrev pub int_items : Option Int → List (List Word)
int_items None = []
int_items (Some i) = int_words i ∷ []

abbrev pub name_words : List ℕ → List Word
name_words n = name n ∷ []

abbrev pub names_words : List (List ℕ) → List Word
names_words ns = square (map name_words ns)

abbrev pub ints_words : List Int → List Word
ints_words is = square (map int_words is)

-- a flag is a number, 0 or 1
abbrev pub flag_words : Bool → List Word
flag_words b = number (if b then 1 else 0) ∷ []

-- what is given by a word
abbrev pub given : List ℕ → List Word → List Word
given word ws = name word ∷ sign (codes "=") ∷ ws
