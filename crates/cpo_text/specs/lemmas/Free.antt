-- Lists of words, calls, and what both are made of have no semicolon.
use Rattle.std.proofs.Common.{◌≡◌, ℕ, Bool, true, false, List, [], ◌∷◌, ◌++◌, map, Option, Some, None, refl, ◌∙◌}
use Rattle.std.specs.Prelude.{codes}
use Rattle.std.specs.List.{list_any}
use Rattle.std.proofs.lemmas.List.Folds.{list_any-append}
use Rattle.cpo_text.specs.Words.{Word, is_sign, size_word, between, commas, square, round, call}
use Rattle.cpo_text.specs.Words.Word.{sign}
use Rattle.cpo_text.specs.Parts.{minus_words, int_words, int_items, name_words, names_words, ints_words, flag_words}
use Rattle.cpo_text.specs.declared.tree.Int.{Int}

-- a semicolon
abbrev pub ends : Word → Bool
ends w = is_sign (codes ";") w

-- no word is one
abbrev pub IsFree : List Word → Type 0
IsFree ws = list_any ends ws ≡ false

-- in each list no word is one
abbrev pub AreFree : List (List Word) → Type 0
AreFree [] = Unit {0}
AreFree (x ∷ xs) = IsFree x × AreFree xs

-- words behind words
pub both_free : (xs ys : List Word) → IsFree xs → IsFree ys → IsFree (xs ++ ys)
both_free xs ys a b = list_any-append ends xs ys ∙ rw (a, b) refl

-- a word in front
pub with_free : (w : Word) (ws : List Word) → ends w ≡ false → IsFree ws → IsFree (w ∷ ws)
with_free w ws here behind = rw here behind

-- the words of each item
pub all_free : {X : Type 0} (f : X → List Word) → ((x : X) → IsFree (f x)) → (xs : List X) → AreFree (map f xs)
all_free f free [] = tt
all_free f free (x ∷ xs) = (free x, all_free f free xs)

-- lists behind lists
pub more_free : (xs ys : List (List Word)) → AreFree xs → AreFree ys → AreFree (xs ++ ys)
more_free [] ys a b = b
more_free (x ∷ xs) ys a b = (a.0, more_free xs ys a.1 b)

-- items with a sign between each two
pub between_free : (s : List ℕ) → ends (sign s) ≡ false → (items : List (List Word)) → AreFree items → IsFree (between s items)
between_free s no_end [] free = refl
between_free s no_end (x ∷ []) free = free.0
between_free s no_end (x ∷ y ∷ ys) free = both_free x (sign s ∷ between s (y ∷ ys)) free.0 (with_free (sign s) (between s (y ∷ ys)) no_end (between_free s no_end (y ∷ ys) free.1))

-- words in round brackets
pub round_free : (ws : List Word) → IsFree ws → IsFree (round ws)
round_free ws free = both_free ws (sign (codes ")") ∷ []) free refl

-- items in square brackets
pub square_free : (items : List (List Word)) → AreFree items → IsFree (square items)
square_free items free = both_free (commas items) (sign (codes "]") ∷ []) (between_free (codes ",") refl items free) refl

-- a call
pub call_free : (word : List ℕ) (items : List (List Word)) → AreFree items → IsFree (call word items)
call_free word items free = round_free (commas items) (between_free (codes ",") refl items free)

-- a number
pub size_free : (n : Option ℕ) → IsFree (size_word n ∷ [])
size_free None = refl
size_free (Some n) = refl

-- a minus, or none
pub minus_free : (b : Bool) → IsFree (minus_words b)
minus_free true = refl
minus_free false = refl

-- a number with its sign
pub int_free : (i : Int) → IsFree (int_words i)
int_free i = both_free (minus_words i.minus) (size_word i.size ∷ []) (minus_free i.minus) (size_free i.size)

-- a list of numbers
pub ints_free : (is : List Int) → IsFree (ints_words is)
ints_free is = square_free (map int_words is) (all_free int_words int_free is)

-- a number that may be left out
pub int_items_free : (o : Option Int) → AreFree (int_items o)
int_items_free None = tt
int_items_free (Some i) = (int_free i, tt)

-- a list of names
pub names_free : (ns : List (List ℕ)) → IsFree (names_words ns)
names_free ns = square_free (map name_words ns) (all_free name_words (λ n. refl) ns)

-- a flag
pub flag_free : (b : Bool) → IsFree (flag_words b)
flag_free b = refl
