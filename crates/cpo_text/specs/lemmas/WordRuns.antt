-- The runs of some tokens, seen by their words.
use Rattle.std.proofs.Common.{◌≡◌, Bool, true, false, if◌then◌else◌, List, [], ◌∷◌, map, codes, refl, ap, ◌∙◌}
use Rattle.cpo_text.specs.Words.{Word, is_sign}
use Rattle.cpo_text.specs.Tokens.{Token}
use Rattle.cpo_text.specs.Runs.{runs, before_runs, words_of, is_end}

-- a word in front of the first run
abbrev pub before_words : Word → List (List Word) → List (List Word)
before_words w [] = (w ∷ []) ∷ []
before_words w (r ∷ rs) = (w ∷ r) ∷ rs

-- the runs of words alone
abbrev pub word_runs : List Word → List (List Word)
word_runs [] = []
word_runs (w ∷ ws) = if is_sign (codes ";") w then (w ∷ []) ∷ word_runs ws else before_words w (word_runs ws)

-- a token in front, by its word
pub words_before : (t : Token) (rs : List (List Token)) → map words_of (before_runs t rs) ≡ before_words t.word (map words_of rs)
words_before t [] = refl
words_before t (r ∷ rs) = refl

words_of_run : (b : Bool) (t : Token) (rs : List (List Token)) (ws : List (List Word)) → map words_of rs ≡ ws
    → map words_of (if b then (t ∷ []) ∷ rs else before_runs t rs) ≡ (if b then (t.word ∷ []) ∷ ws else before_words t.word ws)
words_of_run true t rs ws is = ap (λ x. (t.word ∷ []) ∷ x) is
words_of_run false t rs ws is = words_before t rs ∙ ap (before_words t.word) is

-- the runs of tokens, by their words, are those of the words
pub words_of_runs : (ts : List Token) → map words_of (runs ts) ≡ word_runs (words_of ts)
words_of_runs [] = refl
words_of_runs (t ∷ ts) = words_of_run (is_end t) t (runs ts) (word_runs (words_of ts)) (words_of_runs ts)
