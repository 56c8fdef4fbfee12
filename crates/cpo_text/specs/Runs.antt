-- Statements: each run of tokens up to and with its semicolon; tokens behind the last one are one more run, without.
use Rattle.std.specs.Prelude.{ℕ, Bool, true, false, ◌||◌, List, [], ◌∷◌, map, codes, if◌then◌else◌, nat_lt, ℤ, pos, negsuc, ◌+ℤ◌, int_lt, count_by, Option, Some, None}
use Rattle.std.specs.List.{list_any}
use Rattle.cpo_text.specs.Tokens.{Token}
use Rattle.cpo_text.specs.Words.{Word, is_sign, is_name_in}
use Rattle.cpo_text.specs.Words.Word.{large}

abbrev pub is_end : Token → Bool
is_end t = is_sign (codes ";") t.word

abbrev pub before_runs : Token → List (List Token) → List (List Token)
before_runs t [] = (t ∷ []) ∷ []
before_runs t (r ∷ rs) = (t ∷ r) ∷ rs

abbrev pub runs : List Token → List (List Token)
runs [] = []
runs (t ∷ ts) = if is_end t then (t ∷ []) ∷ runs ts else before_runs t (runs ts)

-- the words of a run
abbrev pub words_of : List Token → List Word
words_of ts = map (λ t. t.word) ts

-- how many semicolons stand among some tokens
abbrev pub ended : List Token → ℕ
ended ts = count_by is_end ts

-- a statement's offset is that of its first token
abbrev pub offset : List Token → ℕ
offset [] = 0
offset (t ∷ ts) = t.at

abbrev pub left_out_words : List (List ℕ)
left_out_words = codes "intensity" ∷ codes "granularity" ∷ codes "forbidEnd"
    ∷ codes "heightAtStart" ∷ codes "heightAtEnd" ∷ codes "alwaysConstant" ∷ codes "isomorphism" ∷ codes "sameSequence" ∷ codes "sameCommonSubsequence"
    ∷ codes "typeOfNext" ∷ codes "typeOfPrev" ∷ codes "intVar" ∷ codes "internals" ∷ codes "parameters" ∷ codes "search"
    ∷ codes "startingPoint" ∷ codes "kpis" ∷ codes "KPIs" ∷ []

abbrev pub is_left_out : Word → Bool
is_left_out w = is_name_in left_out_words w

abbrev pub has_left_out : List Word → Bool
has_left_out ws = list_any is_left_out ws

-- what a word adds to the brackets that are open
abbrev pub turn : Word → ℤ
turn w = if is_sign (codes "(") w || is_sign (codes "[") w then pos 1
    else if is_sign (codes ")") w || is_sign (codes "]") w then negsuc 0
    else pos 0

-- more than 200 brackets are open at some place from here on, where so many are open here
abbrev pub is_deep : ℤ → List Word → Bool
is_deep n [] = int_lt (pos 200) n
is_deep n (w ∷ ws) = int_lt (pos 200) n || is_deep (n +ℤ turn w) ws

-- `!` or `=>`
abbrev pub is_nesting : Word → Bool
is_nesting w = is_sign (codes "!") w || is_sign (codes "=>") w

abbrev pub has_many_nestings : List Word → Bool
has_many_nestings ws = nat_lt 200 (count_by is_nesting ws)

abbrev pub is_large : Word → Bool
is_large large = true
is_large _ = false

-- a literal above the bound
abbrev pub has_large : List Word → Bool
has_large ws = list_any is_large ws

-- the number that the words deserve before the grammar is asked
abbrev pub early : List Word → Option ℕ
early ws = if has_left_out ws then Some 14
    else if is_deep (pos 0) ws || has_many_nestings ws then Some 11
    else None
