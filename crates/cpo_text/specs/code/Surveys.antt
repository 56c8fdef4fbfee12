-- The first run of some tokens, and what the early tests ask of it, counted from word to word.
use Rattle.std.specs.Prelude.{ℕ, ◌+◌, Bool, false, ◌||◌, List, [], ◌∷◌, if◌then◌else◌, cond, nat_lt, pos, ◌+ℤ◌, int_lt, Option, Some, None}
use Rattle.cpo_text.specs.Words.{Word}
use Rattle.cpo_text.specs.Tokens.{Token}
use Rattle.cpo_text.specs.Runs.{is_end, is_left_out, turn, is_nesting, is_large}
use Rattle.cpo_text.specs.declared.survey.Survey.{Survey}

-- the tokens up to and with the first semicolon
abbrev pub first_run : List Token → List Token
first_run [] = []
first_run (t ∷ ts) = if is_end t then t ∷ [] else (t ∷ first_run ts)

-- and those behind it
abbrev pub after_run : List Token → List Token
after_run [] = []
after_run (t ∷ ts) = if is_end t then ts else after_run ts

abbrev pub unsurveyed : Survey
unsurveyed = record { left_out = false; deep = false; depth = pos 0; nestings = 0; large = false }

-- `deep` speaks of the places before, and not yet of this one
abbrev pub noted : Survey → Word → Survey
noted s w = record {
  left_out = s.left_out || is_left_out w;
  deep = s.deep || int_lt (pos 200) s.depth;
  depth = s.depth +ℤ turn w;
  nestings = s.nestings + cond (is_nesting w) 1 0;
  large = s.large || is_large w;
}

abbrev pub surveyed : Survey → List Token → Survey
surveyed s [] = s
surveyed s (t ∷ ts) = if is_end t then noted s t.word else surveyed (noted s t.word) ts

abbrev pub is_too_nested : Survey → Bool
is_too_nested s = (s.deep || int_lt (pos 200) s.depth) || nat_lt 200 s.nestings

abbrev pub early_of : Survey → Option ℕ
early_of s = if s.left_out then Some 14 else (if is_too_nested s then Some 11 else None)
