-- What is counted from word to word is what the early tests ask of the first run.
use Rattle.std.proofs.Common.{◌≡◌, ◌+◌, Bool, true, false, ◌||◌, cond, List, [], ◌∷◌, refl, sym, ap, ◌∙◌, arith}
use Rattle.std.specs.Prelude.{pos, ◌+ℤ◌, int_lt, count_by}
use Rattle.std.proofs.lemmas.List.Sums.{sum_by-cons}
use Rattle.cpo_text.specs.Words.{Word}
use Rattle.cpo_text.specs.Tokens.{Token}
use Rattle.cpo_text.specs.Runs.{is_end, words_of, is_left_out, has_left_out, turn, is_deep, is_nesting, is_large, has_large, early}
use Rattle.cpo_text.specs.code.Surveys.{first_run, after_run, unsurveyed, noted, surveyed, early_of}
use Rattle.cpo_text.specs.declared.survey.Survey.{Survey}

abbrev noted_all : Survey → List Word → Survey
noted_all s [] = s
noted_all s (w ∷ ws) = noted_all (noted s w) ws

of_run : (s : Survey) (ts : List Token) → surveyed s ts ≡ noted_all s (words_of (first_run ts))
of_run s [] = refl
of_run s (t ∷ ts) = decided (is_end t) refl (of_run (noted s t.word) ts)
  where
    decided : (b : Bool) → is_end t ≡ b → surveyed (noted s t.word) ts ≡ noted_all (noted s t.word) (words_of (first_run ts))
        → cond b (noted s t.word) (surveyed (noted s t.word) ts) ≡ noted_all s (words_of (cond b (t ∷ []) (t ∷ first_run ts)))
    decided true is h = refl
    decided false is h = h

or_assoc : (a b c : Bool) → ((a || b) || c) ≡ (a || (b || c))
or_assoc true b c = refl
or_assoc false b c = refl

or_false : (a : Bool) → (a || false) ≡ a
or_false true = refl
or_false false = refl

left_out_all : (s : Survey) (ws : List Word) → (noted_all s ws).left_out ≡ (s.left_out || has_left_out ws)
left_out_all s [] = sym (or_false s.left_out)
left_out_all s (w ∷ ws) = left_out_all (noted s w) ws ∙ or_assoc s.left_out (is_left_out w) (has_left_out ws)

large_all : (s : Survey) (ws : List Word) → (noted_all s ws).large ≡ (s.large || has_large ws)
large_all s [] = sym (or_false s.large)
large_all s (w ∷ ws) = large_all (noted s w) ws ∙ or_assoc s.large (is_large w) (has_large ws)

deep_all : (s : Survey) (ws : List Word) → ((noted_all s ws).deep || int_lt (pos 200) (noted_all s ws).depth) ≡ (s.deep || is_deep s.depth ws)
deep_all s [] = refl
deep_all s (w ∷ ws) = deep_all (noted s w) ws ∙ or_assoc s.deep (int_lt (pos 200) s.depth) (is_deep (s.depth +ℤ turn w) ws)

nestings_all : (s : Survey) (ws : List Word) → (noted_all s ws).nestings ≡ s.nestings + count_by is_nesting ws
nestings_all s [] = omega arith
nestings_all s (w ∷ ws) = nestings_all (noted s w) ws ∙ (omega (arith, sum_by-cons (λ x. cond (is_nesting x) 1 0) w ws))

early_all : (ws : List Word) → early_of (noted_all unsurveyed ws) ≡ early ws
early_all ws =
    let n : (noted_all unsurveyed ws).nestings ≡ count_by is_nesting ws = nestings_all unsurveyed ws ∙ (omega arith) in
    rw (left_out_all unsurveyed ws, deep_all unsurveyed ws, n) refl

pub early_survey : (ts : List Token) → early_of (surveyed unsurveyed ts) ≡ early (words_of (first_run ts))
early_survey ts = ap early_of (of_run unsurveyed ts) ∙ early_all (words_of (first_run ts))

pub large_survey : (ts : List Token) → (surveyed unsurveyed ts).large ≡ has_large (words_of (first_run ts))
large_survey ts = ap (λ (s : Survey). s.large) (of_run unsurveyed ts) ∙ large_all unsurveyed (words_of (first_run ts))

-- one token further that is no semicolon
pub survey_turn : (s : Survey) (here : List Token) (t : Token) (ts : List Token) → here ≡ t ∷ ts → is_end t ≡ false → surveyed s here ≡ surveyed (noted s t.word) ts
survey_turn s here t ts is other = ap (surveyed s) is ∙ rw other refl

pub after_turn : (here : List Token) (t : Token) (ts : List Token) → here ≡ t ∷ ts → is_end t ≡ false → after_run here ≡ after_run ts
after_turn here t ts is other = ap after_run is ∙ rw other refl
