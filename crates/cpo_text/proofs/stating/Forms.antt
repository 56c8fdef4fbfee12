-- What a statement's words deserve, and readings run by run.
use Rattle.std.proofs.Common.{◌≡◌, inl, inr, ℕ, zero, suc, ◌+◌, ◌<◌, ◌≤◌, Bool, true, false, List, [], ◌∷◌, ◌++◌, length, take, Option, Some, None, refl, sym, ap, subst, ◌∙◌, arith, append_assoc, append-nil, length-append}
use Rattle.cpo_text.specs.Words.{Word}
use Rattle.cpo_text.specs.Tokens.{Token}
use Rattle.cpo_text.specs.Runs.{runs, words_of, early, has_large}
use Rattle.cpo_text.specs.code.Surveys.{first_run, after_run, unsurveyed, surveyed, early_of}
use Rattle.cpo_text.specs.code.Statements.{enough, statement_at}
use Rattle.cpo_text.specs.Reads.{DeservesNumber, HasForm, AreReadings, told_limit, told}
use Rattle.cpo_text.specs.declared.survey.Survey.{Survey}
use Rattle.cpo_text.specs.declared.tree.Statement.{Statement}
use Rattle.cpo_text.specs.declared.text.Form.TheVariants.{Tree as Parsed}
use Rattle.cpo_text.specs.declared.text.Reading.{Reading}
use Rattle.cpo_text.proofs.stating.Surveyed.{early_survey, large_survey}
use Rattle.cpo_text.proofs.stating.Firsts.{runs_first, offset_first, after_fewer, read_statement, no_statement}

abbrev run_words : List Token → List Word
run_words ts = words_of (first_run ts)

early_is : (ts : List Token) (s : Survey) (o : Option ℕ) → s ≡ surveyed unsurveyed ts → o ≡ early_of s → early (run_words ts) ≡ o
early_is ts s o is h = sym (early_survey ts) ∙ ap early_of (sym is) ∙ sym h

large_is : (ts : List Token) (s : Survey) (b : Bool) → s ≡ surveyed unsurveyed ts → s.large ≡ b → has_large (run_words ts) ≡ b
large_is ts s b is h = sym (large_survey ts) ∙ ap (λ (x : Survey). x.large) (sym is) ∙ h

pub early_number : (ts : List Token) (s : Survey) (n : ℕ) → s ≡ surveyed unsurveyed ts → Some n ≡ early_of s → DeservesNumber (run_words ts) n
early_number ts s n is h = inl (early_is ts s (Some n) is h)

pub outside_number : (ts : List Token) (s : Survey) → s ≡ surveyed unsurveyed ts → None ≡ early_of s → length ts ≤ 16777216 → statement_at enough (words_of ts) ≡ None → DeservesNumber (run_words ts) 2
unfolding enough
outside_number ts s is h short none = inr (early_is ts s None is h, inl (refl, no_statement 335544340 ts (omega arith) none))

pub large_number : (ts : List Token) (s : Survey) (x : Statement) (rest : List Word) → s ≡ surveyed unsurveyed ts → None ≡ early_of s → statement_at enough (words_of ts) ≡ Some (x, rest) → s.large ≡ true
    → DeservesNumber (run_words ts) 3
large_number ts s x rest is h read large = inr (early_is ts s None is h, inr (refl, (x, read_statement enough ts x rest read), large_is ts s true is large))

pub parsed : (ts : List Token) (s : Survey) (x : Statement) (rest : List Word) → s ≡ surveyed unsurveyed ts → None ≡ early_of s → statement_at enough (words_of ts) ≡ Some (x, rest) → s.large ≡ false
    → HasForm (run_words ts) (Parsed x)
parsed ts s x rest is h read small = (early_is ts s None is h, read_statement enough ts x rest read, large_is ts s false is small)

-- one run and its reading

-- so many runs at the front
abbrev first_runs : ℕ → List Token → List (List Token)
first_runs n ts = take n (runs ts)

pub readings_start : (n : ℕ) (here whole : List Token) (seen more : List Reading) → seen ≡ [] → n ≡ told_limit → here ≡ whole → AreReadings (first_runs n here) more → AreReadings (told (runs whole)) (seen ++ more)
unfolding told
readings_start n here whole seen more none count is h =
    subst (λ xs. AreReadings (first_runs told_limit whole) (xs ++ more)) (sym none) (subst (λ k. AreReadings (first_runs k whole) more) count (subst (λ ts. AreReadings (first_runs n ts) more) is h))

one_reading : (n : ℕ) (t : Token) (ts : List Token) (x : Reading) (more : List Reading) → x.at ≡ t.at → HasForm (run_words (t ∷ ts)) x.form → AreReadings (first_runs n (after_run (t ∷ ts))) more
    → AreReadings (first_runs (suc n) (t ∷ ts)) (x ∷ more)
one_reading n t ts x more place form rest = subst (λ rs. AreReadings (take (suc n) rs) (x ∷ more)) (sym (runs_first t ts)) (place ∙ sym (offset_first t ts), form, rest)

pub readings_turn : (n : ℕ) (here behind : List Token) (t : Token) (ts : List Token) (x : Reading) (more : List Reading) → here ≡ t ∷ ts → behind ≡ after_run here → x.at ≡ t.at → HasForm (run_words here) x.form
    → AreReadings (first_runs n behind) more → AreReadings (first_runs (suc n) here) (x ∷ more)
readings_turn n here behind t ts x more is after place form rest =
    subst (λ us. AreReadings (first_runs (suc n) us) (x ∷ more)) (sym is)
    (one_reading n t ts x more place (subst (λ us. HasForm (run_words us) x.form) is form) (subst (λ us. AreReadings (first_runs n us) more) (after ∙ ap after_run is) rest))

pub readings_on : (whole : List (List Token)) (seen seen' : List Reading) (x : Reading) (more : List Reading) → seen' ≡ seen ++ x ∷ [] → AreReadings whole (seen ++ x ∷ more) → AreReadings whole (seen' ++ more)
readings_on whole seen seen' x more is h = subst (AreReadings whole) (sym (ap (λ xs. xs ++ more) is ∙ append_assoc seen (x ∷ []) more)) h

pub length-push : (seen seen' : List Reading) (x : Reading) → seen' ≡ seen ++ x ∷ [] → length seen' ≡ length seen + 1
length-push seen seen' x is = ap length is ∙ length-append seen (x ∷ [])

pub readings_end : (whole : List (List Token)) (n : ℕ) (here : List Token) (seen : List Reading) → here ≡ [] → (AreReadings (first_runs n here) [] → AreReadings whole (seen ++ [])) → AreReadings whole seen
readings_end whole n here seen is h = subst (AreReadings whole) (append-nil seen) (h (subst (λ us. AreReadings (first_runs n us) []) (sym is) (none n)))
  where
    none : (m : ℕ) → AreReadings (first_runs m []) []
    none zero = tt
    none (suc m) = tt

-- where as many are told as there is room for
pub readings_full : (whole : List (List Token)) (here : List Token) (seen : List Reading) → (AreReadings (first_runs 0 here) [] → AreReadings whole (seen ++ [])) → AreReadings whole seen
readings_full whole here seen h = subst (AreReadings whole) (append-nil seen) (h tt)

pub behind_fewer : (here behind : List Token) (t : Token) (ts : List Token) → here ≡ t ∷ ts → behind ≡ after_run here → length behind < length here
behind_fewer here behind t ts is after = subst (λ us. length behind < length us) (sym is) (subst (λ us. length us < length (t ∷ ts)) (sym (after ∙ ap after_run is)) (after_fewer t ts))
