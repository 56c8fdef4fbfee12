-- Texts of the same words deserve the same, but for the offset.
use Rattle.std.proofs.Common.{◌≡◌, ℕ, ◌+◌, ◌≤◌, List, [], ◌∷◌, map, length, take, Option, Some, None, refl, sym, ap, subst, ◌∙◌}
use Rattle.std.proofs.lemmas.List.{take-map}
use Rattle.cpo_elab.specs.Stages.{Stage, empty_stage}
use Rattle.cpo_text.specs.Tokens.{Token, HasTokens}
use Rattle.cpo_text.specs.Runs.{runs, words_of}
use Rattle.cpo_text.specs.Reads.{IsRefused, HasForm, AreReadings, text_limit, told_limit, told}
use Rattle.cpo_text.specs.Reads.IsRefused.{too_long, bad_byte}
use Rattle.cpo_text.specs.Laws.{StatementsAreDetermined}
use Rattle.cpo_text.specs.declared.text.Reading.{Reading}
use Rattle.cpo_text.specs.declared.text.Refusal.{Refusal}
use Rattle.cpo_text.specs.lemmas.WordRuns.{words_of_runs, word_runs}
use Rattle.cpo_elab.specs.Answers.{Answer, number_at, after_form, refused_or, judged}
use Rattle.cpo_elab.specs.Deserves.Deserves.{unread, judgement}
use Rattle.cpo_elab.specs.Laws.{SameButOffset, OnlyWordsCount}
use Rattle.cpo_elab.proofs.judging.Determined.{ReadingIsDetermined, clash, same_form}

-- the runs by their words

words_told : (rs : List (List Token)) → map words_of (told rs) ≡ take told_limit (map words_of rs)
unfolding told
words_told rs = sym (take-map words_of told_limit rs)

-- the forms by the words

same_forms : StatementsAreDetermined → (rs qs : List (List Token)) (xs ys : List Reading) → map words_of rs ≡ map words_of qs → AreReadings rs xs → AreReadings qs ys → map (λ x. x.form) xs ≡ map (λ x. x.form) ys
same_forms law [] [] [] [] same one other = refl
same_forms law [] [] [] (y ∷ ys) same one other = absurd other
same_forms law [] qs (x ∷ xs) ys same one other = absurd one
same_forms law [] (q ∷ qs) [] ys same one other = cc
same_forms law (r ∷ rs) qs [] ys same one other = absurd one
same_forms law (r ∷ rs) [] (x ∷ xs) ys same one other = cc
same_forms law (r ∷ rs) (q ∷ qs) (x ∷ xs) [] same one other = absurd other
same_forms law (r ∷ rs) (q ∷ qs) (x ∷ xs) (y ∷ ys) same one other =
    let first : words_of r ≡ words_of q = cc in
    let rest : map words_of rs ≡ map words_of qs = cc in
    let form = same_form law (words_of q) x.form y.form (subst (λ ws. HasForm ws x.form) first one.1) other.1 in
    let forms = same_forms law rs qs xs ys rest one.2 other.2 in
    λ i. form i ∷ forms i

-- the judgement by the forms

same_or : (o : Option ℕ) (k i j : ℕ) (a b : Answer) → SameButOffset a b → SameButOffset (refused_or o k i a) (refused_or o k j b)
same_or None k i j a b same = same
same_or (Some n) k i j a b same = (refl, refl)

same_judgement : (st : Stage) (k : ℕ) (xs ys : List Reading) → map (λ x. x.form) xs ≡ map (λ x. x.form) ys → SameButOffset (judged st k xs) (judged st k ys)
same_judgement st k [] [] same = refl
same_judgement st k [] (y ∷ ys) same = cc
same_judgement st k (x ∷ xs) [] same = cc
same_judgement st k (x ∷ xs) (y ∷ ys) same =
    let first : x.form ≡ y.form = cc in
    let rest : map (λ x. x.form) xs ≡ map (λ x. x.form) ys = cc in
    subst (λ f. SameButOffset (refused_or (number_at st k x.form) k x.at (judged (after_form st x.form) (k + 1) xs)) (refused_or (number_at st k f) k y.at (judged (after_form st f) (k + 1) ys))) first
    (same_or (number_at st k x.form) k x.at y.at _ _ (same_judgement (after_form st x.form) (k + 1) xs ys rest))

too_short : (text : List ℕ) (r : Refusal) (ts : List Token) → ReadingIsDetermined → length text ≤ text_limit → HasTokens text ts → IsRefused text r → ⊥
too_short text r ts laws short has (too_long above is) = clash text_limit (length text) above short
too_short text r ts laws short has (bad_byte us at short_too bad is) = laws.not_both text ts us at has bad

pub only_words_count : ReadingIsDetermined → OnlyWordsCount
only_words_count laws text other ts us a b short also_short one two same (unread r refused is) deserves = absurd (too_short text r ts laws short one refused)
only_words_count laws text other ts us a b short also_short one two same (judgement t read is) (unread r refused also) = absurd (too_short other r us laws also_short two refused)
only_words_count laws text other ts us a b short also_short one two same (judgement t read is) (judgement u again also) =
    let first = laws.tokens text read.tokens ts read.are one in
    let second = laws.tokens other again.tokens us again.are two in
    let runs_same = words_of_runs read.tokens ∙ ap (λ x. word_runs (words_of x)) first ∙ ap word_runs same ∙ sym (ap (λ x. word_runs (words_of x)) second) ∙ sym (words_of_runs again.tokens) in
    let told_same = words_told (runs read.tokens) ∙ ap (take told_limit) runs_same ∙ sym (words_told (runs again.tokens)) in
    let forms = same_forms laws.statements (told (runs read.tokens)) (told (runs again.tokens)) t.statements u.statements told_same read.readings again.readings in
    subst (λ x. SameButOffset x b) (sym is) (subst (SameButOffset (judged empty_stage 1 t.statements)) (sym also) (same_judgement empty_stage 1 t.statements u.statements forms))
