-- The first two lines of an answer.
use Rattle.std.proofs.Common.{◌≡◌, inl, inr, ℕ, ◌^◌, ◌<◌, true, false, List, [], ◌∷◌, ◌++◌, codes, Some, None, refl, sym, ap, ◌∙◌, subst, arith, append-nil, append_assoc}
use Rattle.std.specs.Fmt.{decimal}
use Rattle.std.proofs.lemmas.Fmt.{decimal_injective}
use Rattle.textline.specs.Lines.{Bytes, line, words_of}
use Rattle.textline.specs.laws.Lines.{one_word}
use Rattle.textline.specs.laws.Numbers.{decimal_is_word}
use Rattle.textline.specs.Words.{is_word}
use Rattle.sched_text.specs.laws.Values.{numbers_are_word}
use Rattle.read_schedule.specs.Schedules.{AreNumbers, IsVerdict, IsCount, is_line, text}
use Rattle.read_schedule.specs.code.Reads.{Decides, IsCountAlone, TakesHeader, TakesLine}
use Rattle.read_schedule.proofs.spelling.Taken.{same_words}

pub far_count : (w : Bytes) (n : ℕ) (old new : List Bytes) → old ≡ w ∷ new → w ≡ decimal n → n < 2 ^ 64 → 2 ^ 62 < n → IsCountAlone old → ⊥
far_count w n old new stands is range over count =
    let same : decimal n ≡ decimal count.0 = sym is ∙ first_is w (decimal count.0) new [] (sym stands ∙ count.2) in
    absurd (omega (arith, over, count.1, decimal_injective n count.0 range (omega (arith, count.1)) same))
  where
    first_is : (v w : Bytes) (x y : List Bytes) → v ∷ x ≡ w ∷ y → v ≡ w
    first_is v w x y e = cc

numbers_word_is : (w : Bytes) → AreNumbers 8 w → is_word w ≡ true
numbers_word_is w (vs, some, few, small, is) = ap is_word is ∙ numbers_are_word vs small

pub verdict_is_line : (ws : List Bytes) → IsVerdict ws → is_line ws ≡ true
verdict_is_line ws (inl plain) = ap is_line plain
verdict_is_line ws (inr valued) = elim valued.2 [
  | inl best ↦ ap is_line best ∙ one_word (codes "optimal") (valued.0 ∷ []) refl (one_word valued.0 [] (numbers_word_is valued.0 valued.1) refl)
  | inr found ↦ ap is_line found ∙ one_word (codes "unfinished") (valued.0 ∷ []) refl (one_word valued.0 [] (numbers_word_is valued.0 valued.1) refl)
]

pub count_is_line : (ws : List Bytes) → IsCount ws → is_line ws ≡ true
count_is_line ws count = ap is_line count.2 ∙ one_word (codes "nodes") (decimal count.0 ∷ []) refl (one_word (decimal count.0) [] (decimal_is_word count.0 (omega (arith, count.1))) refl)

pub no_first : (old new : Bytes) → TakesLine old new None → TakesHeader old new (Some 0)
no_first old new none = ([], tt, refl, sym none.0, λ zero v verdict starts. none.1 v starts)

pub no_verdict : (old l after new : Bytes) → TakesLine old after (Some l) → Decides (IsVerdict (words_of l)) false → new ≡ old → TakesHeader old new (Some 0)
no_verdict old l after new taken other same = ([], tt, refl, sym same, λ zero v verdict starts. other (subst IsVerdict (same_words v old l after taken (verdict_is_line v verdict) starts) verdict))

pub no_second : (old l after new : Bytes) → TakesLine old after (Some l) → IsVerdict (words_of l) → TakesLine after new None → TakesHeader old new None
no_second old l after new taken verdict none = (words_of l, verdict, after, taken.1, λ c count starts. none.1 c starts)

pub no_count : (old l after k new : Bytes) → TakesLine old after (Some l) → IsVerdict (words_of l) → TakesLine after new (Some k) → Decides (IsCount (words_of k)) false → TakesHeader old new None
no_count old l after k new taken verdict next other = (words_of l, verdict, after, taken.1, λ c count starts. other (subst IsCount (same_words c after k new next (count_is_line c count) starts) count))

pub both_taken : (old l after k new : Bytes) → TakesLine old after (Some l) → IsVerdict (words_of l) → TakesLine after new (Some k) → IsCount (words_of k) → TakesHeader old new (Some 2)
both_taken old l after k new taken verdict next count = (words_of l ∷ words_of k ∷ [], (verdict, count), refl, whole, λ none v h starts. cc)
  where
    whole : old ≡ text (words_of l ∷ words_of k ∷ []) ++ new
    whole = taken.1
        ∙ ap (λ t. line (words_of l) ++ t) (next.1 ∙ ap (λ t. t ++ new) (sym (append-nil (line (words_of k)))))
        ∙ sym (append_assoc (line (words_of l)) (line (words_of k) ++ []) new)

-- words that begin with none of three
pub no_verdict_word : (ws : List Bytes) → ((vs : List Bytes) → ws ≡ codes "feasible" ∷ vs → ⊥) → ((vs : List Bytes) → ws ≡ codes "optimal" ∷ vs → ⊥) → ((vs : List Bytes) → ws ≡ codes "unfinished" ∷ vs → ⊥) → IsVerdict ws → ⊥
no_verdict_word ws f o u (inl plain) = f [] plain
no_verdict_word ws f o u (inr valued) = elim valued.2 [
  | inl best ↦ o (valued.0 ∷ []) best
  | inr found ↦ u (valued.0 ∷ []) found
]
