-- A spelling ends at its only line feed.
use Rattle.std.specs.Prelude.{◌≡◌, ◌==◌, Bool, true, not, ℤ, List, [], ◌∷◌, ◌++◌}
use Rattle.std.proofs.Common.{sym, ap, refl, subst, ◌∙◌, append_assoc}
use Rattle.std.proofs.lemmas.List.Folds.{list_all-append}
use Rattle.std.specs.List.{list_all}
use Rattle.textline.specs.Lines.{Bytes, line}
use Rattle.textline.specs.Words.{is_plain, is_word, are_words}
use Rattle.textline.specs.laws.Lines.{both_true, true_both}
use Rattle.logtext.specs.declared.entry.Entry.{Entry}
use Rattle.logtext.specs.Entries.{entry_text, is_fit_entry}
use Rattle.logtext.specs.code.Promises.{EndsOnce}
use Rattle.logtext.specs.laws.Entries.{AreTold, entry_plain, has_words}

word_clean : (w : Bytes) → is_word w ≡ true → list_all (λ b. not (b == 10)) w ≡ true
word_clean [] h = refl
word_clean (b ∷ w) h =
    let two = both_true (is_plain b) (is_word w) h in
    true_both (not (b == 10)) (list_all (λ c. not (c == 10)) w) (both_true (not (b == 32)) (not (b == 10)) two.0).1 (word_clean w two.1)

line_ends : (w : Bytes) (ws : List Bytes) → are_words (w ∷ ws) ≡ true → EndsOnce (line (w ∷ ws))
line_ends w [] h = record { body = w; text_is = refl; clean = word_clean w (both_true (is_word w) true h).0 }
line_ends w (v ∷ ws) h =
    let two = both_true (is_word w) (are_words (v ∷ ws)) h in
    let rest = line_ends v ws two.1 in
    record {
      body = w ++ 32 ∷ rest.body;
      text_is = ap (λ t. w ++ 32 ∷ t) rest.text_is ∙ sym (append_assoc w (32 ∷ rest.body) (10 ∷ []));
      clean = list_all-append (λ b. not (b == 10)) w (32 ∷ rest.body) ∙ true_both (list_all (λ b. not (b == 10)) w) (list_all (λ b. not (b == 10)) rest.body) (word_clean w two.0) rest.clean;
    }

pub entry_ends : {W : Type 0} → (numbers : W → List ℤ) (valid : W → Bool) → AreTold numbers valid → (e : Entry W) → is_fit_entry valid e ≡ true → EndsOnce (entry_text numbers e)
entry_ends numbers valid laws e h =
    let u = has_words numbers e in
    subst EndsOnce (sym u.text) (line_ends u.first u.rest (ap are_words (sym u.words) ∙ entry_plain numbers valid laws e h))
