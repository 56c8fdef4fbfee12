-- Every text deserves an answer, where each can be read or refused.
use Rattle.std.proofs.Common.{◌≡◌, ◌⊎◌, inl, inr, ℕ, ◌+◌, Bool, true, false, nat_lt, List, [], ◌∷◌, length, Option, Some, None, refl}
use Rattle.base_laws.specs.laws.Numbers.{below_or_past}
use Rattle.cpo_elab.specs.Stages.{empty_stage}
use Rattle.cpo_text.specs.Words.{Word}
use Rattle.cpo_text.specs.Tokens.{Token}
use Rattle.cpo_text.specs.Runs.{runs, words_of, offset, ended, early, has_large}
use Rattle.cpo_text.specs.Laws.{EveryTextHasTokensOrBadByte, GrammarIsDecided}
use Rattle.cpo_text.specs.Reads.{IsGrammatical, HasForm, AreReadings, text_limit, told, IsRead, IsRefused}
use Rattle.cpo_text.specs.Reads.IsRefused.{too_long, bad_byte}
use Rattle.cpo_text.specs.declared.text.Form.{Form}
use Rattle.cpo_text.specs.declared.text.Form.TheVariants.{Tree as Parsed, Number}
use Rattle.cpo_text.specs.declared.text.Reading.{Reading}
use Rattle.cpo_text.specs.declared.text.Refusal.{Refusal}
use Rattle.cpo_text.specs.declared.text.Tree.{Tree}
use Rattle.cpo_elab.specs.Answers.{judged}
use Rattle.cpo_elab.specs.Answers.Answer.{Refused}
use Rattle.cpo_elab.specs.Deserves.Deserves.{unread, judgement}
use Rattle.cpo_elab.specs.Laws.{SomeAnswer}

abbrev Decided : List Word → Type 0
Decided ws = IsGrammatical ws ⊎ (IsGrammatical ws → ⊥)

form_of_statement : (ws : List Word) → early ws ≡ None → IsGrammatical ws → (b : Bool) → has_large ws ≡ b → (f : Form) × HasForm ws f
form_of_statement ws none statement true above = (Number 3, inr (none, inr (refl, statement, above)))
form_of_statement ws none statement false small = (Parsed statement.0, (none, statement.1, small))

form_later : (ws : List Word) → early ws ≡ None → Decided ws → (f : Form) × HasForm ws f
form_later ws none (inl statement) = form_of_statement ws none statement (has_large ws) refl
form_later ws none (inr outside) = (Number 2, inr (none, inl (refl, outside)))

form_by : (ws : List Word) → Decided ws → (o : Option ℕ) → early ws ≡ o → (f : Form) × HasForm ws f
form_by ws decided (Some n) told = (Number n, inl told)
form_by ws decided None none = form_later ws none decided

readings : ((ws : List Word) → Decided ws) → (rs : List (List Token)) → (xs : List Reading) × AreReadings rs xs
readings decide [] = ([], tt)
readings decide (r ∷ rs) =
    let form = form_by (words_of r) (decide (words_of r)) (early (words_of r)) refl in
    let rest = readings decide rs in
    (record { at = offset r; form = form.0 } ∷ rest.0, (refl, form.1, rest.1))

-- every text is read or refused
read_or_refused : EveryTextHasTokensOrBadByte → GrammarIsDecided → (text : List ℕ) → ((tree : Tree) × IsRead text tree) ⊎ ((r : Refusal) × IsRefused text r)
read_or_refused bytes grammar text = elim (below_or_past text_limit (length text) (nat_lt text_limit (length text)) refl) [
  | inl above ↦ inr (record { number = 11; statement = 0; at = text_limit }, too_long above refl)
  | inr short ↦ elim (bytes text) [
    | inl read ↦
        let found = readings grammar (told (runs read.0)) in
        inl (record { statements = found.0 }, record { short = short; tokens = read.0; are = read.1; readings = found.1 })
    | inr bad ↦ inr (record { number = 1; statement = 1 + ended bad.0; at = bad.1 }, bad_byte bad.0 bad.1 short bad.2 refl)
  ]
]

pub some_answer : EveryTextHasTokensOrBadByte → GrammarIsDecided → SomeAnswer
some_answer bytes grammar text = elim (read_or_refused bytes grammar text) [
  | inl read ↦ (judged empty_stage 1 read.0.statements, judgement read.0 read.1 refl)
  | inr refused ↦ (Refused refused.0, unread refused.0 refused.1 refl)
]
