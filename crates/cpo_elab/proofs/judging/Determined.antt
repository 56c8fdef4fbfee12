-- A text deserves one answer, where nothing in its reading is a choice.
use Rattle.std.proofs.Common.{◌≡◌, inl, inr, ℕ, ◌+◌, ◌<◌, ◌≤◌, List, [], ◌∷◌, length, refl, sym, ap, subst, ◌∙◌, arith}
use Rattle.cpo_elab.specs.Stages.{empty_stage}
use Rattle.cpo_text.specs.Words.{Word}
use Rattle.cpo_text.specs.Tokens.{Token}
use Rattle.cpo_text.specs.Runs.{runs, words_of, ended}
use Rattle.cpo_text.specs.Reads.{IsRead, IsRefused, DeservesNumber, HasForm, AreReadings, text_limit, told}
use Rattle.cpo_text.specs.Reads.IsRefused.{too_long, bad_byte}
use Rattle.cpo_text.specs.Laws.{TokensAreDetermined, BadByteIsDetermined, NotBoth, StatementsAreDetermined}
use Rattle.cpo_text.specs.declared.tree.Statement.{Statement}
use Rattle.cpo_text.specs.declared.text.Form.{Form}
use Rattle.cpo_text.specs.declared.text.Form.TheVariants.{Tree as Parsed, Number}
use Rattle.cpo_text.specs.declared.text.Reading.{Reading}
use Rattle.cpo_text.specs.declared.text.Refusal.{Refusal}
use Rattle.cpo_text.specs.declared.text.Tree.{Tree}
use Rattle.cpo_text.specs.lemmas.Deserved.{same_number}
use Rattle.cpo_elab.specs.Answers.{judged}
use Rattle.cpo_elab.specs.Answers.Answer.{Refused}
use Rattle.cpo_elab.specs.Deserves.Deserves.{unread, judgement}
use Rattle.cpo_elab.specs.Laws.{AtMostOneAnswer}

-- nothing in the reading of a text is a choice
pub record ReadingIsDetermined : Type 0 where
  pub tokens : TokensAreDetermined
  pub bad_byte : BadByteIsDetermined
  pub not_both : NotBoth
  pub statements : StatementsAreDetermined

pub clash : (n m : ℕ) → n < m → m ≤ n → ⊥
clash n m above below = omega arith

-- forms

no_number : (ws : List Word) (s : Statement) (n : ℕ) → HasForm ws (Parsed s) → DeservesNumber ws n → ⊥
no_number ws s n parsed (inl told) = cc (parsed.0, told)
no_number ws s n parsed (inr (none, inl outside)) = outside.1 (s, parsed.1)
no_number ws s n parsed (inr (none, inr above)) = cc (parsed.2, above.2)

pub same_form : StatementsAreDetermined → (ws : List Word) (f g : Form) → HasForm ws f → HasForm ws g → f ≡ g
same_form law ws (Parsed s) (Parsed t) one other = ap (λ x. Parsed x) (law ws s t one.1 other.1)
same_form law ws (Parsed s) (Number n) one other = absurd (no_number ws s n one other)
same_form law ws (Number n) (Parsed s) one other = absurd (no_number ws s n other one)
same_form law ws (Number n) (Number m) one other = ap (λ x. Number x) (same_number ws n m one other)

-- readings

same_readings : StatementsAreDetermined → (rs : List (List Token)) (xs ys : List Reading) → AreReadings rs xs → AreReadings rs ys → xs ≡ ys
same_readings law [] [] [] one other = refl
same_readings law [] [] (y ∷ ys) one other = absurd other
same_readings law [] (x ∷ xs) ys one other = absurd one
same_readings law (r ∷ rs) [] ys one other = absurd one
same_readings law (r ∷ rs) (x ∷ xs) [] one other = absurd other
same_readings law (r ∷ rs) (x ∷ xs) (y ∷ ys) one other =
    let form = same_form law (words_of r) x.form y.form one.1 other.1 in
    let at = one.0 ∙ sym other.0 in
    let rest = same_readings law rs xs ys one.2 other.2 in
    λ i. record { at = at i; form = form i } ∷ rest i

-- texts

pub same_tree : ReadingIsDetermined → (text : List ℕ) (t u : Tree) → IsRead text t → IsRead text u → t.statements ≡ u.statements
same_tree laws text t u one other =
    let tokens = laws.tokens text one.tokens other.tokens one.are other.are in
    same_readings laws.statements (told (runs one.tokens)) t.statements u.statements one.readings (subst (λ ts. AreReadings (told (runs ts)) u.statements) (sym tokens) other.readings)

bad_at : List Token → ℕ → Refusal
bad_at ts at = record { number = 1; statement = 1 + ended ts; at = at }

same_refusal : ReadingIsDetermined → (text : List ℕ) (r q : Refusal) → IsRefused text r → IsRefused text q → r ≡ q
unfolding bad_at
same_refusal laws text r q (too_long above is) (too_long also also_is) = is ∙ sym also_is
same_refusal laws text r q (too_long above is) (bad_byte us j short other also_is) = absurd (clash text_limit (length text) above short)
same_refusal laws text r q (bad_byte ts i short one is) (too_long above also_is) = absurd (clash text_limit (length text) above short)
same_refusal laws text r q (bad_byte ts i short one is) (bad_byte us j also other also_is) =
    let both = laws.bad_byte text ts us i j one other in
    is ∙ ap (λ xs. bad_at xs i) both.0 ∙ ap (bad_at us) both.1 ∙ sym also_is

pub not_read : ReadingIsDetermined → (text : List ℕ) (r : Refusal) (t : Tree) → IsRefused text r → IsRead text t → ⊥
not_read laws text r t (too_long above is) read = clash text_limit (length text) above read.short
not_read laws text r t (bad_byte ts at short bad is) read = laws.not_both text read.tokens ts at read.are bad

pub at_most_one : ReadingIsDetermined → AtMostOneAnswer
at_most_one laws text a b (unread r one is) (unread q other also) = is ∙ ap (λ x. Refused x) (same_refusal laws text r q one other) ∙ sym also
at_most_one laws text a b (unread r one is) (judgement t read also) = absurd (not_read laws text r t one read)
at_most_one laws text a b (judgement t read is) (unread r other also) = absurd (not_read laws text r t other read)
at_most_one laws text a b (judgement t read is) (judgement u again also) = is ∙ ap (judged empty_stage 1) (same_tree laws text t u read again) ∙ sym also
