-- The judgement of the statements of a text: the first refusal, or the model of them all.
use Rattle.std.specs.Prelude.{◌≡◌, ℕ, ◌+◌, List, [], ◌∷◌, Option, Some, None, Result, Ok, Err, ⊤}
use Rattle.sched_model.specs.Data.{Data}
use Rattle.cpo_text.specs.declared.text.Form.{Form}
use Rattle.cpo_text.specs.declared.text.Form.TheVariants.{Tree as Parsed, Number}
use Rattle.cpo_text.specs.declared.text.Reading.{Reading}
use Rattle.cpo_text.specs.declared.text.Refusal.{Refusal}
use Rattle.cpo_text.specs.declared.text.ReadFault.{ReadFault}
use Rattle.cpo_text.specs.declared.text.ReadFault.TheVariants as fault
use Rattle.cpo_elab.specs.Judged.{number_in}
use Rattle.cpo_elab.specs.Stages.{Stage, reached}
use Rattle.cpo_elab.specs.NamedFirst.{named_first}

-- what a text deserves
pub data Answer : Type 0 where
  Refused : Refusal → Answer
  Accepted : Data → Answer

abbrev pub refusal : ℕ → ℕ → ℕ → Answer
refusal n k at = Refused (record { number = n; statement = k; at = at })

abbrev pub number_at : Stage → ℕ → Form → Option ℕ
number_at st k (Parsed s) = number_in st k s
number_at st k (Number n) = Some n

abbrev pub after_form : Stage → Form → Stage
after_form st (Parsed s) = reached st s
after_form st (Number n) = st

abbrev pub refused_or : Option ℕ → ℕ → ℕ → Answer → Answer
refused_or None k at answer = answer
refused_or (Some n) k at answer = refusal n k at

-- the first statement that deserves a number, or the model with them all, in which named sequences and functions stand in front;
-- the first statement here is the k-th of the text
abbrev pub judged : Stage → ℕ → List Reading → Answer
judged st k [] = Accepted (named_first st.model)
judged st k (x ∷ xs) = refused_or (number_at st k x.form) k x.at (judged (after_form st x.form) (k + 1) xs)

-- a call gives this answer, where memory is there
abbrev pub Gives : Result Data ReadFault → Answer → Type 0
Gives (Ok m) answer = answer ≡ Accepted m
Gives (Err (fault.Refused r)) answer = answer ≡ Refused r
Gives (Err fault.NoMemory) answer = ⊤
