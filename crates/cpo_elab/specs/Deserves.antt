-- What a text deserves: one refusal, or one model.
use Rattle.std.specs.Prelude.{◌≡◌, ℕ, List, Result, Ok, Err, ⊤}
use Rattle.sched_model.specs.Data.{Data}
use Rattle.cpo_text.specs.Reads.{IsRead, IsRefused}
use Rattle.cpo_text.specs.declared.text.Refusal.{Refusal}
use Rattle.cpo_text.specs.declared.text.ReadFault.{ReadFault}
use Rattle.cpo_text.specs.declared.text.ReadFault.TheVariants as fault
use Rattle.cpo_text.specs.declared.text.Tree.{Tree}
use Rattle.cpo_elab.specs.Stages.{empty_stage}
use Rattle.cpo_elab.specs.Answers.{Answer, judged}
use Rattle.cpo_elab.specs.Answers.Answer.{Refused, Accepted}

-- the refusal of a text that is too long or has a bad byte, or else the judgement of its statements
pub data Deserves (text : List ℕ) (answer : Answer) : Type 0 where
  unread : (r : Refusal) → IsRefused text r → answer ≡ Refused r → Deserves text answer
  judgement : (tree : Tree) → IsRead text tree → answer ≡ judged empty_stage 1 tree.statements → Deserves text answer

-- a call gives an answer that the text deserves, where memory is there
abbrev pub GivesDeserved : List ℕ → Result Data ReadFault → Type 0
GivesDeserved text (Ok m) = Deserves text (Accepted m)
GivesDeserved text (Err (fault.Refused r)) = Deserves text (Refused r)
GivesDeserved text (Err fault.NoMemory) = ⊤
