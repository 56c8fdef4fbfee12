-- What a call gives is what the text deserves.
use Rattle.std.proofs.Common.{ℕ, List, Result, Ok, Err, refl, sym}
use Rattle.sched_model.specs.Data.{Data}
use Rattle.cpo_elab.specs.Stages.{empty_stage}
use Rattle.cpo_text.specs.Reads.{IsRead, Reads}
use Rattle.cpo_text.specs.declared.text.ReadFault.{ReadFault}
use Rattle.cpo_text.specs.declared.text.ReadFault.TheVariants as fault
use Rattle.cpo_text.specs.declared.text.Tree.{Tree}
use Rattle.cpo_elab.specs.Answers.{judged, Gives}
use Rattle.cpo_elab.specs.Deserves.{GivesDeserved}
use Rattle.cpo_elab.specs.Deserves.Deserves.{unread, judgement}

pub given_tree : (text : List ℕ) (tree : Tree) (result : Result Data ReadFault) → IsRead text tree → Gives result (judged empty_stage 1 tree.statements) → GivesDeserved text result
given_tree text tree (Ok m) read gives = judgement tree read (sym gives)
given_tree text tree (Err (fault.Refused r)) read gives = judgement tree read (sym gives)
given_tree text tree (Err fault.NoMemory) read gives = tt

pub given_fault : (text : List ℕ) (f : ReadFault) → Reads text (Err f) → GivesDeserved text (Err f)
given_fault text (fault.Refused r) refused = unread r refused refl
given_fault text fault.NoMemory refused = tt
