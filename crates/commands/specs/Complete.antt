-- What a run comes to where nothing goes wrong outside of it.
use Rattle.std.specs.Prelude.{◌≡◌, ◌⊎◌, ℕ, ◌+◌, ◌*◌, ◌<◌, ◌≤◌, true, List, length, Option, Some, None}
use Rattle.sched_base.specs.declared.desk.File.{File}
use Rattle.sched_base.specs.State.{State, bytes_of}
use Rattle.sched_base.specs.Calls.{Rose}
use Rattle.region.specs.Points.{budget_of}
use Rattle.sched_model.specs.declared.types.Assignment.{Assignment}
use Rattle.sched_model.specs.declared.types.Verdict.{Verdict}
use Rattle.sched_model.specs.Data.{Data}
use Rattle.sched_model.specs.Solution.{IsSolution}
use Rattle.cpo_elab.specs.Answers.Answer.{Accepted}
use Rattle.cpo_elab.specs.Deserves.{Deserves}
use Rattle.command_line.specs.Commands.{Command, Solve, Check, Verify, Show, Gen, Trial, Bound, Core, command_of}
use Rattle.textline.specs.Lines.{Bytes}
use Rattle.logtext.specs.Judgement.{log_limit}
use Rattle.checker.specs.Judgement.{IsAccepted}
use Rattle.restart_rules.specs.Restarts.{Limits, limits_of}
use Rattle.given_files.specs.Files.{model_bytes}
use Rattle.given_files.specs.Schedules.{SpellsWithin}
use Rattle.commands.specs.declared.ended.Ended.{Ended}
use Rattle.commands.specs.declared.ended.Ended.TheVariants as end
use Rattle.commands.specs.Runs.{Source, shop_text, HasFiles, Runs}
use Rattle.commands.specs.Runs.Source.{file, generated}

-- no fault was counted, or the desk is calm and has the files which the command reads; and memory was there
pub record GoesWell (command : Option Command) (result : Ended) (old new : State) : Type 0 where
  pub outside : (Rose old.faults new.faults → ⊥) ⊎ ((old.calm ≡ true) × HasFiles command old)
  pub memory : result ≡ end.NoMemory → ⊥

-- the desk tells its files, this one is there, and this holds of its bytes
pub record HasBytes (s : State) (name : Bytes) (P : Bytes → Type 0) : Type 0 where
  pub files : List File
  pub bytes : Bytes
  pub told : s.files ≡ Some files
  pub there : bytes_of files name ≡ Some bytes
  pub holds : P bytes

-- the text is there, and deserves this model
abbrev pub HasModel : State → Source → Data → Type 0
HasModel s (file name) m = HasBytes s name (λ bytes. Deserves (model_bytes bytes) (Accepted m))
HasModel s (generated shop) m = Deserves (shop_text shop) (Accepted m)

-- a whole log of the model is there, of at most 2^62 bytes
pub record HasWholeLog (s : State) (log : Bytes) (m : Data) : Type 0 where
  pub verdict : Verdict
  pub nodes : ℕ
  pub there : HasBytes s log (λ bytes. (length bytes ≤ log_limit) × IsAccepted m bytes verdict nodes)

-- a schedule text within its limit is there, and spells a solution of the model
pub record HasSchedule (s : State) (schedule : Bytes) (m : Data) : Type 0 where
  pub spelled : Assignment
  pub solves : IsSolution m spelled
  pub there : HasBytes s schedule (λ bytes. SpellsWithin m bytes spelled)

-- a search ends in an answer, and unfinished only with a limit below the budget of the model and the restarts
pub data IsAnswered (m : Data) (limits : Limits) (result : Ended) : Type 0 where
  done : result ≡ end.Done → IsAnswered m limits result
  infeasible : result ≡ end.Infeasible → IsAnswered m limits result
  unfinished : result ≡ end.Unfinished → limits.nodes < (limits.restarts + 1) * budget_of m → IsAnswered m limits result

-- the answer that a command comes to, where what it reads is as it should be
abbrev pub Completes : Option Command → Ended → State → Type 0
Completes None result s = result ≡ end.Usage
Completes (Some (Solve model log nodes restarts)) result s = (m : Data) → HasModel s (file model) m → IsAnswered m (limits_of nodes restarts) result
Completes (Some (Trial shop log nodes restarts)) result s = (m : Data) → HasModel s (generated shop) m → IsAnswered m (limits_of nodes restarts) result
Completes (Some (Check model log)) result s = (m : Data) → HasModel s (file model) m → HasWholeLog s log m → result ≡ end.Accepted
Completes (Some (Bound model log)) result s = (m : Data) → HasModel s (file model) m → HasWholeLog s log m → result ≡ end.Done
Completes (Some (Core model log)) result s = (m : Data) → HasModel s (file model) m → HasWholeLog s log m → result ≡ end.Done
Completes (Some (Verify model schedule)) result s = (m : Data) → HasModel s (file model) m → HasSchedule s schedule m → result ≡ end.Done
Completes (Some (Show model)) result s = (m : Data) → HasModel s (file model) m → result ≡ end.Done
Completes (Some (Gen shop)) result s = result ≡ end.Done

-- what keeps the promise of a run comes to it
abbrev pub RunsAreComplete : Type 0
RunsAreComplete = (words : List Bytes) (result : Ended) (old new : State) → Runs words result old new → GoesWell (command_of words) result old new → Completes (command_of words) result old
