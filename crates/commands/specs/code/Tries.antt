-- What each step of a command does to the desk on the way.
use Rattle.std.specs.Prelude.{◌≡◌, ◌⊎◌, ◌≤◌, true, Result, Ok, Err, ⊤}
use Rattle.sched_base.specs.State.{State, with_log, with_faults}
use Rattle.sched_base.specs.Calls.{Rose, appended, AppendedFrom}
use Rattle.sched_model.specs.declared.types.Solved.{Solved}
use Rattle.sched_model.specs.Data.{Data}
use Rattle.cpo_elab.specs.Answers.Answer.{Accepted, Refused}
use Rattle.cpo_elab.specs.Deserves.{Deserves}
use Rattle.command_line.specs.declared.shop.Shop.{Shop}
use Rattle.textline.specs.Lines.{Bytes}
use Rattle.restart_rules.specs.Restarts.{Limits}
use Rattle.solver.specs.Answers.{IsAnswer}
use Rattle.given_files.specs.declared.stop.GivenStop.{GivenStop}
use Rattle.given_files.specs.declared.stop.GivenStop.TheVariants as given
use Rattle.given_files.specs.Files.{HasFile, FileDeserves, ReadsModel, ReadsSchedule}
use Rattle.given_files.specs.Schedules.{RefusalDue}
use Rattle.given_files.specs.Told.{Reports}
use Rattle.given_files.specs.code.Reading.{OnlyReads, IsFault}
use Rattle.given_files.specs.code.Telling.{EndsTold, EndsStopped as EndsGiven}
use Rattle.commands.specs.declared.ended.Ended.{Ended}
use Rattle.commands.specs.declared.ended.Ended.TheVariants as end
use Rattle.commands.specs.declared.stop.RunStop.{RunStop}
use Rattle.commands.specs.declared.stop.RunStop.TheVariants as stop
use Rattle.commands.specs.Ended.{is_success}
use Rattle.commands.specs.Told.{log_line, too_long_line}
use Rattle.commands.specs.Runs.{Source, SourceDeserves, HasSource, ReadsSource, IsUnread, shop_text, LogPromise, HoldsBegunLog, TellsValues, AnswerPromise, CutShort, ShowsModel, ShowsPart, VerifiesSchedule, VerifiesPart}
use Rattle.commands.specs.code.Stops.{ending_of_stop}

-- Searching with a log.

-- no log was created, or one was begun
abbrev pub BeginsSearch : Data → Bytes → Limits → State → State → Type 0
BeginsSearch m log limits old new = (new ≡ with_faults new.faults old) ⊎ (HoldsBegunLog m limits old.logged new.logged × (new ≡ record old { logged = new.logged; created = true; logs = with_log log old.logs; faults = new.faults }))

abbrev pub Searches : Data → Bytes → Limits → Result Solved RunStop → State → State → Type 0
Searches m log limits (Ok solved) old new = LogPromise m limits solved old.logged new.logged × IsAnswer m solved.answer × (new ≡ record old { logged = new.logged; created = true; logs = with_log log old.logs }) × TellsValues m solved.answer
Searches m log limits (Err (stop.Given given.Fault)) old new = Rose old.faults new.faults × (old.calm ≡ true → ⊥) × (old.faults ≤ new.faults) × BeginsSearch m log limits old new
Searches m log limits (Err (stop.Given given.NoMemory)) old new = (old.faults ≤ new.faults) × BeginsSearch m log limits old new
Searches m log limits (Err _) old new = ⊥

-- the model of a job shop, or why there is none
abbrev pub MakesModel : Shop → Result Data GivenStop → Type 0
MakesModel shop (Ok m) = Deserves (shop_text shop) (Accepted m)
MakesModel shop (Err (given.ModelRefused r)) = Deserves (shop_text shop) (Refused r)
MakesModel shop (Err given.NoMemory) = ⊤
MakesModel shop (Err _) = ⊥

abbrev pub SolveTried : Source → Bytes → Limits → Result Ended RunStop → State → State → Type 0
SolveTried model log limits (Ok ended) old new = (new.faults ≡ old.faults) × (is_success ended ≡ true) × AnswerPromise model log limits ended old new × ReadsSource model old new
SolveTried model log limits (Err (stop.Given given.Fault)) old new = Rose old.faults new.faults × (old.calm ≡ true → HasSource old model → ⊥) × CutShort model log limits old new
SolveTried model log limits (Err (stop.Given given.NoMemory)) old new = (new.out ≡ old.out) × CutShort model log limits old new
SolveTried model log limits (Err (stop.Given (given.ModelRefused r))) old new = OnlyReads old new × (new.faults ≡ old.faults) × SourceDeserves old model (Refused r) × ReadsSource model old new
SolveTried model log limits (Err _) old new = ⊥

pub record TriesSolve (model : Source) (log : Bytes) (limits : Limits) (result : Result Ended RunStop) (old new : State) : Type 0 where
  pub only : new ≡ record old { model = new.model; out = new.out; logged = new.logged; created = new.created; logs = new.logs; faults = new.faults }
  pub unread : IsUnread model old new
  pub later : old.faults ≤ new.faults
  pub tried : SolveTried model log limits result old new

-- Verifying a schedule.

abbrev pub VerifyTried : Bytes → Bytes → Result Ended RunStop → State → State → Type 0
VerifyTried model schedule (Ok ended) old new = (new.faults ≡ old.faults) × (ended ≡ end.Done) × VerifiesSchedule model schedule old new × ReadsModel model old new × ReadsSchedule schedule old new
VerifyTried model schedule (Err (stop.Given given.Fault)) old new = Rose old.faults new.faults × (old.calm ≡ true → HasFile old model → HasFile old schedule → ⊥) × VerifiesPart model schedule old new
VerifyTried model schedule (Err (stop.Given given.NoMemory)) old new = new.out ≡ old.out
VerifyTried model schedule (Err (stop.Given (given.ModelRefused r))) old new = OnlyReads old new × (new.faults ≡ old.faults) × FileDeserves old model (Refused r) × ReadsModel model old new
VerifyTried model schedule (Err (stop.Given (given.ScheduleRefused r))) old new = (new.out ≡ old.out) × RefusalDue model schedule r old × ReadsModel model old new × ReadsSchedule schedule old new
VerifyTried model schedule (Err _) old new = ⊥

pub record TriesVerify (model schedule : Bytes) (result : Result Ended RunStop) (old new : State) : Type 0 where
  pub only : new ≡ record old { model = new.model; schedule = new.schedule; out = new.out; faults = new.faults }
  pub later : old.faults ≤ new.faults
  pub tried : VerifyTried model schedule result old new

-- Showing a model.

abbrev pub ShowTried : Bytes → Result Ended RunStop → State → State → Type 0
ShowTried model (Ok ended) old new = (new.faults ≡ old.faults) × (ended ≡ end.Done) × ShowsModel model old new × ReadsModel model old new
ShowTried model (Err (stop.Given given.Fault)) old new = IsFault model old new × ShowsPart model old new
ShowTried model (Err (stop.Given given.NoMemory)) old new = new.out ≡ old.out
ShowTried model (Err (stop.Given (given.ModelRefused r))) old new = OnlyReads old new × (new.faults ≡ old.faults) × FileDeserves old model (Refused r) × ReadsModel model old new
ShowTried model (Err _) old new = ⊥

pub record TriesShow (model : Bytes) (result : Result Ended RunStop) (old new : State) : Type 0 where
  pub only : new ≡ record old { model = new.model; out = new.out; faults = new.faults }
  pub later : old.faults ≤ new.faults
  pub tried : ShowTried model result old new

-- Printing a generated model.

abbrev pub GenTried : Shop → Result Ended RunStop → State → State → Type 0
GenTried shop (Ok ended) old new = (new.faults ≡ old.faults) × (ended ≡ end.Done) × (new.out ≡ appended (shop_text shop) old.out)
GenTried shop (Err (stop.Given given.Fault)) old new = Rose old.faults new.faults × (old.calm ≡ true → ⊥) × AppendedFrom (shop_text shop) old.out new.out
GenTried shop (Err (stop.Given given.NoMemory)) old new = new.out ≡ old.out
GenTried shop (Err _) old new = ⊥

pub record TriesGen (shop : Shop) (result : Result Ended RunStop) (old new : State) : Type 0 where
  pub only : new ≡ record old { out = new.out; faults = new.faults }
  pub later : old.faults ≤ new.faults
  pub tried : GenTried shop result old new

-- Ending without an answer.

-- how a command ends that came to no answer: with its line on standard error, and nothing else changed
abbrev pub EndsStopped : RunStop → Ended → State → State → Type 0
EndsStopped (stop.Given s) ended old new = EndsGiven ending_of_stop s ended old new
EndsStopped (stop.LogRefused k) ended old new = EndsTold end.LogRefused (log_line k) end.NoMemory ended old new
EndsStopped stop.LogTooLong ended old new = (ended ≡ end.LogRefused) × Reports too_long_line old new
