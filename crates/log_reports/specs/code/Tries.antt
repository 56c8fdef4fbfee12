-- What each step of a report does to the desk on the way.
use Rattle.std.specs.Prelude.{◌≡◌, ◌≤◌, ◌⊎◌, true, Result, Ok, Err, ⊤}
use Rattle.sched_base.specs.State.{State}
use Rattle.sched_base.specs.Calls.{Rose, appended, AppendedFrom}
use Rattle.sched_model.specs.Data.{Data}
use Rattle.cpo_elab.specs.Answers.Answer.{Refused as Unfit}
use Rattle.textline.specs.Lines.{Bytes}
use Rattle.logtext.specs.Judgement.{log_bytes}
use Rattle.checker.specs.Judgement.{IsRefused, IsTooLong}
use Rattle.given_files.specs.declared.stop.GivenStop.TheVariants as given
use Rattle.given_files.specs.Files.{IfFile, HasFile, FileDeserves, ReadsModel}
use Rattle.given_files.specs.code.Reading.{OnlyReads, IsFault}
use Rattle.log_reports.specs.declared.stop.LogStop.{LogStop}
use Rattle.log_reports.specs.declared.stop.LogStop.TheVariants.{Given, Refused, TooLong}
use Rattle.log_reports.specs.Reports.{Report, PrintsReport, PrintsPart, IsRefusedAt, IsFoundTooLong, ReadsLog}

-- only the slot of the log and the count of faults have changed
pub record OnlyJudges (old new : State) : Type 0 where
  pub only : new ≡ record old { log = new.log; faults = new.faults }
  pub later : old.faults ≤ new.faults

-- what the log in a file is found to be
abbrev pub JudgesFile : {V : Type 0} → Report V → Data → Bytes → Result V LogStop → State → State → Type 0
JudgesFile r m log (Ok v) old new = (new.faults ≡ old.faults) × IfFile old log (λ bytes. r.says m (log_bytes bytes) v × (IsTooLong m (log_bytes bytes) → ⊥)) × r.means m v × ReadsLog log old new
JudgesFile r m log (Err (Refused k)) old new = IfFile old log (λ bytes. IsRefused m (log_bytes bytes) k × (IsTooLong m (log_bytes bytes) → ⊥)) × ReadsLog log old new
JudgesFile r m log (Err TooLong) old new = IfFile old log (λ bytes. IsTooLong m (log_bytes bytes)) × ReadsLog log old new
JudgesFile r m log (Err (Given given.Fault)) old new = IsFault log old new
JudgesFile r m log (Err (Given given.NoMemory)) old new = ⊤
JudgesFile r m log (Err (Given (given.ModelRefused e))) old new = ⊥
JudgesFile r m log (Err (Given (given.ScheduleRefused e))) old new = ⊥

-- this is said of the log in a file of this model, and what that means of the model is so
pub record Said {V : Type 0} (r : Report V) (m : Data) (log : Bytes) (v : V) (s : State) : Type 0 where
  pub judged : IfFile s log (λ bytes. r.says m (log_bytes bytes) v × (IsTooLong m (log_bytes bytes) → ⊥))
  pub means : r.means m v

-- what is told of the log in a file, behind the reading of its model
abbrev pub LogTold : {V : Type 0} → Report V → Data → Bytes → Result (Unit {0}) LogStop → State → State → Type 0
LogTold {V} r m log (Ok u) old new = (new.faults ≡ old.faults) × ((v : V) × Said r m log v old × (new.out ≡ appended (r.text m v) old.out)) × ReadsLog log old new
LogTold {V} r m log (Err (Given given.Fault)) old new = IsFault log old new × ((new.out ≡ old.out) ⊎ ((v : V) × Said r m log v old × AppendedFrom (r.text m v) old.out new.out))
LogTold r m log (Err (Given given.NoMemory)) old new = new.out ≡ old.out
LogTold r m log (Err (Refused k)) old new = (new.out ≡ old.out) × IfFile old log (λ bytes. IsRefused m (log_bytes bytes) k × (IsTooLong m (log_bytes bytes) → ⊥)) × ReadsLog log old new
LogTold r m log (Err TooLong) old new = (new.out ≡ old.out) × IfFile old log (λ bytes. IsTooLong m (log_bytes bytes)) × ReadsLog log old new
LogTold r m log (Err (Given (given.ModelRefused e))) old new = ⊥
LogTold r m log (Err (Given (given.ScheduleRefused e))) old new = ⊥

pub record TellsLog {V : Type 0} (r : Report V) (m : Data) (log : Bytes) (result : Result (Unit {0}) LogStop) (old new : State) : Type 0 where
  pub only : new ≡ record old { log = new.log; out = new.out; faults = new.faults }
  pub later : old.faults ≤ new.faults
  pub told : LogTold r m log result old new

abbrev pub ReportTried : {V : Type 0} → Report V → Bytes → Bytes → Result (Unit {0}) LogStop → State → State → Type 0
ReportTried r model log (Ok u) old new = (new.faults ≡ old.faults) × PrintsReport r model log old new × ReadsModel model old new × ReadsLog log old new
ReportTried r model log (Err (Given given.Fault)) old new = Rose old.faults new.faults × (old.calm ≡ true → HasFile old model → HasFile old log → ⊥) × PrintsPart r model log old new
ReportTried r model log (Err (Given given.NoMemory)) old new = new.out ≡ old.out
ReportTried r model log (Err (Given (given.ModelRefused e))) old new = OnlyReads old new × (new.faults ≡ old.faults) × FileDeserves old model (Unfit e) × ReadsModel model old new
ReportTried r model log (Err (Refused k)) old new = (new.out ≡ old.out) × IsRefusedAt model log k old × ReadsModel model old new × ReadsLog log old new
ReportTried r model log (Err TooLong) old new = (new.out ≡ old.out) × IsFoundTooLong model log old × ReadsModel model old new × ReadsLog log old new
ReportTried r model log (Err (Given (given.ScheduleRefused e))) old new = ⊥

pub record TriesReport {V : Type 0} (r : Report V) (model log : Bytes) (result : Result (Unit {0}) LogStop) (old new : State) : Type 0 where
  pub only : new ≡ record old { model = new.model; log = new.log; out = new.out; faults = new.faults }
  pub later : old.faults ≤ new.faults
  pub tried : ReportTried r model log result old new
