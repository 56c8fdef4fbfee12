-- What is reported of a log, where the files of a desk hold it and its model.
use Rattle.std.specs.Prelude.{◌≡◌, ◌⊎◌, ℕ, ◌+◌, List, Option, IfSome}
use Rattle.sched_base.specs.declared.ids.Con.{Con}
use Rattle.sched_base.specs.State.{State}
use Rattle.sched_base.specs.Calls.{appended, ReadsAtMost, AppendedFrom}
use Rattle.sched_model.specs.Data.{Data}
use Rattle.cpo_elab.specs.Answers.Answer.{Accepted}
use Rattle.textline.specs.Lines.{Bytes}
use Rattle.kernel.specs.Promises.{Means}
use Rattle.sched_text.specs.Answers.{check_text}
use Rattle.logtext.specs.Judgement.{log_limit, log_bytes}
use Rattle.checker.specs.declared.judging.Checked.{Checked}
use Rattle.checker.specs.Checking.{Accepts}
use Rattle.checker.specs.Judgement.{IsRefused, IsTooLong}
use Rattle.bound_report.specs.declared.bounding.Bounded.{Bounded}
use Rattle.bound_report.specs.Bounds.{ShowsBound, BoundMeans}
use Rattle.conflict.specs.Core.{ShowsCore, CantAllHold}
use Rattle.given_files.specs.Files.{IfFile, FileDeserves, file_of}
use Rattle.log_reports.specs.Texts.{bound_text, core_text}

-- what is said of the bytes of a whole log of a model, what that means of the model, and the text that says it
pub record Report (V : Type 0) : Type 1 where
  pub says : Data → Bytes → V → Type 0
  pub means : Data → V → Type 0
  pub text : Data → V → Bytes

-- that they are accepted, with which verdict and count of nodes
abbrev pub check_report : Report Checked
check_report = record { says = Accepts; means = λ m c. Means m c.verdict; text = λ m c. check_text m c.verdict c.nodes }

-- what they show of the best value
abbrev pub bound_report : Report Bounded
bound_report = record { says = ShowsBound; means = BoundMeans; text = bound_text }

-- which constraints they use, if they show that there is no solution
abbrev pub core_report : Report (Option (List Con))
core_report = record { says = ShowsCore; means = λ m core. IfSome core (CantAllHold m); text = λ m core. core_text core }

-- The log in its file is a whole log of the model that the text deserves. This is said of it, and what that means of the
-- model is so, whoever wrote the log.
pub record TellsOfLog {V : Type 0} (r : Report V) (model log : Bytes) (v : V) (s : State) : Type 0 where
  pub m : Data
  pub deserved : FileDeserves s model (Accepted m)
  pub judged : IfFile s log (λ bytes. r.says m (log_bytes bytes) v × (IsTooLong m (log_bytes bytes) → ⊥))
  pub means : r.means m v

-- and exactly the text that says it was printed
pub record PrintsReport {V : Type 0} (r : Report V) (model log : Bytes) (old new : State) : Type 0 where
  pub said : V
  pub tells : TellsOfLog r model log said old
  pub printed : new.out ≡ appended (r.text tells.m said) old.out

-- nothing was printed, or a front part of that text
abbrev pub PrintsPart : {V : Type 0} → Report V → Bytes → Bytes → State → State → Type 0
PrintsPart {V} r model log old new = (new.out ≡ old.out) ⊎ ((v : V) × (t : TellsOfLog r model log v old) × AppendedFrom (r.text t.m v) old.out new.out)

-- the first line of the log that is wrong or missing is this one
abbrev pub IsRefusedAt : Bytes → Bytes → ℕ → State → Type 0
IsRefusedAt model log k s = (m : Data) × FileDeserves s model (Accepted m) × IfFile s log (λ bytes. IsRefused m (log_bytes bytes) k × (IsTooLong m (log_bytes bytes) → ⊥))

-- the log is too long without a line that is wrong
abbrev pub IsFoundTooLong : Bytes → Bytes → State → Type 0
IsFoundTooLong model log s = (m : Data) × FileDeserves s model (Accepted m) × IfFile s log (λ bytes. IsTooLong m (log_bytes bytes))

-- of the file of this name, where the desk tells its files and this one is there, one byte beyond the log's limit of 2^62 was
-- read at most, and the others are left in its slot
abbrev pub ReadsLog : Bytes → State → State → Type 0
ReadsLog name old new = ReadsAtMost (log_limit + 1) (file_of old name) new.log.left

-- however a run ends: nothing was read from the slot of the log, or no more of the file than that
abbrev pub WithinLog : Bytes → State → State → Type 0
WithinLog name old new = (new.log ≡ old.log) ⊎ ReadsLog name old new
