-- What a run promises: which ending it has, and what it has done to the desk by then.
use Rattle.std.specs.Prelude.{◌≡◌, ◌⊎◌, ℕ, ◌+◌, Bool, true, false, List, [], ◌∷◌, Some, None, codes, bytes_eq}
use Rattle.sched_base.specs.State.{State}
use Rattle.sched_base.specs.Calls.{Rose, ReadsAtMost, appended, AppendedFrom}
use Rattle.sched_model.specs.declared.types.Answer.{Answer}
use Rattle.sched_model.specs.declared.types.Answer.TheVariants as answer
use Rattle.sched_model.specs.Data.{Data}
use Rattle.cpo_text.specs.declared.text.Refusal.{Refusal}
use Rattle.cpo_elab.specs.Answers.Answer.{Accepted, Refused}
use Rattle.textline.specs.Lines.{Bytes}
use Rattle.logtext.specs.Extra.{log_refutes, log_numbers, log_valid}
use Rattle.logtext.specs.Judgement.{IsRefused, IsTooLong, log_bytes, log_limit}
use Rattle.replay.specs.Replaying.{IsCutLog, BeginsAt}
use Rattle.given_files.specs.Files.{IfFile, HasFile, FileDeserves, ReadsModel, WithinModel, file_of}
use Rattle.given_files.specs.Told.{Tells, Reports, fault_line, memory_line, refusal_line}
use Rattle.last_plan.specs.declared.ended.Ended.{Ended}
use Rattle.last_plan.specs.declared.ended.Ended.TheVariants as end
use Rattle.last_plan.specs.declared.plans.Plan.{Plan}
use Rattle.last_plan.specs.Plans.{ShowsPlan, PlanMeans}
use Rattle.last_plan.specs.Texts.{plan_text}
use Rattle.last_plan.specs.Told.{usage_line, log_line, too_long_line}

-- the judgement of logs, as `check` has it
abbrev pub IsWrongAt : Data → Bytes → ℕ → Type 0
IsWrongAt m bytes k = IsRefused log_refutes log_numbers log_valid m bytes k

abbrev pub HasNoEnd : Data → Bytes → Type 0
HasNoEnd m bytes = IsTooLong log_refutes log_numbers log_valid m bytes

-- of the log's file one byte beyond its limit of 2^62 was read at most, and the others are left in its slot
abbrev pub ReadsLog : Bytes → State → State → Type 0
ReadsLog name old new = ReadsAtMost (log_limit + 1) (file_of old name) new.log.left

-- however a run ends: nothing was read from the slot of the log, or no more of the file than that
abbrev pub WithinLog : Bytes → State → State → Type 0
WithinLog name old new = (new.log ≡ old.log) ⊎ ReadsLog name old new

-- The log's file holds a log of the model that the text of the model's file deserves, whole, or cut behind its last whole line.
-- This is told of it, and what that means of the model is so, whoever wrote the log.
pub record TellsPlan (model log : Bytes) (m : Data) (p : Plan) (s : State) : Type 0 where
  pub deserved : FileDeserves s model (Accepted m)
  pub shows : IfFile s log (λ bytes. ShowsPlan m (log_bytes bytes) p × (HasNoEnd m (log_bytes bytes) → ⊥))
  pub means : PlanMeans m p

-- the ending tells whether there is a schedule
abbrev pub ending_of : Answer → Ended
ending_of (answer.Optimal v a) = end.Done
ending_of (answer.Feasible a) = end.Done
ending_of answer.Infeasible = end.Infeasible
ending_of (answer.Unfinished (Some va)) = end.Done
ending_of (answer.Unfinished None) = end.NoSchedule

-- exactly the text that says it was printed
pub record PrintsPlan (is_count : Bool) (model log : Bytes) (result : Ended) (old new : State) : Type 0 where
  pub m : Data
  pub plan : Plan
  pub tells : TellsPlan model log m plan old
  pub printed : new.out ≡ appended (plan_text is_count m plan) old.out
  pub ending : result ≡ ending_of plan.solved.answer

-- nothing was printed, or a front part of that text
abbrev pub PrintsPart : Bool → Bytes → Bytes → State → State → Type 0
PrintsPart is_count model log old new =
    (new.out ≡ old.out) ⊎ ((m : Data) × (plan : Plan) × TellsPlan model log m plan old × AppendedFrom (plan_text is_count m plan) old.out new.out)

-- line k is the first that is wrong, or missing where it is the first of all, and begins at this byte; the bytes are no log that
-- was cut
abbrev pub HasWrongLine : Data → Bytes → ℕ → ℕ → Type 0
HasWrongLine m bytes k at = IsWrongAt m (log_bytes bytes) k × (HasNoEnd m (log_bytes bytes) → ⊥) × (IsCutLog log_refutes log_numbers log_valid m (log_bytes bytes) → ⊥) × BeginsAt k at bytes

abbrev pub IsRefusedAt : Bytes → Bytes → ℕ → ℕ → State → Type 0
IsRefusedAt model log k at s = (m : Data) × FileDeserves s model (Accepted m) × IfFile s log (λ bytes. HasWrongLine m bytes k at)

-- the log is too long without a line that is wrong
abbrev pub IsFoundTooLong : Bytes → Bytes → State → Type 0
IsFoundTooLong model log s = (m : Data) × FileDeserves s model (Accepted m) × IfFile s log (λ bytes. HasNoEnd m (log_bytes bytes))

-- why the log is refused, which is told
abbrev pub RefusesLog : Bytes → Bytes → State → State → Type 0
RefusesLog model log old new = ((k : ℕ) × (at : ℕ) × IsRefusedAt model log k at old × Tells (log_line k at) old new) ⊎ (IsFoundTooLong model log old × Tells too_long_line old new)

abbrev pub IsTold : Bool → Bytes → Bytes → Ended → State → State → Type 0
IsTold is_count model log result old new = (new.faults ≡ old.faults) × (new.err ≡ old.err) × PrintsPlan is_count model log result old new × ReadsModel model old new × ReadsLog log old new

-- By its ending; no other comes. A fault was counted, and none comes over a calm desk that has both files.
abbrev pub PlanEnds : Bool → Bytes → Bytes → Ended → State → State → Type 0
PlanEnds is_count model log end.Done old new = IsTold is_count model log end.Done old new
PlanEnds is_count model log end.Infeasible old new = IsTold is_count model log end.Infeasible old new
PlanEnds is_count model log end.NoSchedule old new = IsTold is_count model log end.NoSchedule old new
PlanEnds is_count model log end.ModelRefused old new = (new.out ≡ old.out) × ReadsModel model old new × ((r : Refusal) × FileDeserves old model (Refused r) × Tells (refusal_line r) old new)
PlanEnds is_count model log end.LogRefused old new = (new.out ≡ old.out) × ReadsModel model old new × ReadsLog log old new × RefusesLog model log old new
PlanEnds is_count model log end.Fault old new = Rose old.faults new.faults × (old.calm ≡ true → HasFile old model → HasFile old log → ⊥) × PrintsPart is_count model log old new × Tells fault_line old new
PlanEnds is_count model log end.NoMemory old new = (new.out ≡ old.out) × Tells memory_line old new
PlanEnds is_count model log end.Usage old new = ⊥

pub record PlanPromise (is_count : Bool) (model log : Bytes) (result : Ended) (old new : State) : Type 0 where
  -- nothing but these has changed; no log is created
  pub only : new ≡ record old { model = new.model; log = new.log; out = new.out; err = new.err; faults = new.faults }
  -- however the run ends, neither file was read beyond its bound
  pub within : WithinModel model old new × WithinLog log old new
  pub ends : PlanEnds is_count model log result old new

-- words that aren't right only get their line
abbrev pub Refuses : Ended → State → State → Type 0
Refuses result old new = (result ≡ end.Usage) × Reports usage_line old new

-- the first word names the model's file, the second that of the log
abbrev pub Takes : Bool → List Bytes → Ended → State → State → Type 0
Takes is_count [] result old new = Refuses result old new
Takes is_count (model ∷ []) result old new = Refuses result old new
Takes is_count (model ∷ log ∷ []) result old new = PlanPromise is_count model log result old new
Takes is_count (model ∷ log ∷ word ∷ words) result old new = Refuses result old new

abbrev pub is_option : Bytes → Bool
is_option word = bytes_eq word (codes "--count")

abbrev pub Behind : Bool → Bytes → List Bytes → Ended → State → State → Type 0
Behind true word words result old new = Takes true words result old new
Behind false word words result old new = Takes false (word ∷ words) result old new

-- the option may stand in front of them
abbrev pub Runs : List Bytes → Ended → State → State → Type 0
Runs [] result old new = Refuses result old new
Runs (word ∷ words) result old new = Behind (is_option word) word words result old new
