-- What each step of a run does to the desk on the way.
use Rattle.std.specs.Prelude.{◌≡◌, ◌≤◌, Bool, true, Result, Ok, Err, ⊤}
use Rattle.sched_base.specs.declared.desk.Failed.{Failed}
use Rattle.sched_base.specs.declared.desk.Port.TheVariants.{Out}
use Rattle.sched_base.specs.State.{State}
use Rattle.sched_base.specs.Calls.{Rose, Writes}
use Rattle.sched_model.specs.Data.{Data}
use Rattle.cpo_elab.specs.Answers.Answer.{Refused as Unfit}
use Rattle.textline.specs.Lines.{Bytes}
use Rattle.logtext.specs.Judgement.{log_bytes}
use Rattle.given_files.specs.declared.stop.GivenStop.TheVariants as given
use Rattle.given_files.specs.Files.{IfFile, HasFile, FileDeserves, ReadsModel}
use Rattle.given_files.specs.code.Reading.{IsFault}
use Rattle.last_plan.specs.declared.ended.Ended.{Ended}
use Rattle.last_plan.specs.declared.plans.Plan.{Plan}
use Rattle.last_plan.specs.declared.stop.PlanStop.{PlanStop}
use Rattle.last_plan.specs.declared.stop.PlanStop.TheVariants.{Given, Refused, TooLong}
use Rattle.last_plan.specs.Plans.{ShowsPlan, PlanMeans}
use Rattle.last_plan.specs.Runs.{PrintsPlan, PrintsPart, ReadsLog, HasNoEnd, HasWrongLine, IsFoundTooLong, IsRefusedAt}

-- only the slot of the log and the count of faults have changed
pub record OnlyReplays (old new : State) : Type 0 where
  pub only : new ≡ record old { log = new.log; faults = new.faults }
  pub later : old.faults ≤ new.faults

-- what the log in a file shows
abbrev pub PlansFile : Data → Bytes → Result Plan PlanStop → State → State → Type 0
PlansFile m log (Ok p) old new = (new.faults ≡ old.faults) × IfFile old log (λ bytes. ShowsPlan m (log_bytes bytes) p × (HasNoEnd m (log_bytes bytes) → ⊥)) × PlanMeans m p × ReadsLog log old new
PlansFile m log (Err (Refused k at)) old new = IfFile old log (λ bytes. HasWrongLine m bytes k at) × ReadsLog log old new
PlansFile m log (Err TooLong) old new = IfFile old log (λ bytes. HasNoEnd m (log_bytes bytes)) × ReadsLog log old new
PlansFile m log (Err (Given given.Fault)) old new = IsFault log old new
PlansFile m log (Err (Given given.NoMemory)) old new = ⊤
PlansFile m log (Err (Given (given.ModelRefused e))) old new = ⊥
PlansFile m log (Err (Given (given.ScheduleRefused e))) old new = ⊥

-- the text was printed, or a front part of it, or nothing
abbrev pub PrintsText : Bytes → Result (Unit {0}) PlanStop → State → State → Type 0
PrintsText text (Ok u) old new = Writes Out text (Ok u) old new
PrintsText text (Err (Given given.Fault)) old new = (e : Failed) × Writes Out text (Err e) old new
PrintsText text (Err (Given given.NoMemory)) old new = new ≡ old
PrintsText text (Err _) old new = ⊥

abbrev pub PlanTried : Bool → Bytes → Bytes → Result Ended PlanStop → State → State → Type 0
PlanTried is_count model log (Ok ended) old new = (new.faults ≡ old.faults) × PrintsPlan is_count model log ended old new × ReadsModel model old new × ReadsLog log old new
PlanTried is_count model log (Err (Refused k at)) old new = (new.out ≡ old.out) × IsRefusedAt model log k at old × ReadsModel model old new × ReadsLog log old new
PlanTried is_count model log (Err TooLong) old new = (new.out ≡ old.out) × IsFoundTooLong model log old × ReadsModel model old new × ReadsLog log old new
PlanTried is_count model log (Err (Given given.Fault)) old new = Rose old.faults new.faults × (old.calm ≡ true → HasFile old model → HasFile old log → ⊥) × PrintsPart is_count model log old new
PlanTried is_count model log (Err (Given given.NoMemory)) old new = new.out ≡ old.out
PlanTried is_count model log (Err (Given (given.ModelRefused e))) old new = (new.out ≡ old.out) × FileDeserves old model (Unfit e) × ReadsModel model old new
PlanTried is_count model log (Err (Given (given.ScheduleRefused e))) old new = ⊥

pub record TriesPlan (is_count : Bool) (model log : Bytes) (result : Result Ended PlanStop) (old new : State) : Type 0 where
  pub only : new ≡ record old { model = new.model; log = new.log; out = new.out; faults = new.faults }
  pub later : old.faults ≤ new.faults
  pub tried : PlanTried is_count model log result old new
