-- What each step of a run does on the way.
use Rattle.std.specs.Prelude.{◌≡◌, ◌⊎◌, ◌≤◌, ℕ, List, true, drop, Option, Result, Ok, Err, IfSome, ⊤}
use Rattle.sched_base.specs.declared.desk.Failed.{Failed}
use Rattle.sched_base.specs.declared.desk.Port.TheVariants.{Out}
use Rattle.sched_base.specs.State.{State}
use Rattle.sched_base.specs.Calls.{Rose, Writes, appended}
use Rattle.sched_model.specs.declared.types.Assignment.{Assignment}
use Rattle.sched_model.specs.Data.{Data}
use Rattle.sched_model.specs.Solution.{IsSolution}
use Rattle.cpo_text.specs.declared.text.Refusal.{Refusal}
use Rattle.textline.specs.Lines.{Bytes}
use Rattle.given_files.specs.declared.stop.ScheduleRefusal.{ScheduleRefusal}
use Rattle.given_files.specs.declared.stop.GivenStop.{GivenStop}
use Rattle.given_files.specs.declared.stop.GivenStop.TheVariants as stop
use Rattle.given_files.specs.Files.{IfFile, HasFile}
use Rattle.given_files.specs.Schedules.{SpellsWithin, IsUnfit}
use Rattle.given_files.specs.code.Reading.{IsFault}
use Rattle.reasons.specs.declared.ended.Ended.{Ended}
use Rattle.reasons.specs.declared.ended.Ended.TheVariants as end
use Rattle.reasons.specs.declared.explaining.Explained.{Explained}
use Rattle.reasons.specs.declared.words.Word.{Word}
use Rattle.reasons.specs.declared.sought.Part.{Part}
use Rattle.reasons.specs.Explained.{IsStuckAt}
use Rattle.reasons.specs.Texts.{model_text, right_text, schedule_text}
use Rattle.reasons.specs.Runs.{Explains, HasSchedule, HoldsText, IsPartFor, TellsPart}

-- the text in the model's file
abbrev pub FetchesText : Bytes → Result (List ℕ) GivenStop → State → State → Type 0
FetchesText name (Ok bytes) old new = (new.faults ≡ old.faults) × HoldsText name bytes old
FetchesText name (Err stop.Fault) old new = IsFault name old new
FetchesText name (Err stop.NoMemory) old new = ⊤
FetchesText name (Err _) old new = ⊥

-- what is told of a model's text
abbrev pub OfModel : Bytes → Refusal → Result Explained GivenStop → Type 0
OfModel text r (Ok x) = (x.ended ≡ end.ModelRefused) × ((stuck : Option Word) × IfSome stuck (IsStuckAt (drop r.at text)) × (x.text ≡ model_text text r stuck))
OfModel text r (Err stop.NoMemory) = ⊤
OfModel text r (Err _) = ⊥

-- and of a schedule
abbrev pub OfSchedule : Bytes → ScheduleRefusal → Result Explained GivenStop → Type 0
OfSchedule text r (Ok x) = (x.ended ≡ end.ScheduleRefused) × ((part : Option Part) × IsPartFor text r part × (x.text ≡ schedule_text text r part))
OfSchedule text r (Err stop.NoMemory) = ⊤
OfSchedule text r (Err _) = ⊥

-- where nothing is refused
abbrev pub OfRight : Result Explained GivenStop → Type 0
OfRight (Ok x) = (x.ended ≡ end.Done) × (x.text ≡ right_text)
OfRight (Err stop.NoMemory) = ⊤
OfRight (Err _) = ⊥

-- and where a schedule wasn't found to be a solution
abbrev pub OfStop : Bytes → GivenStop → Result Explained GivenStop → Type 0
OfStop text (stop.ScheduleRefused r) result = OfSchedule text r result
OfStop text why result = result ≡ Err why

-- only the slots of the two files and the count of faults have changed
pub record OnlyLooks (old new : State) : Type 0 where
  pub only : new ≡ record old { model = new.model; schedule = new.schedule; faults = new.faults }
  pub later : old.faults ≤ new.faults

abbrev pub ExplainTried : Bytes → Option Bytes → Result Explained GivenStop → State → State → Type 0
ExplainTried model schedule (Ok x) old new = (new.faults ≡ old.faults) × Explains model schedule x.ended x.text old
ExplainTried model schedule (Err stop.Fault) old new = Rose old.faults new.faults × (old.calm ≡ true → HasFile old model → HasSchedule old schedule → ⊥)
ExplainTried model schedule (Err stop.NoMemory) old new = ⊤
ExplainTried model schedule (Err _) old new = ⊥

abbrev pub WhyTried : Bytes → Option Bytes → Result Ended GivenStop → State → State → Type 0
WhyTried model schedule (Ok e) old new = (new.faults ≡ old.faults) × ((told : Bytes) × Explains model schedule e told old × (new.out ≡ appended told old.out))
WhyTried model schedule (Err stop.Fault) old new = Rose old.faults new.faults × (old.calm ≡ true → HasFile old model → HasSchedule old schedule → ⊥) × TellsPart model schedule old new
WhyTried model schedule (Err stop.NoMemory) old new = new.out ≡ old.out
WhyTried model schedule (Err _) old new = ⊥

pub record TriesWhy (model : Bytes) (schedule : Option Bytes) (result : Result Ended GivenStop) (old new : State) : Type 0 where
  pub only : new ≡ record old { model = new.model; schedule = new.schedule; out = new.out; faults = new.faults }
  pub later : old.faults ≤ new.faults
  pub tried : WhyTried model schedule result old new

-- what a schedule in a file is found to be, and what is told of it
abbrev pub FindsOf : Data → Bytes → Bytes → Explained → State → Type 0
FindsOf m text schedule x s =
    ((x.ended ≡ end.Done) × (x.text ≡ right_text) × ((a : Assignment) × IfFile s schedule (λ bytes. SpellsWithin m bytes a) × IsSolution m a))
    ⊎ ((x.ended ≡ end.ScheduleRefused) × ((r : ScheduleRefusal) × (part : Option Part) × IfFile s schedule (λ bytes. IsUnfit m bytes r) × IsPartFor text r part × (x.text ≡ schedule_text text r part)))

-- of a schedule in a file, where the model has this text
abbrev pub Tested : Data → Bytes → Bytes → Result Explained GivenStop → State → State → Type 0
Tested m text schedule (Ok x) old new = (new.faults ≡ old.faults) × FindsOf m text schedule x old
Tested m text schedule (Err stop.Fault) old new = IsFault schedule old new
Tested m text schedule (Err stop.NoMemory) old new = ⊤
Tested m text schedule (Err _) old new = ⊥

-- the text was printed, or a front part of it
abbrev pub PrintsIt : Explained → Result Ended GivenStop → State → State → Type 0
PrintsIt x (Ok e) old new = (e ≡ x.ended) × ((u : Unit {0}) × Writes Out x.text (Ok u) old new)
PrintsIt x (Err stop.Fault) old new = (e : Failed) × Writes Out x.text (Err e) old new
PrintsIt x (Err _) old new = ⊥
