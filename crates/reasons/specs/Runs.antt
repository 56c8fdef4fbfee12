-- What a run promises: which ending it has, and what it has done to the desk by then.
use Rattle.std.specs.Prelude.{◌≡◌, ◌⊎◌, true, List, [], ◌∷◌, Option, Some, None, drop, IfSome, ⊤}
use Rattle.sched_base.specs.State.{State}
use Rattle.sched_base.specs.Calls.{Rose, appended, AppendedFrom}
use Rattle.sched_model.specs.declared.types.Assignment.{Assignment}
use Rattle.sched_model.specs.Data.{Data}
use Rattle.cpo_text.specs.declared.text.Refusal.{Refusal}
use Rattle.cpo_elab.specs.Answers.Answer.{Accepted, Refused}
use Rattle.textline.specs.Lines.{Bytes}
use Rattle.given_files.specs.declared.stop.ScheduleRefusal.{ScheduleRefusal}
use Rattle.given_files.specs.declared.stop.ScheduleRefusal.TheVariants.{TooLong, Line, Constraint}
use Rattle.given_files.specs.Files.{IfFile, HasFile, FileDeserves, WithinModel, WithinBoth, model_bytes}
use Rattle.given_files.specs.Schedules.{IsVerified, RefusalDue}
use Rattle.given_files.specs.Told.{Tells, Reports, fault_line, memory_line}
use Rattle.reasons.specs.declared.ended.Ended.{Ended}
use Rattle.reasons.specs.declared.ended.Ended.TheVariants as end
use Rattle.reasons.specs.declared.words.Word.{Word}
use Rattle.reasons.specs.declared.sought.Part.{Part}
use Rattle.reasons.specs.Explained.{IsStuckAt, IsStatementOf}
use Rattle.reasons.specs.Texts.{model_text, schedule_text, right_text}
use Rattle.reasons.specs.Told.{usage_line}

-- the model's file holds this text, of which its first 16,777,217 bytes count
abbrev pub HoldsText : Bytes → Bytes → State → Type 0
HoldsText model text s = IfFile s model (λ bytes. text ≡ model_bytes bytes)

-- nothing is refused
abbrev pub IsRight : Bytes → Option Bytes → State → Type 0
IsRight model None s = (m : Data) × FileDeserves s model (Accepted m)
IsRight model (Some schedule) s = (m : Data) × (a : Assignment) × IsVerified model schedule m a s

-- the refusal that the text deserves, told with its statement; in front of the word that is told the statement could go on
pub record ExplainsModel (model told : Bytes) (s : State) : Type 0 where
  pub refusal : Refusal
  pub due : FileDeserves s model (Refused refusal)
  pub text : Bytes
  pub holds : HoldsText model text s
  pub stuck : Option Word
  pub there : IfSome stuck (IsStuckAt (drop refusal.at text))
  pub is : told ≡ model_text text refusal stuck

-- the statement that makes the constraint which doesn't hold
abbrev pub IsPartFor : Bytes → ScheduleRefusal → Option Part → Type 0
IsPartFor text r None = ⊤
IsPartFor text (Constraint c) (Some part) = IsStatementOf text c part
IsPartFor text (Line k) (Some part) = ⊥
IsPartFor text TooLong (Some part) = ⊥

-- the refusal of the schedule that is due, told with that statement
pub record ExplainsSchedule (model schedule told : Bytes) (s : State) : Type 0 where
  pub refusal : ScheduleRefusal
  pub due : RefusalDue model schedule refusal s
  pub text : Bytes
  pub holds : HoldsText model text s
  pub part : Option Part
  pub there : IsPartFor text refusal part
  pub is : told ≡ schedule_text text refusal part

abbrev pub ExplainsGiven : Bytes → Option Bytes → Bytes → State → Type 0
ExplainsGiven model None told s = ⊥
ExplainsGiven model (Some schedule) told s = ExplainsSchedule model schedule told s

-- the text tells what is so, by the ending
abbrev pub Explains : Bytes → Option Bytes → Ended → Bytes → State → Type 0
Explains model schedule end.Done told s = IsRight model schedule s × (told ≡ right_text)
Explains model schedule end.ModelRefused told s = ExplainsModel model told s
Explains model schedule end.ScheduleRefused told s = ExplainsGiven model schedule told s
Explains model schedule _ told s = ⊥

abbrev pub TellsWhy : Bytes → Option Bytes → Ended → State → State → Type 0
TellsWhy model schedule result old new = (new.faults ≡ old.faults) × (new.err ≡ old.err) × ((told : Bytes) × Explains model schedule result told old × (new.out ≡ appended told old.out))

-- nothing was printed, or a front part of such a text
abbrev pub TellsPart : Bytes → Option Bytes → State → State → Type 0
TellsPart model schedule old new = (new.out ≡ old.out) ⊎ ((e : Ended) × (told : Bytes) × Explains model schedule e told old × AppendedFrom told old.out new.out)

abbrev pub HasSchedule : State → Option Bytes → Type 0
HasSchedule s None = ⊤
HasSchedule s (Some schedule) = HasFile s schedule

-- By its ending; no other comes. A fault was counted, and none comes over a calm desk that has the files.
abbrev pub WhyEnds : Bytes → Option Bytes → Ended → State → State → Type 0
WhyEnds model schedule end.Done old new = TellsWhy model schedule end.Done old new
WhyEnds model schedule end.ModelRefused old new = TellsWhy model schedule end.ModelRefused old new
WhyEnds model schedule end.ScheduleRefused old new = TellsWhy model schedule end.ScheduleRefused old new
WhyEnds model schedule end.Fault old new = Rose old.faults new.faults × (old.calm ≡ true → HasFile old model → HasSchedule old schedule → ⊥) × TellsPart model schedule old new × Tells fault_line old new
WhyEnds model schedule end.NoMemory old new = (new.out ≡ old.out) × Tells memory_line old new
WhyEnds model schedule end.Usage old new = ⊥

-- however a run ends, no file was read beyond its bound, and without a schedule none but the model's
abbrev pub WithinFiles : Bytes → Option Bytes → State → State → Type 0
WithinFiles model None old new = WithinModel model old new
WithinFiles model (Some schedule) old new = WithinBoth model schedule old new

pub record WhyPromise (model : Bytes) (schedule : Option Bytes) (result : Ended) (old new : State) : Type 0 where
  -- nothing but these has changed; no log is opened or created
  pub only : new ≡ record old { model = new.model; schedule = new.schedule; out = new.out; err = new.err; faults = new.faults }
  pub within : WithinFiles model schedule old new
  pub ends : WhyEnds model schedule result old new

-- words that are neither one nor two only get their line
abbrev pub Refuses : Ended → State → State → Type 0
Refuses result old new = (result ≡ end.Usage) × Reports usage_line old new

-- the first word names the model's file, the second, where there is one, that of a schedule
abbrev pub Runs : List Bytes → Ended → State → State → Type 0
Runs [] result old new = Refuses result old new
Runs (model ∷ []) result old new = WhyPromise model None result old new
Runs (model ∷ schedule ∷ []) result old new = WhyPromise model (Some schedule) result old new
Runs (model ∷ schedule ∷ word ∷ words) result old new = Refuses result old new
