-- What a run promises: which ending it has, and what it has done to the desk by then.
use Rattle.std.specs.Prelude.{◌≡◌, ◌⊎◌, true, List, [], ◌∷◌}
use Rattle.sched_base.specs.State.{State}
use Rattle.sched_base.specs.Calls.{Rose, appended, AppendedFrom}
use Rattle.sched_model.specs.declared.types.Assignment.{Assignment}
use Rattle.sched_model.specs.Data.{Data}
use Rattle.cpo_text.specs.declared.text.Refusal.{Refusal}
use Rattle.cpo_elab.specs.Answers.Answer.{Refused}
use Rattle.textline.specs.Lines.{Bytes}
use Rattle.svg_page.specs.Page.{IsPage}
use Rattle.given_files.specs.declared.stop.ScheduleRefusal.{ScheduleRefusal}
use Rattle.given_files.specs.Files.{HasFile, FileDeserves, WithinBoth}
use Rattle.given_files.specs.Schedules.{IsVerified, RefusalDue}
use Rattle.given_files.specs.Told.{Tells, Reports, fault_line, memory_line, refusal_line, unfit_line}
use Rattle.gantt.specs.declared.ended.Ended.{Ended}
use Rattle.gantt.specs.declared.ended.Ended.TheVariants as end
use Rattle.gantt.specs.Told.{usage_line}

-- the schedule's file holds a solution of the model that the text of the model's file deserves, and exactly its page was printed
pub record DrawsSchedule (model schedule : Bytes) (old new : State) : Type 0 where
  pub m : Data
  pub a : Assignment
  pub page : Bytes
  pub verified : IsVerified model schedule m a old
  pub drawn : IsPage m a page
  pub printed : new.out ≡ appended page old.out

-- after a fault nothing was printed, or a front part of the page of a schedule that is a solution
abbrev pub DrawsPart : Bytes → Bytes → State → State → Type 0
DrawsPart model schedule old new =
    (new.out ≡ old.out) ⊎ ((m : Data) × (a : Assignment) × (page : Bytes) × IsVerified model schedule m a old × IsPage m a page × AppendedFrom page old.out new.out)

-- By its ending; no other comes. A fault was counted, and none comes over a calm desk that has both files.
abbrev pub DrawEnds : Bytes → Bytes → Ended → State → State → Type 0
DrawEnds model schedule end.Done old new = (new.faults ≡ old.faults) × (new.err ≡ old.err) × DrawsSchedule model schedule old new
DrawEnds model schedule end.ModelRefused old new = (new.out ≡ old.out) × ((r : Refusal) × FileDeserves old model (Refused r) × Tells (refusal_line r) old new)
DrawEnds model schedule end.ScheduleRefused old new = (new.out ≡ old.out) × ((r : ScheduleRefusal) × RefusalDue model schedule r old × Tells (unfit_line r) old new)
DrawEnds model schedule end.Fault old new = Rose old.faults new.faults × (old.calm ≡ true → HasFile old model → HasFile old schedule → ⊥) × DrawsPart model schedule old new × Tells fault_line old new
DrawEnds model schedule end.NoMemory old new = (new.out ≡ old.out) × Tells memory_line old new
DrawEnds model schedule end.Usage old new = ⊥

pub record DrawPromise (model schedule : Bytes) (result : Ended) (old new : State) : Type 0 where
  -- nothing but these has changed; no log is opened or created
  pub only : new ≡ record old { model = new.model; schedule = new.schedule; out = new.out; err = new.err; faults = new.faults }
  -- however the run ends
  pub within : WithinBoth model schedule old new
  pub ends : DrawEnds model schedule result old new

-- words that aren't two only get their line
abbrev pub Refuses : Ended → State → State → Type 0
Refuses result old new = (result ≡ end.Usage) × Reports usage_line old new

-- the first word names the model's file, the second that of the schedule
abbrev pub Runs : List Bytes → Ended → State → State → Type 0
Runs [] result old new = Refuses result old new
Runs (model ∷ []) result old new = Refuses result old new
Runs (model ∷ schedule ∷ []) result old new = DrawPromise model schedule result old new
Runs (model ∷ schedule ∷ word ∷ words) result old new = Refuses result old new
