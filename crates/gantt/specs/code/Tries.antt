-- What reading a model and a schedule and printing its page does to the desk.
use Rattle.std.specs.Prelude.{◌≡◌, ◌≤◌, true, Result, Ok, Err}
use Rattle.sched_base.specs.State.{State}
use Rattle.sched_base.specs.Calls.{Rose}
use Rattle.cpo_elab.specs.Answers.Answer.{Refused}
use Rattle.textline.specs.Lines.{Bytes}
use Rattle.given_files.specs.declared.stop.GivenStop.{GivenStop}
use Rattle.given_files.specs.declared.stop.GivenStop.TheVariants as stop
use Rattle.given_files.specs.Files.{HasFile, FileDeserves}
use Rattle.given_files.specs.Schedules.{RefusalDue}
use Rattle.gantt.specs.Runs.{DrawsSchedule, DrawsPart}

abbrev pub DrawTried : Bytes → Bytes → Result (Unit {0}) GivenStop → State → State → Type 0
DrawTried model schedule (Ok u) old new = (new.faults ≡ old.faults) × DrawsSchedule model schedule old new
DrawTried model schedule (Err stop.Fault) old new = Rose old.faults new.faults × (old.calm ≡ true → HasFile old model → HasFile old schedule → ⊥) × DrawsPart model schedule old new
DrawTried model schedule (Err stop.NoMemory) old new = new.out ≡ old.out
DrawTried model schedule (Err (stop.ModelRefused r)) old new = (new.out ≡ old.out) × FileDeserves old model (Refused r)
DrawTried model schedule (Err (stop.ScheduleRefused r)) old new = (new.out ≡ old.out) × RefusalDue model schedule r old

pub record TriesDraw (model schedule : Bytes) (result : Result (Unit {0}) GivenStop) (old new : State) : Type 0 where
  pub only : new ≡ record old { model = new.model; schedule = new.schedule; out = new.out; faults = new.faults }
  pub later : old.faults ≤ new.faults
  pub tried : DrawTried model schedule result old new
