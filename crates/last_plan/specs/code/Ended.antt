-- The exit status of each ending, and the ending of each stop.
use Rattle.std.specs.Prelude.{◌≡◌, ℕ}
use Rattle.sched_base.specs.State.{State}
use Rattle.given_files.specs.declared.stop.GivenStop.{GivenStop}
use Rattle.given_files.specs.declared.stop.GivenStop.TheVariants as given
use Rattle.given_files.specs.Told.{Reports}
use Rattle.given_files.specs.code.Telling.{EndsTold, EndsStopped as EndsGiven}
use Rattle.last_plan.specs.declared.ended.Ended.{Ended}
use Rattle.last_plan.specs.declared.ended.Ended.TheVariants.{Done, Infeasible, NoSchedule, Usage, ModelRefused, Fault, LogRefused, NoMemory}
use Rattle.last_plan.specs.declared.stop.PlanStop.{PlanStop}
use Rattle.last_plan.specs.declared.stop.PlanStop.TheVariants.{Given, Refused, TooLong}
use Rattle.last_plan.specs.Told.{log_line, too_long_line}

abbrev pub status_of : Ended → ℕ
status_of Done = 0
status_of Infeasible = 10
status_of NoSchedule = 20
status_of Usage = 2
status_of ModelRefused = 3
status_of Fault = 4
status_of LogRefused = 5
status_of NoMemory = 70

abbrev pub ending_of_given : GivenStop → Ended
ending_of_given given.Fault = Fault
ending_of_given given.NoMemory = NoMemory
ending_of_given (given.ModelRefused r) = ModelRefused
ending_of_given (given.ScheduleRefused r) = LogRefused

-- the ending of a stop, with its line
abbrev pub EndsStopped : PlanStop → Ended → State → State → Type 0
EndsStopped (Given why) ended old new = EndsGiven ending_of_given why ended old new
EndsStopped (Refused k at) ended old new = EndsTold LogRefused (log_line k at) NoMemory ended old new
EndsStopped TooLong ended old new = (ended ≡ LogRefused) × Reports too_long_line old new
