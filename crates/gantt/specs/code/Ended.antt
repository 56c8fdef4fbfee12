-- The exit status of each ending, and the ending of each stop.
use Rattle.std.specs.Prelude.{ℕ}
use Rattle.given_files.specs.declared.stop.GivenStop.{GivenStop}
use Rattle.given_files.specs.declared.stop.GivenStop.TheVariants as stop
use Rattle.gantt.specs.declared.ended.Ended.{Ended}
use Rattle.gantt.specs.declared.ended.Ended.TheVariants.{Done, Usage, ModelRefused, Fault, ScheduleRefused, NoMemory}

abbrev pub status_of : Ended → ℕ
status_of Done = 0
status_of Usage = 2
status_of ModelRefused = 3
status_of Fault = 4
status_of ScheduleRefused = 6
status_of NoMemory = 70

abbrev pub ending_of_stop : GivenStop → Ended
ending_of_stop stop.Fault = Fault
ending_of_stop stop.NoMemory = NoMemory
ending_of_stop (stop.ModelRefused r) = ModelRefused
ending_of_stop (stop.ScheduleRefused r) = ScheduleRefused
