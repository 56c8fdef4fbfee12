-- The exit status of each ending.
use Rattle.std.specs.Prelude.{ℕ, Bool, true, false}
use Rattle.commands.specs.declared.ended.Ended.{Ended}
use Rattle.commands.specs.declared.ended.Ended.TheVariants.{Done, Accepted, Infeasible, Unfinished, Usage, ModelRefused, Fault, LogRefused, ScheduleRefused, NoMemory}

abbrev pub status_of : Ended → ℕ
status_of Done = 0
status_of Accepted = 0
status_of Infeasible = 10
status_of Unfinished = 20
status_of Usage = 2
status_of ModelRefused = 3
status_of Fault = 4
status_of LogRefused = 5
status_of ScheduleRefused = 6
status_of NoMemory = 70

-- the endings of a command that came to its answer
abbrev pub is_success : Ended → Bool
is_success Done = true
is_success Accepted = true
is_success Infeasible = true
is_success Unfinished = true
is_success _ = false
