-- How a stop is told.
use Rattle.std.specs.Prelude.{◌≡◌, ◌⊎◌}
use Rattle.sched_base.specs.State.{State}
use Rattle.textline.specs.Lines.{Bytes}
use Rattle.given_files.specs.declared.stop.GivenStop.{GivenStop}
use Rattle.given_files.specs.declared.stop.GivenStop.TheVariants as stop
use Rattle.given_files.specs.Told.{Reports, fault_line, memory_line, refusal_line, unfit_line}

-- this ending, with this line on standard error, or the ending for want of memory, with the line of that
abbrev pub EndsTold : {E : Type 0} → E → Bytes → E → E → State → State → Type 0
EndsTold wanted text short ended old new = ((ended ≡ wanted) × Reports text old new) ⊎ ((ended ≡ short) × Reports memory_line old new)

-- How a run ends that came to a stop, where each stop has an ending: with its line on standard error, or, where memory was
-- refused for the line, with that of want of memory. A fault is always told. Nothing else has changed.
abbrev pub EndsStopped : {E : Type 0} → (GivenStop → E) → GivenStop → E → State → State → Type 0
EndsStopped ending stop.Fault ended old new = (ended ≡ ending stop.Fault) × Reports fault_line old new
EndsStopped ending stop.NoMemory ended old new = (ended ≡ ending stop.NoMemory) × Reports memory_line old new
EndsStopped ending (stop.ModelRefused r) ended old new = EndsTold (ending (stop.ModelRefused r)) (refusal_line r) (ending stop.NoMemory) ended old new
EndsStopped ending (stop.ScheduleRefused r) ended old new = EndsTold (ending (stop.ScheduleRefused r)) (unfit_line r) (ending stop.NoMemory) ended old new

-- the stop that was told, so
abbrev pub IsTold : GivenStop → GivenStop → State → State → Type 0
IsTold stop told old new = EndsStopped (λ s. s) stop told old new
