-- What testing the schedule in a file does to the desk.
use Rattle.std.specs.Prelude.{◌≡◌, ℕ, ◌+◌, ◌≤◌, List, Option, Some, None, Result, Ok, Err, ⊤, take}
use Rattle.sched_base.specs.State.{State}
use Rattle.sched_model.specs.declared.types.Assignment.{Assignment}
use Rattle.sched_model.specs.Data.{Data}
use Rattle.sched_model.specs.Solution.{IsSolution}
use Rattle.textline.specs.Lines.{Bytes}
use Rattle.given_files.specs.declared.stop.GivenStop.{GivenStop}
use Rattle.given_files.specs.declared.stop.GivenStop.TheVariants as stop
use Rattle.given_files.specs.Files.{IfFile, schedule_limit, ReadsSchedule}
use Rattle.given_files.specs.Schedules.{SpellsWithin, FailsFirst, IsUnfit}
use Rattle.given_files.specs.code.Reading.{IsFault}

-- only the slot of the schedule and the count of faults have changed
pub record OnlyTests (old new : State) : Type 0 where
  pub only : new ≡ record old { schedule = new.schedule; faults = new.faults }
  pub later : old.faults ≤ new.faults

-- of a longer file the first 67,108,865 bytes decide
abbrev pub schedule_bytes : Bytes → Bytes
schedule_bytes bytes = take (schedule_limit + 1) bytes

abbrev pub FetchesSchedule : Bytes → Result (List ℕ) GivenStop → State → State → Type 0
FetchesSchedule name (Ok bytes) old new = (new.faults ≡ old.faults) × IfFile old name (λ bs. bytes ≡ schedule_bytes bs) × ReadsSchedule name old new
FetchesSchedule name (Err stop.Fault) old new = IsFault name old new
FetchesSchedule name (Err stop.NoMemory) old new = ⊤
FetchesSchedule name (Err _) old new = ⊥

-- the first constraint that doesn't hold
abbrev pub FindsFailing : Data → Assignment → Option ℕ → Type 0
FindsFailing m a None = IsSolution m a
FindsFailing m a (Some c) = FailsFirst m a c

-- the solution that the bytes spell, or why they spell none
abbrev pub Tests : Data → Bytes → Result Assignment GivenStop → Type 0
Tests m bytes (Ok a) = SpellsWithin m bytes a × IsSolution m a
Tests m bytes (Err (stop.ScheduleRefused r)) = IsUnfit m bytes r
Tests m bytes (Err stop.NoMemory) = ⊤
Tests m bytes (Err _) = ⊥

-- what the schedule in a file is found to be
abbrev pub TestsFile : Data → Bytes → Result Assignment GivenStop → State → State → Type 0
TestsFile m schedule (Ok a) old new = (new.faults ≡ old.faults) × IfFile old schedule (λ bytes. SpellsWithin m bytes a) × IsSolution m a × ReadsSchedule schedule old new
TestsFile m schedule (Err (stop.ScheduleRefused r)) old new = IfFile old schedule (λ bytes. IsUnfit m bytes r) × ReadsSchedule schedule old new × (new.faults ≡ old.faults)
TestsFile m schedule (Err stop.Fault) old new = IsFault schedule old new
TestsFile m schedule (Err stop.NoMemory) old new = ⊤
TestsFile m schedule (Err _) old new = ⊥
