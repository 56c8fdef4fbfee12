-- However a command ends, its files are read within their bounds.
use Rattle.std.proofs.Common.{◌≡◌, Option, Some, None, Ok, Err, Result, ap, inl, inr}
use Rattle.sched_base.specs.State.{State}
use Rattle.sched_model.specs.declared.types.Solved.{Solved}
use Rattle.sched_model.specs.Data.{Data}
use Rattle.textline.specs.Lines.{Bytes}
use Rattle.command_line.specs.Commands.{Command, Solve, Check, Verify, Show, Gen, Trial, Bound, Core}
use Rattle.restart_rules.specs.Restarts.{Limits}
use Rattle.given_files.specs.declared.stop.GivenStop.TheVariants as given
use Rattle.given_files.specs.Files.{WithinModel}
use Rattle.given_files.specs.Told.{Reports}
use Rattle.given_files.specs.laws.Within.{SameSlots, reported_slots, model_on, schedule_on}
use Rattle.log_reports.specs.laws.Within.{log_on}
use Rattle.commands.specs.declared.ended.Ended.{Ended}
use Rattle.commands.specs.declared.stop.RunStop.{RunStop}
use Rattle.commands.specs.declared.stop.RunStop.TheVariants as stop
use Rattle.commands.specs.Runs.{WithinFiles}
use Rattle.commands.specs.code.Tries.{BeginsSearch, Searches, EndsStopped}

-- to tell why a command stopped reads nothing
stopped_slots : (e : RunStop) (ended : Ended) (old new : State) → EndsStopped e ended old new → SameSlots old new
stopped_slots (stop.Given given.Fault) ended old new ends = reported_slots _ old new ends.1
stopped_slots (stop.Given given.NoMemory) ended old new ends = reported_slots _ old new ends.1
stopped_slots (stop.Given (given.ModelRefused r)) ended old new (inl ends) = reported_slots _ old new ends.1
stopped_slots (stop.Given (given.ModelRefused r)) ended old new (inr ends) = reported_slots _ old new ends.1
stopped_slots (stop.Given (given.ScheduleRefused r)) ended old new (inl ends) = reported_slots _ old new ends.1
stopped_slots (stop.Given (given.ScheduleRefused r)) ended old new (inr ends) = reported_slots _ old new ends.1
stopped_slots (stop.LogRefused k) ended old new (inl ends) = reported_slots _ old new ends.1
stopped_slots (stop.LogRefused k) ended old new (inr ends) = reported_slots _ old new ends.1
stopped_slots stop.LogTooLong ended old new ends = reported_slots _ old new ends.1

files_on : (k : Command) (old s t : State) → SameSlots s t → WithinFiles (Some k) old s → WithinFiles (Some k) old t
files_on (Solve model log nodes restarts) old s t same within = model_on model old s t same.model within
files_on (Check model log) old s t same within = (model_on model old s t same.model within.0, log_on log old s t same.log within.1)
files_on (Verify model schedule) old s t same within = (model_on model old s t same.model within.0, schedule_on schedule old s t same.schedule within.1)
files_on (Show model) old s t same within = model_on model old s t same.model within
files_on (Gen shop) old s t same within = tt
files_on (Trial shop log nodes restarts) old s t same within = tt
files_on (Bound model log) old s t same within = (model_on model old s t same.model within.0, log_on log old s t same.log within.1)
files_on (Core model log) old s t same within = (model_on model old s t same.model within.0, log_on log old s t same.log within.1)

pub stopped_within : (k : Command) (e : RunStop) (ended : Ended) (old s new : State) → WithinFiles (Some k) old s → EndsStopped e ended s new → WithinFiles (Some k) old new
stopped_within k e ended old s new within ends = files_on k old s new (stopped_slots e ended s new ends) within

-- where nothing was opened
pub unopened_within : (command : Option Command) (text : Bytes) (old new : State) → Reports text old new → WithinFiles command old new
unopened_within None text old new reports = tt
unopened_within (Some (Solve model log nodes restarts)) text old new reports = inl (reported_slots text old new reports).model
unopened_within (Some (Check model log)) text old new reports = let same = reported_slots text old new reports in (inl same.model, inl same.log)
unopened_within (Some (Verify model schedule)) text old new reports = let same = reported_slots text old new reports in (inl same.model, inl same.schedule)
unopened_within (Some (Show model)) text old new reports = inl (reported_slots text old new reports).model
unopened_within (Some (Gen shop)) text old new reports = tt
unopened_within (Some (Trial shop log nodes restarts)) text old new reports = tt
unopened_within (Some (Bound model log)) text old new reports = let same = reported_slots text old new reports in (inl same.model, inl same.log)
unopened_within (Some (Core model log)) text old new reports = let same = reported_slots text old new reports in (inl same.model, inl same.log)

-- What reads none of the model's file, and what reads none of the schedule's.

begun_model : (m : Data) (log : Bytes) (limits : Limits) (s t : State) → BeginsSearch m log limits s t → t.model ≡ s.model
begun_model m log limits s t (inl same) = ap (λ (x : State). x.model) same
begun_model m log limits s t (inr begun) = ap (λ (x : State). x.model) begun.1

searched_model : (m : Data) (log : Bytes) (limits : Limits) (r : Result Solved RunStop) (s t : State) → Searches m log limits r s t → t.model ≡ s.model
searched_model m log limits (Ok solved) s t says = ap (λ (x : State). x.model) says.2
searched_model m log limits (Err (stop.Given given.Fault)) s t says = begun_model m log limits s t says.3
searched_model m log limits (Err (stop.Given given.NoMemory)) s t says = begun_model m log limits s t says.1
searched_model m log limits (Err (stop.Given (given.ModelRefused e))) s t says = absurd says
searched_model m log limits (Err (stop.Given (given.ScheduleRefused e))) s t says = absurd says
searched_model m log limits (Err (stop.LogRefused k)) s t says = absurd says
searched_model m log limits (Err stop.LogTooLong) s t says = absurd says

pub model_searched : (m : Data) (name log : Bytes) (limits : Limits) (r : Result Solved RunStop) (old s t : State) → WithinModel name old s → Searches m log limits r s t → WithinModel name old t
model_searched m name log limits r old s t within says = model_on name old s t (searched_model m log limits r s t says) within
