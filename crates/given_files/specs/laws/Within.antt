-- What reads no further stays within a file's bound.
use Rattle.std.proofs.Common.{◌≡◌, ◌+◌, List, Option, Ok, Err, Result, ap, subst, sym, ◌∙◌, inl, inr}
use Rattle.std.specs.Prelude.{option_and_then}
use Rattle.sched_base.specs.declared.desk.Failed.{Failed}
use Rattle.sched_base.specs.declared.desk.File.{File}
use Rattle.sched_base.specs.declared.desk.Port.TheVariants.{Out}
use Rattle.sched_base.specs.State.{State, Place, bytes_of}
use Rattle.sched_base.specs.Calls.{Writes, ReadsAtMost}
use Rattle.textline.specs.Lines.{Bytes}
use Rattle.given_files.specs.declared.stop.GivenStop.{GivenStop}
use Rattle.given_files.specs.declared.stop.GivenStop.TheVariants as stop
use Rattle.given_files.specs.Files.{WithinModel, WithinSchedule, WithinBoth, file_of, schedule_limit}
use Rattle.given_files.specs.Told.{Reports}
use Rattle.given_files.specs.code.Reading.{OnlyReads}
use Rattle.given_files.specs.code.Telling.{EndsStopped}
use Rattle.given_files.specs.code.Testing.{OnlyTests}

-- where the slots of the three files stay
pub record SameSlots (old new : State) : Type 0 where
  pub model : new.model ≡ old.model
  pub log : new.log ≡ old.log
  pub schedule : new.schedule ≡ old.schedule

pub written_slots : (text : Bytes) (r : Result (Unit {0}) Failed) (old new : State) → Writes Out text r old new → SameSlots old new
written_slots text (Ok u) old new writes = record { model = ap (λ (s : State). s.model) writes.written; log = ap (λ (s : State). s.log) writes.written; schedule = ap (λ (s : State). s.schedule) writes.written }
written_slots text (Err e) old new writes = record { model = ap (λ (s : State). s.model) writes.failed.2; log = ap (λ (s : State). s.log) writes.failed.2; schedule = ap (λ (s : State). s.schedule) writes.failed.2 }

pub model_on : (name : Bytes) (old s t : State) → t.model ≡ s.model → WithinModel name old s → WithinModel name old t
model_on name old s t is (inl none) = inl (is ∙ none)
model_on name old s t is (inr reads) = inr (subst (λ (p : Place). ReadsAtMost 16777217 (file_of old name) p.left) (sym is) reads)

pub schedule_on : (name : Bytes) (old s t : State) → t.schedule ≡ s.schedule → WithinSchedule name old s → WithinSchedule name old t
schedule_on name old s t is (inl none) = inl (is ∙ none)
schedule_on name old s t is (inr reads) = inr (subst (λ (p : Place). ReadsAtMost (schedule_limit + 1) (file_of old name) p.left) (sym is) reads)

pub schedule_behind : (name : Bytes) (old s t : State) → s.files ≡ old.files → s.schedule ≡ old.schedule → WithinSchedule name s t → WithinSchedule name old t
schedule_behind name old s t files schedule (inl none) = inl (none ∙ schedule)
schedule_behind name old s t files schedule (inr reads) = inr (subst (λ (fs : Option (List File)). ReadsAtMost (schedule_limit + 1) (option_and_then (λ gs. bytes_of gs name) fs) t.schedule.left) files reads)

-- to tell why a run stopped reads nothing
pub reported_slots : (text : Bytes) (old new : State) → Reports text old new → SameSlots old new
reported_slots text old new reports = record { model = ap (λ (s : State). s.model) reports.only; log = ap (λ (s : State). s.log) reports.only; schedule = ap (λ (s : State). s.schedule) reports.only }

pub told_slots : {E : Type 0} (ending : GivenStop → E) (why : GivenStop) (ended : E) (old new : State) → EndsStopped ending why ended old new → SameSlots old new
told_slots ending stop.Fault ended old new ends = reported_slots _ old new ends.1
told_slots ending stop.NoMemory ended old new ends = reported_slots _ old new ends.1
told_slots ending (stop.ModelRefused r) ended old new (inl ends) = reported_slots _ old new ends.1
told_slots ending (stop.ModelRefused r) ended old new (inr ends) = reported_slots _ old new ends.1
told_slots ending (stop.ScheduleRefused r) ended old new (inl ends) = reported_slots _ old new ends.1
told_slots ending (stop.ScheduleRefused r) ended old new (inr ends) = reported_slots _ old new ends.1

pub both_told : {E : Type 0} (ending : GivenStop → E) (why : GivenStop) (ended : E) (model schedule : Bytes) (old s new : State) → EndsStopped ending why ended s new → WithinBoth model schedule old s → WithinBoth model schedule old new
both_told ending why ended model schedule old s new ends within =
    let same = told_slots ending why ended s new ends in (model_on model old s new same.model within.0, schedule_on schedule old s new same.schedule within.1)

-- What reads none of the model's file, and what reads none of the schedule's.

pub model_tested : (name : Bytes) (old s t : State) → WithinModel name old s → OnlyTests s t → WithinModel name old t
model_tested name old s t within tested = model_on name old s t (ap (λ (x : State). x.model) tested.only) within

pub model_written : (name text : Bytes) (r : Result (Unit {0}) Failed) (old s t : State) → WithinModel name old s → Writes Out text r s t → WithinModel name old t
model_written name text r old s t within writes = model_on name old s t (written_slots text r s t writes).model within

pub schedule_tested : (name : Bytes) (old s t : State) → OnlyReads old s → WithinSchedule name s t → WithinSchedule name old t
schedule_tested name old s t reads within = schedule_behind name old s t (ap (λ (x : State). x.files) reads.only) (ap (λ (x : State). x.schedule) reads.only) within

pub schedule_written : (name text : Bytes) (r : Result (Unit {0}) Failed) (old s t : State) → WithinSchedule name old s → Writes Out text r s t → WithinSchedule name old t
schedule_written name text r old s t within writes = schedule_on name old s t (written_slots text r s t writes).schedule within
