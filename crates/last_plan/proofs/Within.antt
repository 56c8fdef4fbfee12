-- The files of a run are read within their bounds.
use Rattle.std.specs.Prelude.{option_and_then}
use Rattle.std.proofs.Common.{◌≡◌, ◌+◌, ℕ, List, Option, Some, None, Result, Ok, Err, refl, sym, ap, subst, ◌∙◌, inl, inr, arith}
use Rattle.sched_base.specs.declared.desk.File.{File}
use Rattle.sched_base.specs.declared.desk.Inlet.TheVariants.{Log}
use Rattle.sched_base.specs.State.{State, Place, bytes_of, with_faults, left_in}
use Rattle.sched_base.specs.Calls.{Opens, ReadsAtMost}
use Rattle.textline.specs.Lines.{Bytes}
use Rattle.logtext.specs.Judgement.{log_limit}
use Rattle.given_files.specs.declared.stop.GivenStop.TheVariants as given
use Rattle.given_files.specs.Files.{WithinModel, file_of}
use Rattle.given_files.specs.code.Reading.{OnlyReads}
use Rattle.given_files.specs.laws.Within.{SameSlots, written_slots, reported_slots, told_slots, model_on}
use Rattle.last_plan.specs.declared.ended.Ended.{Ended}
use Rattle.last_plan.specs.declared.stop.PlanStop.{PlanStop}
use Rattle.last_plan.specs.declared.stop.PlanStop.TheVariants as stop
use Rattle.last_plan.specs.Runs.{WithinLog}
use Rattle.last_plan.specs.code.Ended.{ending_of_given, EndsStopped}
use Rattle.last_plan.specs.code.Tries.{OnlyReplays, PrintsText}

-- The log's file.

pub log_unopened : (name : Bytes) (old new : State) → new ≡ with_faults new.faults old → WithinLog name old new
log_unopened name old new is = inl (ap (λ (s : State). s.log) is)

none_read : (most : ℕ) (left : Option Bytes) → ReadsAtMost most left left
none_read most None = record { count = 0; few = omega arith; left = refl }
none_read most (Some bs) = record { count = 0; few = omega arith; left = refl }

pub log_within : (name : Bytes) (u : Unit {0}) (old o new : State) → Opens Log name (Ok u) old o → ReadsAtMost (log_limit + 1) (left_in Log o) (left_in Log new) → WithinLog name old new
log_within name u old o new opens reads = inr (subst (λ left. ReadsAtMost (log_limit + 1) left new.log.left) (ap (λ (s : State). left_in Log s) opens.opened) reads)

pub log_opened : (name : Bytes) (u : Unit {0}) (old o : State) → Opens Log name (Ok u) old o → WithinLog name old o
log_opened name u old o opens = log_within name u old o o opens (none_read (log_limit + 1) (left_in Log o))

log_on : (name : Bytes) (old s t : State) → t.log ≡ s.log → WithinLog name old s → WithinLog name old t
log_on name old s t is (inl none) = inl (is ∙ none)
log_on name old s t is (inr reads) = inr (subst (λ (p : Place). ReadsAtMost (log_limit + 1) (file_of old name) p.left) (sym is) reads)

pub log_replayed : (name : Bytes) (old s t : State) → OnlyReads old s → WithinLog name s t → WithinLog name old t
log_replayed name old s t reads (inl none) = inl (none ∙ ap (λ (x : State). x.log) reads.only)
log_replayed name old s t reads (inr far) = inr (subst (λ (fs : Option (List File)). ReadsAtMost (log_limit + 1) (option_and_then (λ gs. bytes_of gs name) fs) t.log.left) (ap (λ (x : State). x.files) reads.only) far)

pub model_replayed : (name : Bytes) (old s t : State) → WithinModel name old s → OnlyReplays s t → WithinModel name old t
model_replayed name old s t within replays = model_on name old s t (ap (λ (x : State). x.model) replays.only) within

-- What is printed and told reads nothing.

printed_slots : (text : Bytes) (r : Result (Unit {0}) PlanStop) (t w : State) → PrintsText text r t w → SameSlots t w
printed_slots text (Ok u) t w prints = written_slots text (Ok u) t w prints
printed_slots text (Err (stop.Given given.Fault)) t w prints = written_slots text (Err prints.0) t w prints.1
printed_slots text (Err (stop.Given given.NoMemory)) t w prints = record { model = ap (λ (s : State). s.model) prints; log = ap (λ (s : State). s.log) prints; schedule = ap (λ (s : State). s.schedule) prints }
printed_slots text (Err (stop.Given (given.ModelRefused r))) t w prints = absurd prints
printed_slots text (Err (stop.Given (given.ScheduleRefused r))) t w prints = absurd prints
printed_slots text (Err (stop.Refused k at)) t w prints = absurd prints
printed_slots text (Err stop.TooLong) t w prints = absurd prints

pub model_printed : (name text : Bytes) (r : Result (Unit {0}) PlanStop) (old s t w : State) → WithinModel name old s → OnlyReplays s t → PrintsText text r t w → WithinModel name old w
model_printed name text r old s t w within replays prints = model_on name old t w (printed_slots text r t w prints).model (model_replayed name old s t within replays)

pub log_printed : (name text : Bytes) (r : Result (Unit {0}) PlanStop) (old s t w : State) → OnlyReads old s → WithinLog name s t → PrintsText text r t w → WithinLog name old w
log_printed name text r old s t w reads within prints = log_on name old t w (printed_slots text r t w prints).log (log_replayed name old s t reads within)

stopped_slots : (why : PlanStop) (ended : Ended) (old new : State) → EndsStopped why ended old new → SameSlots old new
stopped_slots (stop.Given why) ended old new ends = told_slots ending_of_given why ended old new ends
stopped_slots (stop.Refused k at) ended old new (inl ends) = reported_slots _ old new ends.1
stopped_slots (stop.Refused k at) ended old new (inr ends) = reported_slots _ old new ends.1
stopped_slots stop.TooLong ended old new ends = reported_slots _ old new ends.1

pub both_stopped : (model log : Bytes) (why : PlanStop) (ended : Ended) (old s new : State) → EndsStopped why ended s new → WithinModel model old s × WithinLog log old s → WithinModel model old new × WithinLog log old new
both_stopped model log why ended old s new ends within =
    let same = stopped_slots why ended s new ends in (model_on model old s new same.model within.0, log_on log old s new same.log within.1)
