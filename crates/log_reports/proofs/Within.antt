-- The files of a report are read within their bounds.
use Rattle.std.proofs.Common.{◌≡◌, ◌+◌, Ok, Result, ap, subst, inl, inr}
use Rattle.sched_base.specs.declared.desk.Inlet.TheVariants.{Log}
use Rattle.sched_base.specs.State.{State, with_faults, left_in}
use Rattle.sched_base.specs.Calls.{Opens, ReadsAtMost}
use Rattle.sched_model.specs.Data.{Data}
use Rattle.textline.specs.Lines.{Bytes}
use Rattle.logtext.specs.Judgement.{log_limit}
use Rattle.given_files.specs.Files.{WithinModel}
use Rattle.given_files.specs.code.Reading.{OnlyReads}
use Rattle.given_files.specs.laws.Within.{model_on}
use Rattle.log_reports.specs.declared.stop.LogStop.{LogStop}
use Rattle.log_reports.specs.Reports.{Report, WithinLog}
use Rattle.log_reports.specs.code.Tries.{TellsLog}
use Rattle.log_reports.specs.laws.Within.{log_behind}

pub log_unopened : (name : Bytes) (old new : State) → new ≡ with_faults new.faults old → WithinLog name old new
log_unopened name old new is = inl (ap (λ (s : State). s.log) is)

pub log_within : (name : Bytes) (u : Unit {0}) (old o new : State) → Opens Log name (Ok u) old o → ReadsAtMost (log_limit + 1) (left_in Log o) (left_in Log new) → WithinLog name old new
log_within name u old o new opens reads = inr (subst (λ left. ReadsAtMost (log_limit + 1) left new.log.left) (ap (λ (s : State). left_in Log s) opens.opened) reads)

pub log_judged : (name : Bytes) (old s t : State) → OnlyReads old s → WithinLog name s t → WithinLog name old t
log_judged name old s t reads within = log_behind name old s t (ap (λ (x : State). x.files) reads.only) (ap (λ (x : State). x.log) reads.only) within

pub model_told : {V : Type 0} (r : Report V) (m : Data) (name log : Bytes) (result : Result (Unit {0}) LogStop) (old s w : State) → WithinModel name old s → TellsLog r m log result s w → WithinModel name old w
model_told r m name log result old s w within told = model_on name old s w (ap (λ (x : State). x.model) told.only) within
