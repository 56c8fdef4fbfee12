-- A file that was opened is read within its bound, and one that wasn't is not read.
use Rattle.std.proofs.Common.{◌≡◌, ◌+◌, Ok, ap, subst, inl, inr}
use Rattle.sched_base.specs.declared.desk.Inlet.TheVariants.{Model, Schedule}
use Rattle.sched_base.specs.State.{State, with_faults, left_in}
use Rattle.sched_base.specs.Calls.{Opens, ReadsAtMost}
use Rattle.textline.specs.Lines.{Bytes}
use Rattle.given_files.specs.Files.{WithinModel, WithinSchedule, schedule_limit}

pub model_unopened : (name : Bytes) (old new : State) → new ≡ with_faults new.faults old → WithinModel name old new
model_unopened name old new is = inl (ap (λ (s : State). s.model) is)

pub model_within : (name : Bytes) (u : Unit {0}) (old o new : State) → Opens Model name (Ok u) old o → ReadsAtMost 16777217 (left_in Model o) (left_in Model new) → WithinModel name old new
model_within name u old o new opens reads = inr (subst (λ left. ReadsAtMost 16777217 left new.model.left) (ap (λ (s : State). left_in Model s) opens.opened) reads)

pub schedule_unopened : (name : Bytes) (old new : State) → new ≡ with_faults new.faults old → WithinSchedule name old new
schedule_unopened name old new is = inl (ap (λ (s : State). s.schedule) is)

pub schedule_within : (name : Bytes) (u : Unit {0}) (old o new : State) → Opens Schedule name (Ok u) old o → ReadsAtMost (schedule_limit + 1) (left_in Schedule o) (left_in Schedule new) → WithinSchedule name old new
schedule_within name u old o new opens reads = inr (subst (λ left. ReadsAtMost (schedule_limit + 1) left new.schedule.left) (ap (λ (s : State). left_in Schedule s) opens.opened) reads)
