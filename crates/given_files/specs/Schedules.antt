-- Which schedule a file holds of a model, and which refusal is due of it.
use Rattle.std.specs.Prelude.{◌≡◌, ℕ, ◌≤◌, ◌<◌, Some, length, slice_get}
use Rattle.sched_base.specs.State.{State}
use Rattle.sched_model.specs.declared.types.Assignment.{Assignment}
use Rattle.sched_model.specs.declared.types.Constraint.{Constraint as Sentence}
use Rattle.sched_model.specs.Data.{Data}
use Rattle.sched_model.specs.Sentences.{Holds}
use Rattle.sched_model.specs.Solution.{IsSolution}
use Rattle.cpo_elab.specs.Answers.Answer.{Accepted}
use Rattle.textline.specs.Lines.{Bytes}
use Rattle.read_schedule.specs.Schedules.{Spells, IsRefused as IsNoSchedule}
use Rattle.given_files.specs.declared.stop.ScheduleRefusal.{ScheduleRefusal}
use Rattle.given_files.specs.declared.stop.ScheduleRefusal.TheVariants.{TooLong, Line, Constraint}
use Rattle.given_files.specs.Files.{IfFile, FileDeserves, schedule_limit}

-- the schedule's bytes are within their limit, and spell this assignment
abbrev pub SpellsWithin : Data → Bytes → Assignment → Type 0
SpellsWithin m bytes a = (length bytes ≤ schedule_limit) × Spells m bytes a

-- this constraint doesn't hold, and each before it does
pub record FailsFirst (m : Data) (a : Assignment) (c : ℕ) : Type 0 where
  pub before : (j : ℕ) (k : Sentence) → j < c → slice_get m.constraints j ≡ Some k → Holds m a k
  pub sentence : Sentence
  pub there : slice_get m.constraints c ≡ Some sentence
  pub fails : Holds m a sentence → ⊥

-- The refusal that is due of these bytes: they are longer than their limit; or they are no schedule text, and this is the
-- first line that is wrong or missing; or the assignment that they spell breaks a constraint, and this is the first of them.
abbrev pub IsUnfit : Data → Bytes → ScheduleRefusal → Type 0
IsUnfit m bytes TooLong = schedule_limit < length bytes
IsUnfit m bytes (Line k) = (length bytes ≤ schedule_limit) × IsNoSchedule m bytes k
IsUnfit m bytes (Constraint c) = (a : Assignment) × SpellsWithin m bytes a × FailsFirst m a c

-- the text of the model's file deserves this model, and the schedule's file spells this assignment, which is a solution
pub record IsVerified (model schedule : Bytes) (m : Data) (a : Assignment) (s : State) : Type 0 where
  pub deserved : FileDeserves s model (Accepted m)
  pub spells : IfFile s schedule (λ bytes. SpellsWithin m bytes a)
  pub solves : IsSolution m a

-- the text of the model's file deserves this model, and this refusal of the schedule's file is due
pub record RefusalDue (model schedule : Bytes) (r : ScheduleRefusal) (s : State) : Type 0 where
  pub m : Data
  pub deserved : FileDeserves s model (Accepted m)
  pub unfit : IfFile s schedule (λ bytes. IsUnfit m bytes r)
