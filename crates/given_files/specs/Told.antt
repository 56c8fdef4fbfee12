-- What stands on standard error.
use Rattle.std.specs.Prelude.{◌≡◌, ◌⊎◌, ◌≤◌, [], ◌∷◌, codes}
use Rattle.std.specs.Fmt.{decimal}
use Rattle.sched_base.specs.State.{State}
use Rattle.sched_base.specs.Calls.{Rose, appended, AppendedFrom}
use Rattle.cpo_text.specs.declared.text.Refusal.{Refusal}
use Rattle.textline.specs.Lines.{Bytes, line}
use Rattle.given_files.specs.declared.stop.ScheduleRefusal.{ScheduleRefusal}
use Rattle.given_files.specs.declared.stop.ScheduleRefusal.TheVariants.{TooLong, Line, Constraint}

abbrev pub fault_line : Bytes
fault_line = line (codes "fault" ∷ [])

abbrev pub memory_line : Bytes
memory_line = line (codes "no memory" ∷ [])

abbrev pub refusal_line : Refusal → Bytes
refusal_line r = line (codes "model" ∷ codes "refused" ∷ decimal r.number ∷ codes "statement" ∷ decimal r.statement ∷ codes "at" ∷ decimal r.at ∷ [])

-- a file that is longer than its limit is refused at line 0, before its first
abbrev pub unfit_line : ScheduleRefusal → Bytes
unfit_line TooLong = line (codes "schedule refused line 0" ∷ [])
unfit_line (Line k) = line (codes "schedule" ∷ codes "refused" ∷ codes "line" ∷ decimal k ∷ [])
unfit_line (Constraint c) = line (codes "schedule" ∷ codes "refused" ∷ codes "constraint" ∷ decimal c ∷ [])

-- this line was appended to standard error; a front part of it only where a fault was counted
pub record Tells (text : Bytes) (old new : State) : Type 0 where
  pub part : AppendedFrom text old.err new.err
  pub whole : Rose old.faults new.faults ⊎ (new.err ≡ appended text old.err)

-- the line was told, and nothing else has changed
pub record Reports (text : Bytes) (old new : State) : Type 0 where
  pub tells : Tells text old new
  pub only : new ≡ record old { err = new.err; faults = new.faults }
  pub later : old.faults ≤ new.faults
