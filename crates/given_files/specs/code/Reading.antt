-- What reading the model's file does to the desk.
use Rattle.std.specs.Prelude.{◌≡◌, ℕ, ◌≤◌, true, List, Result, Ok, Err, ⊤}
use Rattle.sched_base.specs.State.{State}
use Rattle.sched_base.specs.Calls.{Rose}
use Rattle.sched_model.specs.Data.{Data}
use Rattle.cpo_elab.specs.Answers.Answer.{Accepted, Refused}
use Rattle.textline.specs.Lines.{Bytes}
use Rattle.given_files.specs.declared.stop.GivenStop.{GivenStop}
use Rattle.given_files.specs.declared.stop.GivenStop.TheVariants as stop
use Rattle.given_files.specs.Files.{IfFile, HasFile, model_bytes, FileDeserves, ReadsModel}

-- only the slot of the model and the count of faults have changed
pub record OnlyReads (old new : State) : Type 0 where
  pub only : new ≡ record old { model = new.model; faults = new.faults }
  pub later : old.faults ≤ new.faults

-- a fault that was counted, and that no calm desk with the file makes
pub record IsFault (name : Bytes) (old new : State) : Type 0 where
  pub rose : Rose old.faults new.faults
  pub calm : old.calm ≡ true → HasFile old name → ⊥

-- why reading the text came to no model
abbrev pub StopsText : Bytes → State → State → GivenStop → Type 0
StopsText name old new stop.Fault = IsFault name old new
StopsText name old new stop.NoMemory = ⊤
StopsText name old new (stop.ModelRefused r) = (new.faults ≡ old.faults) × FileDeserves old name (Refused r) × ReadsModel name old new
StopsText name old new (stop.ScheduleRefused r) = ⊥

abbrev pub Fetches : Bytes → Result (List ℕ) GivenStop → State → State → Type 0
Fetches name (Ok bytes) old new = (new.faults ≡ old.faults) × IfFile old name (λ bs. bytes ≡ model_bytes bs) × ReadsModel name old new
Fetches name (Err s) old new = StopsText name old new s

abbrev pub Reads : Bytes → Result Data GivenStop → State → State → Type 0
Reads name (Ok m) old new = (new.faults ≡ old.faults) × FileDeserves old name (Accepted m) × ReadsModel name old new
Reads name (Err s) old new = StopsText name old new s
