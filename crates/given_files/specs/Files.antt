-- The files of a run: what is in them, and how far they are read.
use Rattle.std.specs.Prelude.{◌≡◌, ◌⊎◌, ℕ, ◌+◌, List, take, Option, Some, option_and_then, IfSome, IsSome}
use Rattle.sched_base.specs.declared.desk.File.{File}
use Rattle.sched_base.specs.State.{State, bytes_of}
use Rattle.sched_base.specs.Calls.{ReadsAtMost}
use Rattle.cpo_elab.specs.Answers.{Answer}
use Rattle.cpo_elab.specs.Deserves.{Deserves}
use Rattle.textline.specs.Lines.{Bytes}

-- where the desk tells its files, the file of this name is there, and this holds of its bytes
abbrev pub IfFile : State → Bytes → (Bytes → Type 0) → Type 0
IfFile s name P = IfSome s.files (λ files. IsSome (bytes_of files name)) × IfSome s.files (λ files. IfSome (bytes_of files name) P)

-- the desk tells its files, and this one is there
abbrev pub HasFile : State → Bytes → Type 0
HasFile s name = (files : List File) × (s.files ≡ Some files) × IsSome (bytes_of files name)

-- of a longer file the first 16,777,217 bytes decide
abbrev pub model_bytes : Bytes → Bytes
model_bytes bytes = take 16777217 bytes

-- the text in the file of this name deserves this
abbrev pub FileDeserves : State → Bytes → Answer → Type 0
FileDeserves s name answer = IfFile s name (λ bytes. Deserves (model_bytes bytes) answer)

abbrev pub schedule_limit : ℕ
schedule_limit = 67108864

-- of the file of this name, where the desk tells its files and this one is there, so many bytes were read at most, and the
-- others are left in its slot: of the model one byte beyond its limit of 16,777,216, and of the schedule one beyond its limit
-- of 67,108,864
abbrev pub file_of : State → Bytes → Option Bytes
file_of s name = option_and_then (λ files. bytes_of files name) s.files

abbrev pub ReadsModel : Bytes → State → State → Type 0
ReadsModel name old new = ReadsAtMost 16777217 (file_of old name) new.model.left

abbrev pub ReadsSchedule : Bytes → State → State → Type 0
ReadsSchedule name old new = ReadsAtMost (schedule_limit + 1) (file_of old name) new.schedule.left

-- However a run ends: nothing was read from this slot, or no more of the file than that.

abbrev pub WithinModel : Bytes → State → State → Type 0
WithinModel name old new = (new.model ≡ old.model) ⊎ ReadsModel name old new

abbrev pub WithinSchedule : Bytes → State → State → Type 0
WithinSchedule name old new = (new.schedule ≡ old.schedule) ⊎ ReadsSchedule name old new

-- neither of both files was read beyond its bound
abbrev pub WithinBoth : Bytes → Bytes → State → State → Type 0
WithinBoth model schedule old new = WithinModel model old new × WithinSchedule schedule old new
