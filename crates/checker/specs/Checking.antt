-- What reading a log to its judgement gives, and what it does to the desk.
use Rattle.std.specs.Prelude.{◌≡◌, ℕ, ◌+◌, ◌≤◌, true, Result, Ok, Err, IfSome, ⊤}
use Rattle.sched_base.specs.declared.desk.Inlet.TheVariants.{Log}
use Rattle.sched_base.specs.State.{State, left_in}
use Rattle.sched_base.specs.Calls.{Rose, ReadsAtMost}
use Rattle.sched_model.specs.Data.{Data}
use Rattle.textline.specs.Lines.{Bytes}
use Rattle.logtext.specs.Judgement.{log_limit, log_bytes}
use Rattle.replay.specs.Replaying.{StopsBehind}
use Rattle.checker.specs.declared.judging.Checked.{Checked}
use Rattle.checker.specs.declared.judging.CheckFault.{CheckFault}
use Rattle.checker.specs.declared.judging.CheckFault.TheVariants.{Refused, TooLong, Fault, NoMemory}
use Rattle.checker.specs.Judgement.{IsAccepted, IsRefused, IsTooLong}

-- what is said of the bytes of a whole log: here its verdict and its count of nodes
abbrev pub Accepts : Data → Bytes → Checked → Type 0
Accepts m bytes c = IsAccepted m bytes c.verdict c.nodes

-- The answer of whoever reads a log to its judgement, and says something of a whole one.

-- the answer is the judgement of the bytes
abbrev pub JudgesBy : {V : Type 0} → (Data → Bytes → V → Type 0) → Data → Bytes → Result V CheckFault → Type 0
JudgesBy Says m bytes (Ok v) = Says m bytes v × (IsTooLong m bytes → ⊥)
JudgesBy Says m bytes (Err (Refused k)) = IsRefused m bytes k × (IsTooLong m bytes → ⊥)
JudgesBy Says m bytes (Err TooLong) = IsTooLong m bytes
JudgesBy Says m bytes (Err Fault) = ⊤
JudgesBy Says m bytes (Err NoMemory) = ⊤

-- a fault was counted where it is told, and no other answer comes with one
abbrev pub Counts : {V : Type 0} → Result V CheckFault → State → State → Type 0
Counts (Err Fault) old new = Rose old.faults new.faults × (old.calm ≡ true → ⊥)
Counts _ old new = new.faults ≡ old.faults

-- where a line was refused
abbrev pub IfRefused : {V : Type 0} → Result V CheckFault → (ℕ → Type 0) → Type 0
IfRefused (Err (Refused k)) X = X k
IfRefused _ X = ⊤

pub record ChecksBy {V : Type 0} (Says : Data → Bytes → V → Type 0) (m : Data) (result : Result V CheckFault) (old new : State) : Type 0 where
  pub judgement : IfSome (left_in Log old) (λ bytes. JudgesBy Says m (log_bytes bytes) result)
  pub counts : Counts result old new
  -- one byte beyond the limit was read at most
  pub reads : ReadsAtMost (log_limit + 1) (left_in Log old) (left_in Log new)
  -- a refusal comes as soon as its line is whole or too long, and leaves the rest unread
  pub stops : IfRefused result (λ k. StopsBehind k (left_in Log old) (left_in Log new))
  -- only the place in the log's slot and the count have changed
  pub only : new ≡ record old { log = new.log; faults = new.faults }
  pub later : old.faults ≤ new.faults

-- and of `check` itself
abbrev pub Judges : Data → Bytes → Result Checked CheckFault → Type 0
Judges m bytes result = JudgesBy Accepts m bytes result

abbrev pub Checks : Data → Result Checked CheckFault → State → State → Type 0
Checks m result old new = ChecksBy Accepts m result old new
