-- What replaying a log gives, and what it does to the desk.
use Rattle.std.specs.Prelude.{◌≡◌, ℕ, ℤ, Bool, List, IfOk, zero, suc, ◌+◌, ◌-◌, ◌≤◌, ◌==◌, ◌<◌, ◌++◌, ◌⊎◌, length, if◌then◌else◌, min, true, [], ◌∷◌, drop, Option, option_map, Result, Ok, Err, IfSome, ⊤}
use Rattle.sched_base.specs.declared.desk.Inlet.TheVariants.{Log}
use Rattle.sched_base.specs.State.{State, left_in}
use Rattle.sched_base.specs.Calls.{Rose, ReadsAtMost}
use Rattle.sched_model.specs.Data.{Data}
use Rattle.textline.specs.Lines.{Bytes}
use Rattle.logtext.specs.Entries.{line_limit}
use Rattle.replay.specs.declared.fault.ReplayFault.{ReplayFault}
use Rattle.replay.specs.declared.fault.ReplayFault.TheVariants.{Refused, TooLong, Fault, NoMemory}
use Rattle.region.specs.Looks.{Refuting}
use Rattle.kernel.specs.declared.types.Line.{Line}
use Rattle.kernel.specs.Steps.{LogState}
use Rattle.logtext.specs.Spelling.{head_text, lines_text, log_text}
use Rattle.logtext.specs.declared.version.Version.{Version}
use Rattle.logtext.specs.Logs.{IsLog, MayHold}
use Rattle.logtext.specs.Reading.{HasNoWholeLine}
use Rattle.logtext.specs.Judgement.{IsRefused, IsTooLong, log_limit, log_bytes}

-- what a watcher is after all lines
abbrev pub all_noted : {S L : Type 0} → (S → L → S) → S → List L → S
all_noted noted s [] = s
all_noted noted s (l ∷ ls) = all_noted noted (noted s l) ls

-- lines were read that lead to this state, and a watcher saw them
pub record IsReplayed {W S : Type 0} (refutes : Refuting W) (numbers : W → List ℤ) (valid : W → Bool) (noted : S → Line W → S) (m : Data) (state : LogState) (before after : S) : Type 0 where
  pub lines : List (Line W)
  pub log : IsLog refutes numbers valid m lines state
  pub watched : after ≡ all_noted noted before lines

-- and they are all of the bytes
pub record IsWhole {W S : Type 0} (refutes : Refuting W) (numbers : W → List ℤ) (valid : W → Bool) (noted : S → Line W → S) (m : Data) (bytes : Bytes) (state : LogState) (before after : S) : Type 0 where
  pub replayed : IsReplayed refutes numbers valid noted m state before after
  pub version : Version
  pub suits : MayHold version replayed.lines
  pub text : bytes ≡ log_text numbers version replayed.lines

-- the bytes are shorter than the limit, and are the first line of a log, lines that step, and no further line, but perhaps its
-- beginning: a log that was cut
pub record IsCutLog {W : Type 0} (refutes : Refuting W) (numbers : W → List ℤ) (valid : W → Bool) (m : Data) (bytes : Bytes) : Type 0 where
  pub short : length bytes < log_limit
  pub version : Version
  pub lines : List (Line W)
  pub state : LogState
  pub rest : Bytes
  pub suits : MayHold version lines
  pub log : IsLog refutes numbers valid m lines state
  pub text : bytes ≡ head_text version ++ (lines_text numbers lines ++ rest)
  pub open_line : HasNoWholeLine rest

-- the bytes are such a log, and a watcher saw its lines
pub record IsCut {W S : Type 0} (refutes : Refuting W) (numbers : W → List ℤ) (valid : W → Bool) (noted : S → Line W → S) (m : Data) (bytes : Bytes) (state : LogState) (before after : S) : Type 0 where
  pub replayed : IsReplayed refutes numbers valid noted m state before after
  pub version : Version
  pub suits : MayHold version replayed.lines
  pub rest : Bytes
  pub text : bytes ≡ head_text version ++ (lines_text numbers replayed.lines ++ rest)
  pub open_line : HasNoWholeLine rest

-- the answer is the judgement of the bytes
abbrev pub Judges : {W S : Type 0} → Refuting W → (W → List ℤ) → (W → Bool) → (S → Line W → S) → Data → Bytes → Result LogState ReplayFault → S → S → Type 0
Judges refutes numbers valid noted m bytes (Ok s) before after = IsWhole refutes numbers valid noted m bytes s before after × (IsTooLong refutes numbers valid m bytes → ⊥)
Judges refutes numbers valid noted m bytes (Err (Refused k at)) before after = IsRefused refutes numbers valid m bytes k × (IsTooLong refutes numbers valid m bytes → ⊥)
Judges refutes numbers valid noted m bytes (Err TooLong) before after = IsTooLong refutes numbers valid m bytes
Judges refutes numbers valid noted m bytes (Err Fault) before after = ⊤
Judges refutes numbers valid noted m bytes (Err NoMemory) before after = ⊤

-- a fault was counted where it is told, and no other answer comes with one
abbrev pub Counts : Result LogState ReplayFault → State → State → Type 0
Counts (Err Fault) old new = Rose old.faults new.faults × (old.calm ≡ true → ⊥)
Counts _ old new = new.faults ≡ old.faults

-- a log is read in pieces of at most so many bytes
abbrev pub piece_limit : ℕ
piece_limit = 65536

-- where the first n lines end: behind the n-th line feed, or at the end of the bytes
abbrev pub lines_end : ℕ → Bytes → ℕ
lines_end n [] = 0
lines_end zero (b ∷ bs) = 0
lines_end (suc n) (b ∷ bs) = 1 + (if b == 10 then lines_end n bs else lines_end (suc n) bs)

-- no more than a piece was read behind the end of line k, or behind so many bytes of it as a line may have
pub record StopsBehind (k : ℕ) (before after : Option Bytes) : Type 0 where
  pub count : ℕ
  pub near : IfSome before (λ bytes. count ≤ min (lines_end k bytes) (lines_end (k - 1) bytes + line_limit) + piece_limit)
  pub left : after ≡ option_map (drop count) before

-- line k begins at this byte
abbrev pub BeginsAt : ℕ → ℕ → Bytes → Type 0
BeginsAt k at bytes = at ≡ lines_end (k - 1) bytes

-- where a line was refused, and a place told
abbrev pub IfRefused : Result LogState ReplayFault → (ℕ → ℕ → Type 0) → Type 0
IfRefused (Err (Refused k at)) X = X k at
IfRefused _ X = ⊤

-- and where one that was cut is no worse than a whole one
abbrev pub JudgesFront : {W S : Type 0} → Refuting W → (W → List ℤ) → (W → Bool) → (S → Line W → S) → Data → Bytes → Result LogState ReplayFault → S → S → Type 0
JudgesFront refutes numbers valid noted m bytes (Ok s) before after = (IsWhole refutes numbers valid noted m bytes s before after ⊎ IsCut refutes numbers valid noted m bytes s before after) × (IsTooLong refutes numbers valid m bytes → ⊥)
JudgesFront refutes numbers valid noted m bytes (Err (Refused k at)) before after = IsRefused refutes numbers valid m bytes k × (IsTooLong refutes numbers valid m bytes → ⊥) × (IsCutLog refutes numbers valid m bytes → ⊥)
JudgesFront refutes numbers valid noted m bytes (Err TooLong) before after = IsTooLong refutes numbers valid m bytes
JudgesFront refutes numbers valid noted m bytes (Err Fault) before after = ⊤
JudgesFront refutes numbers valid noted m bytes (Err NoMemory) before after = ⊤

pub record Replays {W S : Type 0} (refutes : Refuting W) (numbers : W → List ℤ) (valid : W → Bool) (noted : S → Line W → S) (m : Data) (result : Result LogState ReplayFault) (before after : S) (old new : State) : Type 0 where
  -- whatever the desk tells, lines led to the state that is answered
  pub replayed : IfOk result (λ s. IsReplayed refutes numbers valid noted m s before after)
  pub judgement : IfSome (left_in Log old) (λ bytes. Judges refutes numbers valid noted m (log_bytes bytes) result before after)
  pub counts : Counts result old new
  -- one byte beyond the limit was read at most
  pub reads : ReadsAtMost (log_limit + 1) (left_in Log old) (left_in Log new)
  -- a refusal comes as soon as its line is whole or too long, and leaves the rest unread
  pub stops : IfRefused result (λ k at. StopsBehind k (left_in Log old) (left_in Log new))
  -- and tells where the line begins
  pub place : IfRefused result (λ k at. IfSome (left_in Log old) (BeginsAt k at))
  -- only the place in the log's slot and the count have changed
  pub only : new ≡ record old { log = new.log; faults = new.faults }
  pub later : old.faults ≤ new.faults

-- the same, where a log that was cut is read up to its last whole line
pub record ReplaysFront {W S : Type 0} (refutes : Refuting W) (numbers : W → List ℤ) (valid : W → Bool) (noted : S → Line W → S) (m : Data) (result : Result LogState ReplayFault) (before after : S) (old new : State) : Type 0 where
  pub replayed : IfOk result (λ s. IsReplayed refutes numbers valid noted m s before after)
  pub judgement : IfSome (left_in Log old) (λ bytes. JudgesFront refutes numbers valid noted m (log_bytes bytes) result before after)
  pub counts : Counts result old new
  pub reads : ReadsAtMost (log_limit + 1) (left_in Log old) (left_in Log new)
  pub stops : IfRefused result (λ k at. StopsBehind k (left_in Log old) (left_in Log new))
  pub place : IfRefused result (λ k at. IfSome (left_in Log old) (BeginsAt k at))
  pub only : new ≡ record old { log = new.log; faults = new.faults }
  pub later : old.faults ≤ new.faults
