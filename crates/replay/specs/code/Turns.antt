-- What reading and stepping one line of a log gives.
use Rattle.std.specs.Prelude.{◌≡◌, ℕ, ℤ, ◌<◌, Bool, true, false, List, ◌++◌, [], length, drop, Option, Some, None, Result, Ok, Err, IfSome, ⊤}
use Rattle.sched_base.specs.declared.list.NoMemory.{NoMemory}
use Rattle.sched_base.specs.declared.desk.Inlet.TheVariants.{Log}
use Rattle.sched_base.specs.declared.reading.ReadError.{ReadError}
use Rattle.sched_base.specs.declared.reading.ReadError.TheVariants as read
use Rattle.sched_base.specs.declared.reading.ReadError.TheVariants.{Failed}
use Rattle.sched_base.specs.State.{State, left_in}
use Rattle.sched_model.specs.Data.{Data}
use Rattle.region.specs.Looks.{Refuting}
use Rattle.kernel.specs.declared.types.Line.{Line}
use Rattle.kernel.specs.Refuting.{refutes_with}
use Rattle.kernel.specs.Steps.{LogState, step}
use Rattle.textline.specs.Lines.{Bytes}
use Rattle.logtext.specs.declared.entry.Entry.{Entry}
use Rattle.logtext.specs.declared.entry.Entry.TheVariants.{Head, Step, Finish}
use Rattle.logtext.specs.declared.version.Version.{Version}
use Rattle.logtext.specs.Logs.{may_hold}
use Rattle.logtext.specs.Reading.{HasNoWholeLine, IsLineAt}
use Rattle.log_lines.specs.code.Pieces.{Fed}
use Rattle.replay.specs.declared.fault.ReplayFault.{ReplayFault}
use Rattle.replay.specs.declared.fault.ReplayFault.TheVariants as fault
use Rattle.replay.specs.declared.fault.ReplayFault.TheVariants.{Fault}
use Rattle.replay.specs.declared.replaying.Turn.{Turn}
use Rattle.replay.specs.declared.replaying.Turn.TheVariants.{Stepped, Ended, Wrong, Missing, Beyond}
use Rattle.logtext.specs.Judgement.{BeginsWith, CantGoOn, log_limit}
use Rattle.replay.specs.code.Pieces.{Fails, IsAtEnd, IsReading, ReadsOn, Holds}

-- the version that a first line tells
abbrev pub version_in : {W : Type 0} → Entry W → Option Version
version_in (Head v) = Some v
version_in (Step l) = None
version_in Finish = None

-- since a state a log was read, and of its lines the first was taken
pub record IsBehindHead {W : Type 0} (numbers : W → List ℤ) (valid : W → Bool) (version : Version) (start now : State) (lines : Fed) : Type 0 where
  pub fed : Bytes
  pub place : ℕ
  pub reading : IsReading start now fed place
  pub head : IsLineAt numbers valid fed 0 place (Head version)
  pub fits : Holds lines fed place

-- the version of the first line, which was taken then, if the log begins with one
abbrev pub FindsHead : {W : Type 0} → (W → List ℤ) → (W → Bool) → State → State → Result (Option Version) ReadError → Fed → Type 0
FindsHead numbers valid start now (Ok (Some version)) lines = IsBehindHead numbers valid version start now lines
FindsHead numbers valid start now (Ok None) lines = (all : Bytes) × ReadsOn start now [] all 0 × IfSome (left_in Log now) (λ behind. (version : Version) → BeginsWith numbers valid (all ++ behind) (Head version) → ⊥)
FindsHead numbers valid start now (Err e) lines = Fails log_limit e start now

abbrev pub Tries : {W : Type 0} → Refuting W → Data → Line W → Result Bool NoMemory → LogState → LogState → Type 0
Tries refutes m l (Ok true) old new = step (refutes_with refutes) m l old ≡ Ok new
Tries refutes m l (Ok false) old new = (t : LogState) → step (refutes_with refutes) m l old ≡ Ok t → ⊥
Tries refutes m l (Err e) old new = ⊤

-- a line was shown, and stepped or not
abbrev pub Shows : {W S : Type 0} → Refuting W → (S → Line W → S) → Data → Version → Line W → Result Turn ReadError → LogState → LogState → S → S → Type 0
Shows refutes noted m version l (Ok Stepped) s t before after = (may_hold version l ≡ true) × (step (refutes_with refutes) m l s ≡ Ok t) × (after ≡ noted before l)
Shows refutes noted m version l (Ok Wrong) s t before after = (u : LogState) → may_hold version l ≡ true → step (refutes_with refutes) m l s ≡ Ok u → ⊥
Shows refutes noted m version l (Ok turn) s t before after = ⊥
Shows refutes noted m version l (Err Failed) s t before after = ⊥
Shows refutes noted m version l (Err read.NoMemory) s t before after = ⊤

-- a line is there, or too much for one, and it is wrong whatever follows
pub record IsWrong {W : Type 0} (refutes : Refuting W) (numbers : W → List ℤ) (valid : W → Bool) (m : Data) (version : Version) (s : LogState) (rest : Bytes) : Type 0 where
  pub whole : HasNoWholeLine rest → ⊥
  pub stuck : (more : Bytes) → CantGoOn refutes numbers valid m version s (rest ++ more)

-- what the line at a place did
abbrev pub Turns : {W S : Type 0} → Refuting W → (W → List ℤ) → (W → Bool) → (S → Line W → S) → Data → Version → State → State → Bytes → ℕ → Result Turn ReadError → Fed → LogState → LogState → S → S → Type 0
Turns {W} refutes numbers valid noted m version start now fed place (Ok Stepped) lines s t before after = (all : Bytes) × ReadsOn start now fed all place × ((to : ℕ) × (l : Line W) × IsLineAt numbers valid all place to (Step l) × (may_hold version l ≡ true) × (step (refutes_with refutes) m l s ≡ Ok t) × (after ≡ noted before l) × Holds lines all to)
Turns refutes numbers valid noted m version start now fed place (Ok Ended) lines s t before after = (all : Bytes) × ReadsOn start now fed all place × ((to : ℕ) × IsLineAt numbers valid all place to Finish × (t ≡ s) × (after ≡ before) × Holds lines all to)
Turns refutes numbers valid noted m version start now fed place (Ok Wrong) lines s t before after = (all : Bytes) × ReadsOn start now fed all place × IsWrong refutes numbers valid m version s (drop place all)
Turns refutes numbers valid noted m version start now fed place (Ok Missing) lines s t before after = (all : Bytes) × ReadsOn start now fed all place × HasNoWholeLine (drop place all) × IsAtEnd now × (length all < log_limit) × (t ≡ s) × (after ≡ before)
Turns refutes numbers valid noted m version start now fed place (Ok Beyond) lines s t before after = (all : Bytes) × ReadsOn start now fed all place × HasNoWholeLine (drop place all) × (length all ≡ log_limit)
Turns refutes numbers valid noted m version start now fed place (Err e) lines s t before after = Fails log_limit e start now

abbrev pub fault_of_read : ReadError → ReplayFault
fault_of_read Failed = Fault
fault_of_read read.NoMemory = fault.NoMemory
