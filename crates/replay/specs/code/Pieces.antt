-- What reading a log piece by piece gives.
use Rattle.std.specs.Prelude.{◌≡◌, ℕ, ℤ, ◌+◌, ◌<◌, ◌≤◌, ◌==◌, Bool, true, false, not, IsTrue, List, [], ◌++◌, length, take, drop, Result, Ok, Err, IfSome}
use Rattle.std.specs.List.{list_all}
use Rattle.sched_base.specs.declared.desk.Inlet.TheVariants.{Log}
use Rattle.sched_base.specs.declared.reading.ReadError.{ReadError}
use Rattle.sched_base.specs.declared.reading.ReadError.TheVariants.{Failed, NoMemory}
use Rattle.sched_base.specs.State.{State, left_in}
use Rattle.sched_base.specs.Calls.{Rose, Moved, Took, ReadsAtMost}
use Rattle.textline.specs.Lines.{Bytes}
use Rattle.logtext.specs.Entries.{line_limit}
use Rattle.logtext.specs.Reading.{HasNoWholeLine, BeginsWithNone, IsLineAt}
use Rattle.log_lines.specs.code.Pieces.{Fed, fed_more}
use Rattle.replay.specs.declared.reading.NextLine.{NextLine}
use Rattle.replay.specs.declared.reading.NextLine.TheVariants.{Line, Wrong, Missing, Beyond}
use Rattle.logtext.specs.Judgement.{log_limit}
use Rattle.replay.specs.Replaying.{piece_limit}

-- nothing is left of the log
abbrev pub IsAtEnd : State → Type 0
IsAtEnd s = IfSome (left_in Log s) (λ bs. length bs ≡ 0)

-- the next n bytes of the log were fed as one piece
pub record FeedsPiece (n : ℕ) (old new : State) (before after : Fed) : Type 0 where
  pub piece : Bytes
  pub took : Took Log n [] piece old new
  pub fed : after ≡ fed_more piece before
  pub short : length piece ≤ piece_limit
  pub kept : new.faults ≡ old.faults
  pub end : n ≡ 0 → IsAtEnd new

-- at most one piece stands behind the front of a line that is not whole there
pub record IsNear (rest : Bytes) : Type 0 where
  pub front : ℕ
  pub within : front ≤ length rest
  pub plain : IsTrue (list_all (λ b. not (b == 10)) (take front rest))
  pub short : front < line_limit
  pub near : length rest ≤ front + piece_limit

-- since a state these bytes of the log were read, and lines have taken those in front of a place
pub record IsReading (start now : State) (fed : Bytes) (place : ℕ) : Type 0 where
  pub took : Took Log (length fed) [] fed start now
  pub moved : Moved Log start now
  pub kept : now.faults ≡ start.faults
  pub within : place ≤ length fed
  pub near : IsNear (drop place fed)

-- what a reader of lines was fed then, where it took so many lines
abbrev pub holds : ℕ → Bytes → ℕ → Fed
holds taken fed place = record { count = length fed; taken = taken; rest = drop place fed; is_bad = false }

abbrev pub Holds : Fed → Bytes → ℕ → Type 0
Holds lines fed place = lines ≡ holds lines.taken fed place

-- the same with more bytes, up to the limit
pub record ReadsOn (start now : State) (fed all : Bytes) (place : ℕ) : Type 0 where
  pub more : Bytes
  pub longer : all ≡ fed ++ more
  pub few : length all ≤ log_limit
  pub reading : IsReading start now all place

-- nothing but the place in the log has changed, at most so many bytes were read, and a fault was counted or memory refused
abbrev pub FallsShort : ℕ → State → State → Type 0
FallsShort most start now = Moved Log start now × ReadsAtMost most (left_in Log start) (left_in Log now)

abbrev pub Fails : ℕ → ReadError → State → State → Type 0
Fails most Failed start now = FallsShort most start now × Rose start.faults now.faults × (start.calm ≡ true → ⊥)
Fails most NoMemory start now = FallsShort most start now × (now.faults ≡ start.faults)

-- what stands at a place, where lines have taken the bytes in front of it
abbrev pub FindsLine : {W : Type 0} → (W → List ℤ) → (W → Bool) → State → State → Bytes → ℕ → Result (NextLine W) ReadError → Fed → Type 0
FindsLine numbers valid start now fed place (Ok (Line e)) lines = (all : Bytes) × ReadsOn start now fed all place × ((to : ℕ) × IsLineAt numbers valid all place to e × Holds lines all to)
FindsLine numbers valid start now fed place (Ok Wrong) lines = (all : Bytes) × ReadsOn start now fed all place × (HasNoWholeLine (drop place all) → ⊥) × BeginsWithNone numbers valid (drop place all)
FindsLine numbers valid start now fed place (Ok Missing) lines = (all : Bytes) × ReadsOn start now fed all place × HasNoWholeLine (drop place all) × IsAtEnd now × (length all < log_limit)
FindsLine numbers valid start now fed place (Ok Beyond) lines = (all : Bytes) × ReadsOn start now fed all place × HasNoWholeLine (drop place all) × (length all ≡ log_limit)
FindsLine numbers valid start now fed place (Err e) lines = Fails log_limit e start now

-- whether anything stands behind a place
abbrev pub GoesOn : State → State → Bytes → ℕ → Result Bool ReadError → Type 0
GoesOn start now fed place (Ok true) = (more : Bytes) × IsReading start now (fed ++ more) place × (length (fed ++ more) ≤ log_limit + 1) × (place < length (fed ++ more))
GoesOn start now fed place (Ok false) = IsReading start now fed place × (place ≡ length fed) × IsAtEnd now
GoesOn start now fed place (Err e) = Fails (log_limit + 1) e start now
