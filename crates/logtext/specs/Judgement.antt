-- How the bytes of a log are judged.
use Rattle.std.specs.Prelude.{◌≡◌, ℕ, ℤ, Bool, IsTrue, ◌+◌, ◌^◌, ◌<◌, ◌≤◌, List, ◌++◌, length, take, Ok}
use Rattle.sched_model.specs.Data.{Data}
use Rattle.sched_model.specs.declared.types.Verdict.{Verdict}
use Rattle.region.specs.Looks.{Refuting}
use Rattle.kernel.specs.declared.types.Line.{Line}
use Rattle.kernel.specs.Refuting.{refutes_with}
use Rattle.kernel.specs.Steps.{LogState, step, verdict_of}
use Rattle.textline.specs.Lines.{Bytes}
use Rattle.logtext.specs.declared.entry.Entry.{Entry}
use Rattle.logtext.specs.declared.entry.Entry.TheVariants.{Head, Step, Finish}
use Rattle.logtext.specs.Spelling.{head_text, lines_text, log_text}
use Rattle.logtext.specs.Entries.{Spells}
use Rattle.logtext.specs.declared.version.Version.{Version}
use Rattle.logtext.specs.Logs.{IsLog, MayHold, may_hold}
use Rattle.logtext.specs.Reading.{HasNoWholeLine}

-- the bytes are a whole log of the model: the first line, lines that step one after another, and the last line
pub record IsAccepted {W : Type 0} (refutes : Refuting W) (numbers : W → List ℤ) (valid : W → Bool) (m : Data) (bytes : Bytes) (v : Verdict) (n : ℕ) : Type 0 where
  pub version : Version
  pub lines : List (Line W)
  pub state : LogState
  pub suits : MayHold version lines
  pub log : IsLog refutes numbers valid m lines state
  pub text : bytes ≡ log_text numbers version lines
  pub verdict : v ≡ verdict_of state
  pub nodes : n ≡ state.nodes

-- the bytes begin with this line
abbrev pub BeginsWith : {W : Type 0} → (W → List ℤ) → (W → Bool) → Bytes → Entry W → Type 0
BeginsWith numbers valid bytes e = (n : ℕ) × (n ≤ length bytes) × Spells numbers valid (take n bytes) e

-- in this state of a log of this version neither a line that steps nor the last line comes next
pub record CantGoOn {W : Type 0} (refutes : Refuting W) (numbers : W → List ℤ) (valid : W → Bool) (m : Data) (version : Version) (s : LogState) (rest : Bytes) : Type 0 where
  pub no_line : (l : Line W) (t : LogState) → BeginsWith numbers valid rest (Step l) → IsTrue (may_hold version l) → step (refutes_with refutes) m l s ≡ Ok t → ⊥
  pub no_end : BeginsWith numbers valid rest Finish → ⊥

-- line k is the first that is wrong, or missing: the first line, one behind it, or any behind the last
pub data IsRefused {W : Type 0} (refutes : Refuting W) (numbers : W → List ℤ) (valid : W → Bool) (m : Data) (bytes : Bytes) (k : ℕ) : Type 0 where
  at_head : ((version : Version) → BeginsWith numbers valid bytes (Head version) → ⊥) → k ≡ 1 → IsRefused refutes numbers valid m bytes k
  at_line : (version : Version) (lines : List (Line W)) (s : LogState) (rest : Bytes) → MayHold version lines → IsLog refutes numbers valid m lines s → bytes ≡ head_text version ++ (lines_text numbers lines ++ rest)
      → CantGoOn refutes numbers valid m version s rest → k ≡ length lines + 2 → IsRefused refutes numbers valid m bytes k
  behind_end : (version : Version) (lines : List (Line W)) (s : LogState) (rest : Bytes) → MayHold version lines → IsLog refutes numbers valid m lines s → bytes ≡ log_text numbers version lines ++ rest → 0 < length rest → k ≡ length lines + 3 → IsRefused refutes numbers valid m bytes k

-- so many bytes of a log are looked at
abbrev pub log_limit : ℕ
log_limit = 2 ^ 62

-- the bytes up to the limit hold no wrong line and no last line
pub record IsTooLong {W : Type 0} (refutes : Refuting W) (numbers : W → List ℤ) (valid : W → Bool) (m : Data) (bytes : Bytes) : Type 0 where
  pub many : log_limit ≤ length bytes
  pub version : Version
  pub lines : List (Line W)
  pub state : LogState
  pub rest : Bytes
  pub suits : MayHold version lines
  pub log : IsLog refutes numbers valid m lines state
  pub text : take log_limit bytes ≡ head_text version ++ (lines_text numbers lines ++ rest)
  pub open_line : HasNoWholeLine rest

-- of a longer file the first 2^62 + 1 bytes decide
abbrev pub log_bytes : Bytes → Bytes
log_bytes bytes = take (log_limit + 1) bytes
