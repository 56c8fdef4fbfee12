-- Laws of the judgement of a log.
use Rattle.std.specs.Prelude.{◌≡◌, ℕ, ◌≤◌, List, length}
use Rattle.sched_model.specs.Data.{Data}
use Rattle.sched_model.specs.Valid.{IsValid}
use Rattle.sched_model.specs.declared.types.Verdict.{Verdict}
use Rattle.kernel.specs.Steps.{LogState, verdict_of}
use Rattle.kernel.specs.Promises.{Means}
use Rattle.textline.specs.Lines.{Bytes}
use Rattle.logtext.specs.declared.version.Version.{Version}
use Rattle.logtext.specs.Logs.{PlainLine, IsPlainLog, plain_log, MayHold}
use Rattle.logtext.specs.Judgement.{log_limit}
use Rattle.checker.specs.Judgement.{IsAccepted, IsRefused, IsTooLong}

-- bytes are accepted with one verdict and one count, or refused at one line, and not both
abbrev pub OneVerdict : Type 0
OneVerdict = (m : Data) (bytes : Bytes) (v w : Verdict) (i j : ℕ) → IsAccepted m bytes v i → IsAccepted m bytes w j → (v ≡ w) × (i ≡ j)

abbrev pub OneLine : Type 0
OneLine = (m : Data) (bytes : Bytes) (j k : ℕ) → IsRefused m bytes j → IsRefused m bytes k → j ≡ k

abbrev pub NotBoth : Type 0
NotBoth = (m : Data) (bytes : Bytes) (v : Verdict) (i k : ℕ) → IsAccepted m bytes v i → IsRefused m bytes k → ⊥

-- of bytes up to the limit none that are accepted are too long
abbrev pub NeverTooLong : Type 0
NeverTooLong = (m : Data) (bytes : Bytes) (v : Verdict) (i : ℕ) → length bytes ≤ log_limit → IsAccepted m bytes v i → IsTooLong m bytes → ⊥

-- a log that is written whole is accepted with what it has shown
abbrev pub WholeLogIsAccepted : Type 0
WholeLogIsAccepted = (m : Data) (version : Version) (lines : List PlainLine) (s : LogState) → MayHold version lines → IsPlainLog m lines s → IsAccepted m (plain_log version lines) (verdict_of s) s.nodes

-- a verdict that is accepted means what it says
abbrev pub AcceptedMeans : Type 0
AcceptedMeans = (m : Data) (bytes : Bytes) (v : Verdict) (n : ℕ) → IsValid m → IsAccepted m bytes v n → Means m v
