-- Laws of the judgement of a log, whatever its extra witnesses are.
use Rattle.std.specs.Prelude.{◌≡◌, ℕ, ◌≤◌, ℤ, Bool, List, length}
use Rattle.sched_model.specs.Data.{Data}
use Rattle.sched_model.specs.Valid.{IsValid}
use Rattle.sched_model.specs.declared.types.Verdict.{Verdict}
use Rattle.region.specs.Looks.{Refuting}
use Rattle.kernel.specs.declared.types.Line.{Line}
use Rattle.kernel.specs.Steps.{LogState, verdict_of}
use Rattle.kernel.specs.Promises.{Means}
use Rattle.textline.specs.Lines.{Bytes}
use Rattle.logtext.specs.Spelling.{log_text}
use Rattle.logtext.specs.declared.version.Version.{Version}
use Rattle.logtext.specs.Logs.{IsLog, MayHold}
use Rattle.logtext.specs.Judgement.{IsAccepted, IsRefused, IsTooLong, log_limit}

-- bytes are accepted with one verdict and one count, or refused at one line, and not both
abbrev pub OneVerdict : {W : Type 0} → Refuting W → (W → List ℤ) → (W → Bool) → Type 0
OneVerdict refutes numbers valid = (m : Data) (bytes : Bytes) (v w : Verdict) (i j : ℕ) → IsAccepted refutes numbers valid m bytes v i → IsAccepted refutes numbers valid m bytes w j → (v ≡ w) × (i ≡ j)

abbrev pub OneLine : {W : Type 0} → Refuting W → (W → List ℤ) → (W → Bool) → Type 0
OneLine refutes numbers valid = (m : Data) (bytes : Bytes) (j k : ℕ) → IsRefused refutes numbers valid m bytes j → IsRefused refutes numbers valid m bytes k → j ≡ k

abbrev pub NotBoth : {W : Type 0} → Refuting W → (W → List ℤ) → (W → Bool) → Type 0
NotBoth refutes numbers valid = (m : Data) (bytes : Bytes) (v : Verdict) (i k : ℕ) → IsAccepted refutes numbers valid m bytes v i → IsRefused refutes numbers valid m bytes k → ⊥

-- of bytes up to the limit none that are accepted are too long
abbrev pub NeverTooLong : {W : Type 0} → Refuting W → (W → List ℤ) → (W → Bool) → Type 0
NeverTooLong refutes numbers valid = (m : Data) (bytes : Bytes) (v : Verdict) (i : ℕ) → length bytes ≤ log_limit → IsAccepted refutes numbers valid m bytes v i → IsTooLong refutes numbers valid m bytes → ⊥

-- a log that is written whole is accepted with what it has shown
abbrev pub WholeLogIsAccepted : {W : Type 0} → Refuting W → (W → List ℤ) → (W → Bool) → Type 0
WholeLogIsAccepted {W} refutes numbers valid = (m : Data) (version : Version) (lines : List (Line W)) (s : LogState) → MayHold version lines → IsLog refutes numbers valid m lines s → IsAccepted refutes numbers valid m (log_text numbers version lines) (verdict_of s) s.nodes

-- a verdict that is accepted means what it says
abbrev pub AcceptedMeans : {W : Type 0} → Refuting W → (W → List ℤ) → (W → Bool) → Type 0
AcceptedMeans refutes numbers valid = (m : Data) (bytes : Bytes) (v : Verdict) (i : ℕ) → IsValid m → IsAccepted refutes numbers valid m bytes v i → Means m v
