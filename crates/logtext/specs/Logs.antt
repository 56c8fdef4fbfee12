-- Logs: lines that a log may hold, that step one after another from the opening state of a model.
use Rattle.std.specs.Prelude.{ℤ, Bool, true, not, IsTrue, List, All}
use Rattle.std.specs.List.{list_all}
use Rattle.sched_model.specs.Data.{Data}
use Rattle.kernel.specs.declared.types.Line.{Line}
use Rattle.region.specs.Looks.{Refuting}
use Rattle.kernel.specs.Refuting.{refutes_with}
use Rattle.kernel.specs.Steps.{LogState, Steps, opening, is_restart}
use Rattle.textline.specs.Lines.{Bytes}
use Rattle.logtext.specs.declared.entry.Entry.TheVariants.{Step}
use Rattle.logtext.specs.declared.version.Version.{Version}
use Rattle.logtext.specs.declared.version.Version.TheVariants.{One, Two}
use Rattle.logtext.specs.Spelling.{line_text, lines_text, log_text}
use Rattle.logtext.specs.Entries.{Spells}
use Rattle.logtext.specs.Extra.{LogWitness, log_refutes, log_numbers, log_valid}

abbrev pub IsLine : {W : Type 0} → (W → List ℤ) → (W → Bool) → Line W → Type 0
IsLine numbers valid l = Spells numbers valid (line_text numbers l) (Step l)

-- the lines lead from the opening state to this one
pub record IsLog {W : Type 0} (refutes : Refuting W) (numbers : W → List ℤ) (valid : W → Bool) (m : Data) (lines : List (Line W)) (s : LogState) : Type 0 where
  pub each : All (IsLine numbers valid) lines
  pub steps : Steps (refutes_with refutes) m (opening m) lines s

-- only a log of the second version begins anew
abbrev pub may_hold : {W : Type 0} → Version → Line W → Bool
may_hold One l = not (is_restart l)
may_hold Two l = true

abbrev pub MayHold : {W : Type 0} → Version → List (Line W) → Type 0
MayHold version lines = IsTrue (list_all (may_hold version) lines)

-- The logs that are written and judged here.

abbrev pub PlainLine : Type 0
PlainLine = Line LogWitness

abbrev pub IsPlainLog : Data → List PlainLine → LogState → Type 0
IsPlainLog m lines s = IsLog log_refutes log_numbers log_valid m lines s

abbrev pub plain_text : PlainLine → Bytes
plain_text l = line_text log_numbers l

abbrev pub plain_lines : List PlainLine → Bytes
plain_lines ls = lines_text log_numbers ls

abbrev pub plain_log : Version → List PlainLine → Bytes
plain_log version ls = log_text log_numbers version ls
