-- How the bytes of a log are judged here.
use Rattle.std.specs.Prelude.{ℕ}
use Rattle.sched_model.specs.Data.{Data}
use Rattle.sched_model.specs.declared.types.Verdict.{Verdict}
use Rattle.textline.specs.Lines.{Bytes}
use Rattle.logtext.specs.Extra.{log_refutes, log_numbers, log_valid}
use Rattle.logtext.specs.Judgement.{IsAccepted as Accepted, IsRefused as Refused, IsTooLong as TooLong}

-- the bytes are a whole log of the model, which shows this verdict with so many nodes
abbrev pub IsAccepted : Data → Bytes → Verdict → ℕ → Type 0
IsAccepted m bytes v n = Accepted log_refutes log_numbers log_valid m bytes v n

-- line k is the first that is wrong, or missing
abbrev pub IsRefused : Data → Bytes → ℕ → Type 0
IsRefused m bytes k = Refused log_refutes log_numbers log_valid m bytes k

-- the bytes up to the limit hold no wrong line and no last line
abbrev pub IsTooLong : Data → Bytes → Type 0
IsTooLong m bytes = TooLong log_refutes log_numbers log_valid m bytes
