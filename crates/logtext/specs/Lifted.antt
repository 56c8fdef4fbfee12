-- Lines without extra witnesses as lines of the logs that are written and judged here.
use Rattle.std.specs.Prelude.{◌≡◌, Bool, true, false, List, [], map}
use Rattle.sched_model.specs.Data.{Data}
use Rattle.region.specs.Looks.{Refuting}
use Rattle.kernel.specs.declared.types.Witness.{Witness}
use Rattle.kernel.specs.declared.types.Witness.TheVariants.{Basic, Hier, Seq, Cumul, State, Extra}
use Rattle.kernel.specs.declared.types.Line.{Line}
use Rattle.kernel.specs.declared.types.Line.TheVariants.{Derive, Fail, Split, Sol, Restart}
use Rattle.kernel.specs.declared.no_extra.NoWitness.{NoWitness}
use Rattle.kernel.specs.NoExtra.{numbers_of as no_numbers, is_valid as is_never, refutes_none}
use Rattle.kernel.specs.Refuting.{refutes_with}
use Rattle.kernel.specs.Steps.{LogState, Steps, step}
use Rattle.kernel.specs.Fit.{is_fit}
use Rattle.logtext.specs.Extra.{LogWitness, log_refutes, log_numbers, log_valid}
use Rattle.logtext.specs.Spelling.{line_text}

-- one that is never valid stands for what is no witness
abbrev pub no_witness : LogWitness
no_witness = record { c = record { 0 = 0 }; parts = [] }

abbrev pub lifted_witness : Witness NoWitness → Witness LogWitness
lifted_witness (Basic w) = Basic w
lifted_witness (Hier w) = Hier w
lifted_witness (Seq w) = Seq w
lifted_witness (Cumul w) = Cumul w
lifted_witness (State w) = State w
lifted_witness (Extra w) = Extra no_witness

abbrev pub lifted : Line NoWitness → Line LogWitness
lifted (Derive g w) = Derive g (lifted_witness w)
lifted (Fail w) = Fail (lifted_witness w)
lifted (Split g) = Split g
lifted (Sol a) = Sol a
lifted Restart = Restart

abbrev pub is_extra : {W : Type 0} → Witness W → Bool
is_extra (Extra w) = true
is_extra _ = false

abbrev pub has_extra : {W : Type 0} → Line W → Bool
has_extra (Derive g w) = is_extra w
has_extra (Fail w) = is_extra w
has_extra (Split g) = false
has_extra (Sol a) = false
has_extra Restart = false

-- what a line without extra witnesses refutes, and what the lines of these logs do
abbrev pub refutes_plain : Refuting (Witness NoWitness)
refutes_plain = refutes_with refutes_none

abbrev pub refutes_logged : Refuting (Witness LogWitness)
refutes_logged = refutes_with log_refutes

-- a line steps as it does where there are no extra witnesses
abbrev pub SameStep : Type 0
SameStep = (m : Data) (s : LogState) (line : Line NoWitness) → step refutes_logged m (lifted line) s ≡ step refutes_plain m line s

abbrev pub SameSteps : Type 0
SameSteps = (m : Data) (s t : LogState) (lines : List (Line NoWitness)) → Steps refutes_plain m s lines t → Steps refutes_logged m s (map lifted lines) t

-- is spelled so
abbrev pub SameSpelling : Type 0
SameSpelling = (line : Line NoWitness) → has_extra line ≡ false → line_text log_numbers (lifted line) ≡ line_text no_numbers line

-- and may stand in a log where it could
abbrev pub SameFit : Type 0
SameFit = (line : Line NoWitness) → is_fit log_valid (lifted line) ≡ is_fit is_never line
