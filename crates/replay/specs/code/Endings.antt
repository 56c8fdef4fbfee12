-- How reading the lines of a log ends: for whoever takes a whole one alone, and for whoever takes one that was cut.
use Rattle.std.specs.Prelude.{ℤ, Bool, List, Result, Ok, Err}
use Rattle.sched_base.specs.State.{State}
use Rattle.sched_model.specs.Data.{Data}
use Rattle.region.specs.Looks.{Refuting}
use Rattle.kernel.specs.declared.types.Line.{Line}
use Rattle.kernel.specs.Steps.{LogState}
use Rattle.replay.specs.declared.fault.ReplayFault.{ReplayFault}
use Rattle.replay.specs.declared.fault.ReplayFault.TheVariants.{Refused}
use Rattle.replay.specs.declared.replaying.Ending.{Ending}
use Rattle.replay.specs.declared.replaying.Ending.TheVariants.{Whole, Cut}
use Rattle.replay.specs.Replaying.{Replays, ReplaysFront}

-- in a state that the caller has
abbrev pub Ends : {W S : Type 0} → Refuting W → (W → List ℤ) → (W → Bool) → (S → Line W → S) → Data → Result Ending ReplayFault → LogState → S → S → State → State → Type 0
Ends refutes numbers valid noted m (Ok Whole) s before after old new = Replays refutes numbers valid noted m (Ok s) before after old new × ReplaysFront refutes numbers valid noted m (Ok s) before after old new
Ends refutes numbers valid noted m (Ok (Cut k at)) s before after old new = Replays refutes numbers valid noted m (Err (Refused k at)) before after old new × ReplaysFront refutes numbers valid noted m (Ok s) before after old new
Ends refutes numbers valid noted m (Err e) s before after old new = Replays refutes numbers valid noted m (Err e) before after old new × ReplaysFront refutes numbers valid noted m (Err e) before after old new

-- with the state
abbrev pub EndsIn : {W S : Type 0} → Refuting W → (W → List ℤ) → (W → Bool) → (S → Line W → S) → Data → Result (LogState × Ending) ReplayFault → S → S → State → State → Type 0
EndsIn refutes numbers valid noted m (Ok p) before after old new = Ends refutes numbers valid noted m (Ok p.1) p.0 before after old new
EndsIn refutes numbers valid noted m (Err e) before after old new = Replays refutes numbers valid noted m (Err e) before after old new × ReplaysFront refutes numbers valid noted m (Err e) before after old new
