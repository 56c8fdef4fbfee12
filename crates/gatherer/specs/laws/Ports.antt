-- What a port holds, and a desk of which only one port and the count of faults have changed.
use Rattle.std.proofs.Common.{◌≡◌, ℕ, Option, refl}
use Rattle.sched_base.specs.declared.desk.Port.{Port}
use Rattle.sched_base.specs.declared.desk.Port.TheVariants.{Out, Err, Log}
use Rattle.sched_base.specs.State.{Bytes, State, held_on, with_faults, with_held}

-- what was put on a port stands there
pub held_there : (to : Port) (bytes : Option Bytes) (s : State) → held_on to (with_held to bytes s) ≡ bytes
held_there Out bytes s = refl
held_there Err bytes s = refl
held_there Log bytes s = refl

pub calm_there : (to : Port) (n : ℕ) (bytes : Option Bytes) (s : State) → (with_faults n (with_held to bytes s)).calm ≡ s.calm
calm_there Out n bytes s = refl
calm_there Err n bytes s = refl
calm_there Log n bytes s = refl

-- a desk that has not changed
pub unchanged : (to : Port) (s : State) → s ≡ with_faults s.faults (with_held to (held_on to s) s)
unchanged Out s = refl
unchanged Err s = refl
unchanged Log s = refl

-- nothing else has changed
abbrev pub Only : Port → State → State → Type 0
Only to old new = new ≡ with_faults new.faults (with_held to (held_on to new) old)

pub only_held : (to : Port) (bytes : Option Bytes) (s : State) → Only to s (with_held to bytes s)
only_held Out bytes s = refl
only_held Err bytes s = refl
only_held Log bytes s = refl

pub only_both : (to : Port) (n : ℕ) (bytes : Option Bytes) (s : State) → Only to s (with_faults n (with_held to bytes s))
only_both Out n bytes s = refl
only_both Err n bytes s = refl
only_both Log n bytes s = refl

pub both_there : (to : Port) (n : ℕ) (bytes : Option Bytes) (s : State) → held_on to (with_faults n (with_held to bytes s)) ≡ bytes
both_there Out n bytes s = refl
both_there Err n bytes s = refl
both_there Log n bytes s = refl

-- a second change hides the first
pub changed_twice : (to : Port) (n k : ℕ) (bytes before : Option Bytes) (s : State) → with_faults n (with_held to bytes (with_faults k (with_held to before s))) ≡ with_faults n (with_held to bytes s)
changed_twice Out n k bytes before s = refl
changed_twice Err n k bytes before s = refl
changed_twice Log n k bytes before s = refl

pub same_faults : (to : Port) (bytes : Option Bytes) (s : State) → with_faults s.faults (with_held to bytes s) ≡ with_held to bytes s
same_faults Out bytes s = refl
same_faults Err bytes s = refl
same_faults Log bytes s = refl
