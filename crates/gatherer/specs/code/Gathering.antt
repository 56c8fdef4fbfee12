-- What gathering for a port does: some bytes wait before they are written.
use Rattle.std.specs.Prelude.{◌≡◌, ℕ, ◌≤◌, true, ◌++◌, length, take, drop, Result, OnOk, IsOk}
use Rattle.sched_base.specs.declared.desk.Failed.{Failed}
use Rattle.sched_base.specs.declared.desk.Port.{Port}
use Rattle.sched_base.specs.State.{Bytes, State, held_on, with_faults, with_held}
use Rattle.sched_base.specs.Calls.{Counted, appended}

-- of what was held and the text behind it the first bytes were appended to the port, and the others are kept;
-- a failure keeps nothing
pub record Gathers (to : Port) (text : Bytes) (result : Result (Unit {0}) Failed) (held kept : Bytes) (old new : State) : Type 0 where
  pub only : new ≡ with_faults new.faults (with_held to (held_on to new) old)
  pub part : (n : ℕ) × (n ≤ length (held ++ text)) × (held_on to new ≡ appended (take n (held ++ text)) (held_on to old)) × OnOk result (kept ≡ drop n (held ++ text))
  pub count : Counted result old.faults new.faults
  pub calm : old.calm ≡ true → IsOk result
