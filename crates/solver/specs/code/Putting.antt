-- What putting lines to a log does to the bytes that wait and to the desk.
use Rattle.std.specs.Prelude.{◌≡◌, ℕ, ◌≤◌, true, ◌++◌, length, take, drop}
use Rattle.sched_base.specs.State.{State}
use Rattle.sched_base.specs.Calls.{Rose, appended}
use Rattle.textline.specs.Lines.{Bytes}

-- of what waited and the text behind it the first bytes were appended to the log, and the others wait
pub record Puts (text held kept : Bytes) (old new : State) : Type 0 where
  pub count : ℕ
  pub within : count ≤ length (held ++ text)
  pub logged : new ≡ record old { logged = appended (take count (held ++ text)) old.logged }
  pub keeps : kept ≡ drop count (held ++ text)

-- the desk failed: of what waited and the text the first bytes were appended
pub record Breaks (text held : Bytes) (old new : State) : Type 0 where
  pub count : ℕ
  pub within : count ≤ length (held ++ text)
  pub logged : new ≡ record old { logged = appended (take count (held ++ text)) old.logged; faults = new.faults }
  pub rose : Rose old.faults new.faults
  pub later : old.faults ≤ new.faults
  pub calm : old.calm ≡ true → ⊥

-- the same by a writer at a desk, if that is still the same desk
pub record PutsNamed (same : Type 0) (text held kept : Bytes) (old new : State) : Type 0 where
  pub named : same
  pub puts : Puts text held kept old new

pub record BreaksNamed (same : Type 0) (text last held : Bytes) (old new : State) : Type 0 where
  pub named : same
  pub breaks : Breaks (text ++ last) held old new
