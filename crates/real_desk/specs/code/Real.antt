-- A desk over real files, which tells nothing of what they hold.
use Rattle.std.specs.Prelude.{ℕ, Bool, false, None}
use Rattle.sched_base.specs.State.{State, Place}

abbrev pub untold : Bool → Place
untold opened = record { opened = opened; left = None }

-- which slots are opened, whether a log was created, and the count of faults; nothing is told of its name
abbrev pub real_state : Bool → Bool → Bool → Bool → ℕ → State
real_state model log schedule created faults = record {
  files = None;
  model = untold model;
  log = untold log;
  schedule = untold schedule;
  out = None;
  err = None;
  logged = None;
  created = created;
  logs = None;
  calm = false;
  faults = faults;
}
