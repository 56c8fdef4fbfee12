-- What solving a model gives, and what it does to the desk.
use Rattle.std.specs.Prelude.{◌≡◌, ◌+◌, ◌*◌, ◌≤◌, true, false, List, None, Result, Ok, Err, option_map, ⊤}
use Rattle.sched_base.specs.State.{State}
use Rattle.sched_base.specs.Calls.{Rose, appended, AppendedFrom}
use Rattle.sched_model.specs.declared.types.Solved.{Solved}
use Rattle.sched_model.specs.Data.{Data}
use Rattle.region.specs.Points.{budget_of}
use Rattle.kernel.specs.Steps.{LogState, verdict_of}
use Rattle.logtext.specs.Logs.{PlainLine, plain_log}
use Rattle.restart_rules.specs.Restarts.{Limits}
use Rattle.solver.specs.declared.fault.SolveFault.{SolveFault}
use Rattle.solver.specs.declared.fault.SolveFault.TheVariants.{Fault, NoMemory}
use Rattle.solver.specs.Versions.{version_of}
use Rattle.solver.specs.Written.{IsWritten}
use Rattle.sched_model.specs.Answers.{verdict_in}
use Rattle.solver.specs.Answers.{IsAnswer, shown_in, is_unfinished}

-- the lines are such as a search may have written, and end with this answer; it is unfinished only once the limit of nodes was
-- opened, each of them closed, and a region waits, and never where the limit is the budget of the restarts or more
pub record IsSolved (m : Data) (limits : Limits) (lines : List PlainLine) (s : LogState) (solved : Solved) : Type 0 where
  pub written : IsWritten m limits lines s
  pub nodes : solved.nodes ≡ s.nodes
  pub closed : s.current ≡ None
  pub verdict : verdict_of s ≡ verdict_in solved.answer
  pub shown : option_map (λ f. f.assignment) s.found ≡ shown_in solved.answer
  pub limited : is_unfinished solved.answer ≡ true → s.nodes ≡ limits.nodes
  pub enough : (limits.restarts + 1) * budget_of m ≤ limits.nodes → is_unfinished solved.answer ≡ false
  pub answer : IsAnswer m solved.answer

-- the whole log was appended
pub record Solves (m : Data) (limits : Limits) (solved : Solved) (old new : State) : Type 0 where
  pub lines : List PlainLine
  pub state : LogState
  pub is : IsSolved m limits lines state solved
  pub logged : new ≡ record old { logged = appended (plain_log (version_of limits.restarts) lines) old.logged }

-- a front part of the text of such lines was appended
pub record BeginsLog (m : Data) (limits : Limits) (old new : State) : Type 0 where
  pub lines : List PlainLine
  pub state : LogState
  pub written : IsWritten m limits lines state
  pub part : AppendedFrom (plain_log (version_of limits.restarts) lines) old.logged new.logged
  pub only : new ≡ record old { logged = new.logged; faults = new.faults }
  pub later : old.faults ≤ new.faults

abbrev pub CausesStop : SolveFault → State → State → Type 0
CausesStop Fault old new = Rose old.faults new.faults × (old.calm ≡ true → ⊥)
CausesStop NoMemory old new = ⊤

abbrev pub Gives : Data → Limits → Result Solved SolveFault → State → State → Type 0
Gives m limits (Ok solved) old new = Solves m limits solved old new
Gives m limits (Err fault) old new = BeginsLog m limits old new × CausesStop fault old new
