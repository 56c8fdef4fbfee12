use Rattle.std.proofs.Common.{◌≡◌, ◌≤◌, ◌-◌, true, length}
use Rattle.sched_base.specs.declared.desk.Inlet.TheVariants.{Log}
use Rattle.sched_base.specs.State.{State, is_opened}
use Rattle.kernel.specs.Promises.{Ready}
use Rattle.logtext.specs.Judgement.{log_limit}
use Rattle.replay.specs.code.Turns.{IsBehindHead}
use Rattle.replay.proofs.Desk.{Judging}
use Rattle.replay.proofs.replaying.replay_lines.Given as goal

abbrev pub invariant-lines : goal.invariant-lines
invariant-lines g l = record {
  judging : (start : State) → IsBehindHead g.X.Witness.Numbers.numbers g.X.Witness.Numbers.is_valid l.version start (g.D.Desk.state l.initial.desk) l.initial.lines → Judging g.X.Refuter.refuting g.X.Witness.Numbers.numbers g.X.Witness.Numbers.is_valid g.V.Watcher.noted l.initial.watcher l.model l.version start (g.D.Desk.state l.desk) l.lines l.line l.kernel l.watcher;
  ready : Ready l.model l.kernel;
  opened : is_opened Log (g.D.Desk.state l.desk) ≡ true;
  limit : l.lines.count ≤ log_limit;
}

abbrev pub decreases-lines : goal.decreases-lines
decreases-lines g l = log_limit - (l.lines.count - length l.lines.rest)
