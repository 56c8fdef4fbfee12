use Rattle.std.proofs.Common.{◌≡◌, ◌≤◌, ◌-◌, ℕ, true}
use Rattle.sched_base.specs.declared.desk.Inlet.TheVariants.{Log}
use Rattle.sched_base.specs.State.{Bytes, State, is_opened}
use Rattle.logtext.specs.Judgement.{log_limit}
use Rattle.replay.specs.code.Pieces.{IsReading, Holds}
use Rattle.replay.proofs.Feeding.{Stands}
use Rattle.replay.proofs.reading.next_line.Given as goal

abbrev pub invariant-pieces : goal.invariant-pieces
invariant-pieces g l = record {
  stands : (start : State) (fed : Bytes) (place : ℕ) → IsReading start (g.D.Desk.state l.initial.desk) fed place → Holds l.initial.lines fed place → Stands start (g.D.Desk.state l.desk) fed place l.lines;
  opened : is_opened Log (g.D.Desk.state l.desk) ≡ true;
  limit : l.lines.count ≤ log_limit;
}

abbrev pub decreases-pieces : goal.decreases-pieces
decreases-pieces g l = log_limit - l.lines.count
