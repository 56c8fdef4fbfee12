use Rattle.replay.proofs.Desk.{front_of}
use Rattle.replay.proofs.replaying.replay_front.Goals as goal

pub returns-clause-replays : goal.returns-clause-replays
returns-clause-replays g c =
    front_of g.X.Refuter.refuting g.X.Witness.Numbers.numbers g.X.Witness.Numbers.is_valid g.V.Watcher.noted c.args.watcher.now c.args.model.now c.in_ok-kernel.field-0-1 c.in_ok-kernel.kernel c.replay_to_end.new.watcher (g.D.Desk.state c.args.desk.now) (g.D.Desk.state c.replay_to_end.new.desk) c.in_ok-kernel.ensures.ends
