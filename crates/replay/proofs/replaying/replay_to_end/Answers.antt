use Rattle.std.proofs.Common.{Some, None, subst}
use Rattle.replay.proofs.Desk.{HeadAnswer, refuses_head}
use Rattle.replay.proofs.replaying.replay_to_end.Goals as goal

pub returns-in-None-clause-ends : goal.returns-in-None-clause-ends
returns-in-None-clause-ends g c =
    let old = g.D.Desk.state c.args.desk.now in
    let now = g.D.Desk.state c.take_head.new.desk in
    let found : HeadAnswer g.X.Refuter.refuting g.X.Witness.Numbers.numbers g.X.Witness.Numbers.is_valid g.V.Watcher.noted c.args.watcher.now old now c.take_head.new.lines None =
    subst (HeadAnswer g.X.Refuter.refuting g.X.Witness.Numbers.numbers g.X.Witness.Numbers.is_valid g.V.Watcher.noted c.args.watcher.now old now c.take_head.new.lines) c.in-None.is c.in_ok-version.ensures.head in
    refuses_head g.X.Refuter.refuting g.X.Witness.Numbers.numbers g.X.Witness.Numbers.is_valid g.V.Watcher.noted c.args.watcher.now c.args.model.now old now found.0 found.1.reading found.1.few found.2 c.args.watcher.now

pub replay_lines-requires-clause-begun : goal.replay_lines-requires-clause-begun
replay_lines-requires-clause-begun g c =
    let old = g.D.Desk.state c.args.desk.now in
    let now = g.D.Desk.state c.take_head.new.desk in
    let found : HeadAnswer g.X.Refuter.refuting g.X.Witness.Numbers.numbers g.X.Witness.Numbers.is_valid g.V.Watcher.noted c.args.watcher.now old now c.take_head.new.lines (Some c.in-Some.version) =
    subst (HeadAnswer g.X.Refuter.refuting g.X.Witness.Numbers.numbers g.X.Witness.Numbers.is_valid g.V.Watcher.noted c.args.watcher.now old now c.take_head.new.lines) c.in-Some.is c.in_ok-version.ensures.head in
    (old, found)

pub returns-clause-ends : goal.returns-clause-ends
returns-clause-ends g c =
    let old = g.D.Desk.state c.args.desk.now in
    let now = g.D.Desk.state c.take_head.new.desk in
    let found : HeadAnswer g.X.Refuter.refuting g.X.Witness.Numbers.numbers g.X.Witness.Numbers.is_valid g.V.Watcher.noted c.args.watcher.now old now c.take_head.new.lines (Some c.in-Some.version) =
    subst (HeadAnswer g.X.Refuter.refuting g.X.Witness.Numbers.numbers g.X.Witness.Numbers.is_valid g.V.Watcher.noted c.args.watcher.now old now c.take_head.new.lines) c.in-Some.is c.in_ok-version.ensures.head in
    c.in_ok-ending.ensures.ends old found
