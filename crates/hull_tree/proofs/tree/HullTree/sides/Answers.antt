use Rattle.std.proofs.Common.{ap}
use Rattle.hull_tree.proofs.Whole.{walk_differs}
use Rattle.hull_tree.proofs.tree.HullTree.sides.Goals as goal

pub under-requires-clause-differ : goal.under-requires-clause-differ
under-requires-clause-differ c = walk_differs c.args.model.now c.args.self.now c.args.guess c.args.region.now.region c.look-look.result.region c.changed.result c.walk-walk.result.nodes.now c.walk-walk.result.ends.now c.walk-walk.result.x.interval c.walk-walk.result.y.interval
    c.changed.ensures (ap (λ l. l.region) c.look-look.ensures.value) c.requires.evaluated c.walk-walk.ensures.nodes c.walk-walk.ensures.ends c.walk-walk.ensures.intervals.0 c.walk-walk.ensures.intervals.1

pub under-requires-2-clause-differ : goal.under-requires-2-clause-differ
under-requires-2-clause-differ c = walk_differs c.args.model.now c.args.self.now c.args.guess c.args.region.now.region c.look-look.result.region c.changed.result c.walk-walk.result.nodes.now c.walk-walk.result.ends.now c.walk-walk.result.x.interval c.walk-walk.result.y.interval
    c.changed.ensures (ap (λ l. l.region) c.look-look.ensures.value) c.requires.evaluated c.walk-walk.ensures.nodes c.walk-walk.ensures.ends c.walk-walk.ensures.intervals.0 c.walk-walk.ensures.intervals.1
