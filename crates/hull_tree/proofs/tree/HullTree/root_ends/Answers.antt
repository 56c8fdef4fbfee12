use Rattle.std.proofs.Common.{ap, arith}
use Rattle.hull_tree.proofs.Whole.{differ_at, own_range}
use Rattle.hull_tree.proofs.tree.HullTree.root_ends.Goals as goal

pub root_under-requires-clause-differ : goal.root_under-requires-clause-differ
root_under-requires-clause-differ c = differ_at c.args.model.now c.args.self.now c.in-Some.g c.args.region.now.region c.look.result.region c.changed.result c.changed.ensures (ap (λ l. l.region) c.look.ensures.value) c.requires.evaluated

pub returns-in-None : goal.returns-in-None
returns-in-None c = own_range c.args.model.now _ c.args.self.now c.args.guess c.args.region.now.region c.index.result.now c.self.view_is c.in-None.is c.requires.evaluated c.index.ensures (omega (arith, c.self.invariant.within, c.self.invariant.size))
