use Rattle.std.proofs.Common.{ap, sym, ◌∙◌}
use Rattle.hull_tree.proofs.Whole.{root_range}
use Rattle.hull_tree.proofs.tree.HullTree.root_under.Goals as goal

pub returns : goal.returns
returns c = root_range c.args.model.now _ c.args.self.now c.self.inside.spans.items c.args.look.now.region c.under.result c.walk-walk.result.nodes.now c.self.view_is (c.walk-walk.ensures.nodes ∙ sym (ap (λ t. t.nodes) c.self.view_is)) c.self.invariant.nodes c.self.invariant.size c.under.ensures
