use Rattle.std.proofs.Common.{subst}
use Rattle.thetatree.specs.code.Leaves.{Leaves, GivesEct}
use Rattle.thetatree.proofs.Tops.{top_gives_ect}
use Rattle.thetatree.proofs.tree.ThetaTree.ect.Goals as goal

pub returns : goal.returns
returns c = subst (λ (t : Leaves). GivesEct t c.index.result.now.ect) c.self.view_is (top_gives_ect _ c.self.inside.width c.self.inside.nodes.items c.self.invariant c.index.result.now c.index.ensures)
