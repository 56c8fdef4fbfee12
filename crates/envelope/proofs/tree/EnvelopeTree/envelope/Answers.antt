use Rattle.std.proofs.Common.{subst}
use Rattle.envelope.specs.code.Bars.{Bars, GivesEnvelope}
use Rattle.envelope.proofs.Tops.{top_gives}
use Rattle.envelope.proofs.tree.EnvelopeTree.envelope.Goals as goal

pub returns : goal.returns
returns c = subst (λ (t : Bars). GivesEnvelope t c.index.result.now.env) c.self.view_is (top_gives _ c.self.inside.width c.self.inside.nodes.items c.self.invariant c.index.result.now c.index.ensures)
