use Rattle.std.proofs.Common.{◌≡◌, rules, sym, subst}
use Rattle.std.specs.Option.{option_map}
use Rattle.thetatree.specs.code.Leaves.{Leaves, GivesEctGray}
use Rattle.thetatree.proofs.Tops.{answer_of, top_gives_gray}
use Rattle.thetatree.proofs.tree.ThetaTree.ect_gray.Goals as goal

pub returns : goal.returns
returns c =
    let is : c.map.result ≡ option_map answer_of c.index.result.now.gray_ect = search rules in
    subst (λ (t : Leaves). GivesEctGray t c.map.result) c.self.view_is
    (subst (GivesEctGray _) (sym is) (top_gives_gray _ c.self.inside.width c.self.inside.nodes.items c.self.invariant c.index.result.now c.index.ensures))
