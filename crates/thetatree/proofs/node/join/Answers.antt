use Rattle.std.proofs.Common.{arith, ap, ◌∙◌}
use Rattle.std.proofs.lemmas.Int.{ints}
use Rattle.thetatree.specs.code.Nodes.{greater_of, best_of}
use Rattle.thetatree.proofs.Made.{made}
use Rattle.thetatree.proofs.node.join.Goals as goal

pub returns : goal.returns
returns c = made _ _ _ _ _ _ _ _
    (omega (arith, ints, c.plus.ensures))
    (c.greater_of.ensures ∙ ap (greater_of c.args.r.ect) c.white_then_white.ensures)
    c.gray_sum.ensures
    (c.best_of.ensures ∙ ap (best_of c.args.r.gray_ect) (c.best_of-gray.ensures ∙ (ap (λ a. best_of a c.white_then_gray.result) c.gray_then_white.ensures ∙ ap (best_of _) c.white_then_gray.ensures)))
