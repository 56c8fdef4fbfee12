use Rattle.prop_unary.proofs.Resting.{both_backward}
use Rattle.prop_unary.proofs.rest.is_silent_backward.Goals as goal

pub returns : goal.returns
returns c = λ best silent. both_backward c.args.model.now c.args.region.now.region best c.args.d.now c.args.first.member c.args.second.member c.requires.is c.requires.told (c.is_silent_before.ensures best silent)
