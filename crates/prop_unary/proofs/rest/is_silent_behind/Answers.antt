use Rattle.prop_unary.proofs.Resting.{open_turned}
use Rattle.prop_unary.proofs.rest.is_silent_behind.Goals as goal

pub returns : goal.returns
returns c = λ best silent. c.is_silent_open.ensures best silent (open_turned c.args.region.now.region c.args.d.now.p c.args.first.member c.args.second.member c.requires.told)
