use Rattle.theta_passes.proofs.Sets.{with_is}
use Rattle.theta_passes.proofs.places.with.Goals as goal

pub returns : goal.returns
returns c = λ j. with_is c.args.set c.args.k j c.from.result c.args.is_in c.requires c.from.ensures
