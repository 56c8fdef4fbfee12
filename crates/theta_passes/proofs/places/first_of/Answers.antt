use Rattle.theta_passes.proofs.Sets.{lowest_there}
use Rattle.theta_passes.proofs.places.first_of.Goals as goal

pub returns-clause-there : goal.returns-clause-there
returns-clause-there c = lowest_there c.args.set c.requires c.ranges.set.fits
