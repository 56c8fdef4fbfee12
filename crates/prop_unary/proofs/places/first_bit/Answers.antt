use Rattle.prop_unary.proofs.Sets.{lowest_there}
use Rattle.prop_unary.proofs.places.first_bit.Goals as goal

pub returns-clause-there : goal.returns-clause-there
returns-clause-there c = lowest_there c.args.word c.requires c.ranges.word.fits
