use Rattle.theta_passes.proofs.Sets.{without_is, without_less}
use Rattle.theta_passes.proofs.places.without.Goals as goal

pub returns : goal.returns
returns c = record {
  less = without_less c.args.set c.args.k c.requires.room c.requires.there;
  rest = λ j. without_is c.args.set c.args.k j c.requires.room c.ranges.set.fits;
}
