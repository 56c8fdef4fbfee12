use Rattle.prop_unary.proofs.Sets.{without_bit_is, without_less}
use Rattle.prop_unary.proofs.places.without_bit.Goals as goal

pub returns : goal.returns
returns c = record {
  less = without_less c.args.word c.args.b c.requires.room c.requires.there;
  rest = λ i. without_bit_is c.args.word c.args.b i c.requires.room c.ranges.word.fits;
}
