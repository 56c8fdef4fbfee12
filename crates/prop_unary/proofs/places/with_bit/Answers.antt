use Rattle.prop_unary.proofs.Sets.{with_bit_is}
use Rattle.prop_unary.proofs.places.with_bit.Goals as goal

pub returns : goal.returns
returns c = λ i. with_bit_is c.args.word c.args.b i c.from.result c.args.is_set c.requires c.from.ensures
