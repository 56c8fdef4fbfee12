use Rattle.prop_unary.proofs.Sets.{part_is, same_number}
use Rattle.prop_unary.proofs.places.is_part.Goals as goal

pub returns : goal.returns
returns c = λ told b. part_is c.args.word c.args.of b (same_number _ _ told)
