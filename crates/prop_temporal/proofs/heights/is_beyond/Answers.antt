use Rattle.std.proofs.Common.{arith, to_z-of_z}
use Rattle.std.proofs.lemmas.Int.{ints}
use Rattle.prop_temporal.proofs.heights.is_beyond.Goals as goal

pub returns : goal.returns
returns c = grind (arith, ints, to_z-of_z)
