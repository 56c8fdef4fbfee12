use Rattle.std.proofs.Common.{arith, to_z-of_z}
use Rattle.std.proofs.lemmas.Int.{ints}
use Rattle.prop_state.proofs.silence.is_past.Goals as goal

pub returns : goal.returns
returns c = grind (arith, ints, to_z-of_z)
