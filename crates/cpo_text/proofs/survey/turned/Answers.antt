use Rattle.std.proofs.Common.{arith}
use Rattle.std.proofs.lemmas.Int.{ints, to_z-of_z}
use Rattle.cpo_text.proofs.survey.turned.Goals as goal

pub returns : goal.returns
returns c = record { is = grind (arith, ints, to_z-of_z); low = grind (arith, ints, to_z-of_z); high = grind (arith, ints, to_z-of_z) }
