use Rattle.std.proofs.Common.{arith, to_z-of_z}
use Rattle.std.proofs.lemmas.Int.{ints}
use Rattle.theta_passes.proofs.scan.end_with.Goals as goal

pub returns-in-Maybe : goal.returns-in-Maybe
returns-in-Maybe c = grind (arith, ints, to_z-of_z, c.from.ensures, c.from-in-Maybe.ensures)
