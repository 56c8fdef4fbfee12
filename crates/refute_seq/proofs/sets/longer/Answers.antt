use Rattle.std.proofs.Common.{arith, to_z-of_z}
use Rattle.std.proofs.lemmas.Int.{ints}
use Rattle.refute_seq.proofs.Walking.{shifted_near}
use Rattle.refute_seq.proofs.sets.longer.Goals as goal

pub returns-clause-low : goal.returns-clause-low
returns-clause-low c = let near = shifted_near c.size.result c.size.ensures.small in grind (arith, ints, to_z-of_z, c.from.ensures, near.0, near.1)

pub returns-clause-high : goal.returns-clause-high
returns-clause-high c = let near = shifted_near c.size.result c.size.ensures.small in grind (arith, ints, to_z-of_z, c.from.ensures, near.0, near.1)
