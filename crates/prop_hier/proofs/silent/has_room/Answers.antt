use Rattle.std.proofs.Common.{arith, to_z-of_z}
use Rattle.std.proofs.lemmas.Int.{ints}
use Rattle.prop_hier.proofs.silent.has_room.Goals as goal

pub returns : goal.returns
returns c = grind (arith, ints, to_z-of_z, c.from.ensures, c.from-2.ensures, c.from-3.ensures)
