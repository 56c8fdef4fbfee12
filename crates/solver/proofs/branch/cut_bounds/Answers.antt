use Rattle.std.proofs.Common.{arith}
use Rattle.std.proofs.lemmas.Int.{ints, to_z-of_z}
use Rattle.solver.proofs.cutting.Branching.{fixed_present}
use Rattle.solver.proofs.branch.cut_bounds.Goals as goal

pub returns-clause-none : goal.returns-clause-none
returns-clause-none c = fixed_present c.args.c c.requires.present c.requires.ordered (grind (arith, ints, to_z-of_z)) (grind (arith, ints, to_z-of_z))
