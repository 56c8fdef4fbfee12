use Rattle.std.proofs.Common.{arith}
use Rattle.std.proofs.lemmas.Int.{ints, to_z-of_z}
use Rattle.sched_model.proofs.cumulative.is_within.Goals as goal

pub returns-then-level-from : goal.returns-then-level-from
returns-then-level-from c = grind (arith, ints, to_z-of_z)

pub returns : goal.returns
returns c = grind (arith, ints, to_z-of_z)
