use Rattle.std.proofs.Common.{arith}
use Rattle.std.proofs.lemmas.Int.{ints, to_z-of_z}
use Rattle.sched_model.proofs.domain.lasts_in.Goals as goal

pub returns-then-size-from : goal.returns-then-size-from
returns-then-size-from c = grind (arith, ints, to_z-of_z)

pub returns : goal.returns
returns c = grind (arith, ints, to_z-of_z)
