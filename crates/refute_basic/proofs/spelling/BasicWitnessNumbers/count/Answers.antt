use Rattle.refute_basic.proofs.Numbered.{counted}
use Rattle.refute_basic.proofs.spelling.BasicWitnessNumbers.count.Goals as goal

pub returns-in-Cycle : goal.returns-in-Cycle
returns-in-Cycle c = counted c.args.self.now _ c.as_slice.result.now c.count_of.result c.in-Cycle.is c.as_slice.ensures c.count_of.ensures
