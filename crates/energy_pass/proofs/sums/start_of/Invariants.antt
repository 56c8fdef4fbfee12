use Rattle.energy_pass.specs.code.Starts.{Summed}
use Rattle.energy_pass.proofs.sums.start_of.Given as goal

abbrev pub invariant-loop-k : goal.invariant-loop-k
invariant-loop-k l = Summed l.rows l.capacity l.end l.k l.sum

abbrev pub decreases-loop-k : goal.decreases-loop-k
decreases-loop-k l = l.k
