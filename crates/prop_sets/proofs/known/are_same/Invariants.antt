use Rattle.prop_sets.proofs.Remembering.{SameSoFar}
use Rattle.prop_sets.proofs.known.are_same.Given as goal

abbrev pub invariant-loop-k : goal.invariant-loop-k
invariant-loop-k l = SameSoFar l.old l.now l.k
