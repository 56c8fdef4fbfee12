use Rattle.prop_energy.proofs.Remembering.{SameUntil}
use Rattle.prop_energy.proofs.known.are_same.Given as goal

abbrev pub invariant-loop-k : goal.invariant-loop-k
invariant-loop-k l = SameUntil l.old l.now l.k
