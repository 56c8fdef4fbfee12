use Rattle.prop_energy.proofs.Finding.{Tried}
use Rattle.prop_energy.proofs.find.first_of.Given as goal

abbrev pub invariant-loop-k : goal.invariant-loop-k
invariant-loop-k l = Tried l.model l.look l.bounds l.k
