use Rattle.prop_sets.specs.code.Known.{AreNumbers}
use Rattle.prop_sets.proofs.known.numbers_in.Given as goal

abbrev pub invariant-loop-k : goal.invariant-loop-k
invariant-loop-k l = AreNumbers l.region.region l.members l.k l.list.items
