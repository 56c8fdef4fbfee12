use Rattle.prop_sets.specs.code.Known.{AreUnknown}
use Rattle.prop_sets.proofs.table.unknown.Given as goal

abbrev pub invariant-loop-k : goal.invariant-loop-k
invariant-loop-k l = AreUnknown l.k l.known.items
