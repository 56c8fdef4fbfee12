use Rattle.prop_state.specs.code.Known.{AreUnknown}
use Rattle.prop_state.proofs.table.unknown.Given as goal

abbrev pub invariant-loop-k : goal.invariant-loop-k
invariant-loop-k l = AreUnknown l.k l.known.items
