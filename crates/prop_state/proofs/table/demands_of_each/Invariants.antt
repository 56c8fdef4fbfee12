use Rattle.prop_state.specs.code.Tables.{AreDemands}
use Rattle.prop_state.proofs.table.demands_of_each.Given as goal

abbrev pub invariant-loop-k : goal.invariant-loop-k
invariant-loop-k l = AreDemands l.model l.k l.lists.items
