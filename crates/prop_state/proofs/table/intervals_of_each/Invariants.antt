use Rattle.prop_state.specs.code.Tables.{AreIntervals}
use Rattle.prop_state.proofs.table.intervals_of_each.Given as goal

abbrev pub invariant-loop-k : goal.invariant-loop-k
invariant-loop-k l = AreIntervals l.model l.k l.lists.items
