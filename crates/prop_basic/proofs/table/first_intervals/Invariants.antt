use Rattle.prop_basic.specs.code.Tables.{AreNumbered}
use Rattle.prop_basic.proofs.table.first_intervals.Given as goal

abbrev pub invariant-loop-x : goal.invariant-loop-x
invariant-loop-x l = AreNumbered l.x l.list.items
