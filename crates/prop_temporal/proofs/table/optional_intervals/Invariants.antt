use Rattle.prop_temporal.specs.code.Tables.{AreOptional}
use Rattle.prop_temporal.proofs.table.optional_intervals.Given as goal

abbrev pub invariant-loop-x : goal.invariant-loop-x
invariant-loop-x l = AreOptional l.intervals l.x l.list.items
