use Rattle.prop_temporal.proofs.Making.{FitBelow}
use Rattle.prop_temporal.proofs.table.ends_of_all.Given as goal

abbrev pub invariant-loop-constraint : goal.invariant-loop-constraint
invariant-loop-constraint l = FitBelow l.constraint-index l.constraints l.ends.items
