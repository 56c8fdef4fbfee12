use Rattle.prop_basic.proofs.Making.{FitBelow}
use Rattle.prop_basic.proofs.table.trees_of.Given as goal

abbrev pub invariant-loop-constraint : goal.invariant-loop-constraint
invariant-loop-constraint l = FitBelow l.constraint-index l.constraints l.trees.items
