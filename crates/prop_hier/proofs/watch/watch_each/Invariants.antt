use Rattle.prop_hier.proofs.Making.{ListBelow}
use Rattle.prop_hier.proofs.watch.watch_each.Given as goal

abbrev pub invariant-loop-constraint : goal.invariant-loop-constraint
invariant-loop-constraint l = ListBelow l.model l.constraint-index l.constraints l.list.items
