use Rattle.std.specs.Prelude.{◌-◌}
use Rattle.prop_sets.proofs.Naming.{ArePicked}
use Rattle.prop_sets.proofs.answering.ids_of.Given as goal

abbrev pub invariant-loop-x : goal.invariant-loop-x
invariant-loop-x l = ArePicked l.members l.set l.n l.x l.ids

abbrev pub decreases-loop-x : goal.decreases-loop-x
decreases-loop-x l = l.n - l.x
