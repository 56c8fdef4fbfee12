use Rattle.prop_sets.proofs.Shown.{NotSeen}
use Rattle.prop_sets.proofs.passes.one_of.Given as goal

abbrev pub invariant-loop-j : goal.invariant-loop-j
invariant-loop-j l = NotSeen l.set l.k l.j
