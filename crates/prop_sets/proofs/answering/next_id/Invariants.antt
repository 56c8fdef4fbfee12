use Rattle.prop_sets.specs.code.Busy.{IsNextOf}
use Rattle.prop_sets.proofs.answering.next_id.Given as goal

abbrev pub invariant-loop-j : goal.invariant-loop-j
invariant-loop-j l = IsNextOf l.members l.set l.j l.from l.n l.next
