use Rattle.sched_text.proofs.Pushed.{Ahead}
use Rattle.sched_text.proofs.values.push_values.Given as goal

abbrev pub invariant-loop-i : goal.invariant-loop-i
invariant-loop-i l = Ahead l.model l.v l.i l.is_first l.initial.bytes.items l.bytes.items
