use Rattle.std.proofs.Common.{◌≡◌, drop}
use Rattle.sched_model.specs.Sequence.{stands_next}
use Rattle.sched_model.proofs.sequence.stands_next.Given as goal

abbrev pub invariant-loop-i : goal.invariant-loop-i
invariant-loop-i l = stands_next (drop l.i l.xs) l.x l.y ≡ stands_next l.xs l.x l.y
