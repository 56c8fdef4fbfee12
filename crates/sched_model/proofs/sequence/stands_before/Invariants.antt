use Rattle.std.proofs.Common.{◌≡◌, drop}
use Rattle.sched_model.specs.Sequence.{stands_before}
use Rattle.sched_model.proofs.sequence.stands_before.Given as goal

abbrev pub invariant-loop-i : goal.invariant-loop-i
invariant-loop-i l = stands_before (drop l.i l.xs) l.x l.y ≡ stands_before l.xs l.x l.y
