use Rattle.read_schedule.proofs.spelling.Values.{Alike}
use Rattle.read_schedule.proofs.header.are_numbers.Given as goal

abbrev pub invariant-loop-left : goal.invariant-loop-left
invariant-loop-left l = Alike l.word l.left l.rest

abbrev pub decreases-loop-left : goal.decreases-loop-left
decreases-loop-left l = l.left
