use Rattle.std.proofs.Common.{◌≡◌, [], replicate}
use Rattle.read_schedule.proofs.assignment.no_segments.Given as goal

abbrev pub invariant-loop-i : goal.invariant-loop-i
invariant-loop-i l = l.segs ≡ replicate l._i []
