use Rattle.std.proofs.Common.{◌-◌}
use Rattle.reasons.proofs.sought.furthest.Given as goal

abbrev pub decreases-loop-alloc : goal.decreases-loop-alloc
decreases-loop-alloc l = l.high - l.low
