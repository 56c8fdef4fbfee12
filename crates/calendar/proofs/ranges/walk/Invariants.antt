use Rattle.calendar.proofs.Walk.{Goes}
use Rattle.calendar.proofs.ranges.walk.Given as goal

abbrev pub invariant-loop-pair : goal.invariant-loop-pair
invariant-loop-pair l = Goes l.ranges.items l.from l.value l.pairs l.pair-index
