use Rattle.read_schedule.proofs.given.Standing.{FirstStand}
use Rattle.read_schedule.proofs.slots.each_of.Given as goal

abbrev pub invariant-loop-d : goal.invariant-loop-d
invariant-loop-d l = FirstStand l.defs l.d-index
