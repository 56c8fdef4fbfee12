use Rattle.std.proofs.Common.{◌≡◌, take}
use Rattle.sched_model.specs.Value.{present_of}
use Rattle.read_schedule.proofs.assignment.present_of.Given as goal

abbrev pub invariant-loop-x : goal.invariant-loop-x
invariant-loop-x l = l.order ≡ present_of l.a (take l.x-index l.members)
