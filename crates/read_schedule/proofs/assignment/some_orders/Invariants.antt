use Rattle.std.proofs.Common.{◌≡◌, take, map}
use Rattle.sched_model.specs.Value.{present_of}
use Rattle.read_schedule.proofs.assignment.some_orders.Given as goal

abbrev pub invariant-loop-d : goal.invariant-loop-d
invariant-loop-d l = l.orders ≡ map (λ d. present_of l.a d.members) (take l.d-index l.defs)
