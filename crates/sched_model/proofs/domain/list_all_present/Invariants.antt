use Rattle.std.proofs.Common.{◌≡◌, drop}
use Rattle.sched_model.specs.Words.{placewise}
use Rattle.sched_model.specs.Domain.{lists_present}
use Rattle.sched_model.proofs.domain.list_all_present.Given as goal

abbrev pub invariant-loop-i : goal.invariant-loop-i
invariant-loop-i l = placewise (lists_present l.a) (drop l.i l.defs) (drop l.i l.orders) ≡ placewise (lists_present l.a) l.defs l.orders
