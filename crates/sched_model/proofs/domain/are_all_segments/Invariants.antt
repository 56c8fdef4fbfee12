use Rattle.std.proofs.Common.{◌≡◌, drop}
use Rattle.sched_model.specs.Words.{placewise}
use Rattle.sched_model.specs.Domain.{are_segments}
use Rattle.sched_model.proofs.domain.are_all_segments.Given as goal

abbrev pub invariant-loop-i : goal.invariant-loop-i
invariant-loop-i l = placewise (are_segments l.model) (drop l.i l.defs) (drop l.i l.lists) ≡ placewise (are_segments l.model) l.defs l.lists
