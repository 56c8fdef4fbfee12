use Rattle.std.proofs.Common.{◌≡◌, drop}
use Rattle.sched_model.specs.Words.{placewise}
use Rattle.sched_model.specs.Domain.{fits_def}
use Rattle.sched_model.proofs.domain.fit_defs.Given as goal

abbrev pub invariant-loop-i : goal.invariant-loop-i
invariant-loop-i l = placewise fits_def (drop l.i l.defs) (drop l.i l.slots) ≡ placewise fits_def l.defs l.slots
