use Rattle.std.proofs.Common.{◌≡◌, drop}
use Rattle.sched_model.specs.Words.{pairwise}
use Rattle.sched_model.specs.code.Sweep.{keeps_from}
use Rattle.sched_model.proofs.rows.Segments.{rest_keeps}
use Rattle.sched_model.proofs.domain.keep_distances_from.Given as goal

abbrev pub invariant-loop-i : goal.invariant-loop-i
invariant-loop-i l = rest_keeps l.model l.g l.every l.v l.end (drop l.i-index l.is) ≡ pairwise (keeps_from l.model l.g l.every l.v) l.is
