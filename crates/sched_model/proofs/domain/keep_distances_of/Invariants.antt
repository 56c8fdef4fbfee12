use Rattle.std.proofs.Common.{◌≡◌, true}
use Rattle.sched_model.specs.Words.{pairwise}
use Rattle.sched_model.proofs.rows.Segments.{keeps_below}
use Rattle.sched_model.proofs.domain.keep_distances_of.Given as goal

abbrev pub invariant-loop-v : goal.invariant-loop-v
invariant-loop-v l = pairwise (keeps_below l.model l.g l.v) l.is ≡ true
