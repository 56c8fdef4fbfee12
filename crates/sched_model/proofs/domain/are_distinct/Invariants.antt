use Rattle.std.proofs.Common.{◌≡◌, drop, not}
use Rattle.sched_model.specs.Words.{pairwise}
use Rattle.sched_model.specs.Data.{same}
use Rattle.sched_model.proofs.domain.are_distinct.Given as goal

abbrev pub invariant-loop-i : goal.invariant-loop-i
invariant-loop-i l = pairwise (λ x y. not (same x y)) (drop l.i l.xs) ≡ pairwise (λ x y. not (same x y)) l.xs
