use Rattle.std.specs.Prelude.{◌≡◌, drop}
use Rattle.std.specs.Int.{int_min}
use Rattle.task_sets.specs.Times.{turned}
use Rattle.refute_seq.specs.Sets.{times_of}
use Rattle.refute_seq.proofs.Walking.{folded}
use Rattle.refute_seq.proofs.sets.est_from.Given as goal

abbrev pub invariant-loop-n : goal.invariant-loop-n
invariant-loop-n l = folded int_min (λ i. i.est) (turned l.side (times_of l.look.region)) l.least (drop l.n-index l.set) ≡ folded int_min (λ i. i.est) (turned l.side (times_of l.look.region)) l.moment l.set
