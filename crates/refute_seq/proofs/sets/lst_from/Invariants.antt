use Rattle.std.specs.Prelude.{◌≡◌, drop}
use Rattle.std.specs.Int.{int_max}
use Rattle.task_sets.specs.Times.{turned}
use Rattle.refute_seq.specs.Sets.{times_of}
use Rattle.refute_seq.proofs.Walking.{folded}
use Rattle.refute_seq.proofs.sets.lst_from.Given as goal

abbrev pub invariant-loop-n : goal.invariant-loop-n
invariant-loop-n l = folded int_max (λ i. i.lst) (turned l.side (times_of l.look.region)) l.greatest (drop l.n-index l.set) ≡ folded int_max (λ i. i.lst) (turned l.side (times_of l.look.region)) l.moment l.set
