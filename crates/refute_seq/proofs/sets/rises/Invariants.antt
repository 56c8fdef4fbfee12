use Rattle.std.specs.Prelude.{◌≡◌, drop, nat_lt}
use Rattle.sched_model.specs.Words.{adjacent}
use Rattle.refute_seq.proofs.sets.rises.Given as goal

abbrev pub invariant-loop-n : goal.invariant-loop-n
invariant-loop-n l = adjacent nat_lt (drop l.n l.set) ≡ adjacent nat_lt l.set
