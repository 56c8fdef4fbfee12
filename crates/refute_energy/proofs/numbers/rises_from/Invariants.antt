use Rattle.std.specs.Prelude.{◌≡◌, ◌∷◌, drop, nat_lt}
use Rattle.sched_model.specs.Words.{adjacent}
use Rattle.refute_energy.proofs.numbers.rises_from.Given as goal

abbrev pub invariant-loop-n : goal.invariant-loop-n
invariant-loop-n l = adjacent nat_lt (l.last ∷ drop l.n-index l.rest) ≡ adjacent nat_lt (l.first ∷ l.rest)
