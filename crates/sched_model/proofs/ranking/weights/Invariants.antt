use Rattle.std.proofs.Common.{◌≡◌, ◌++◌, drop, option_map}
use Rattle.sched_model.specs.code.Ranks.{weights_of}
use Rattle.sched_model.proofs.ranking.weights.Given as goal

abbrev pub invariant-loop-i : goal.invariant-loop-i
invariant-loop-i l = option_map (λ ws. l.found.items ++ ws) (weights_of l.model (drop l.i l.es)) ≡ weights_of l.model l.es
