use Rattle.kernel.specs.Refuting.{refutes_with}
use Rattle.kernel.specs.Named.{named_with}
use Rattle.kernel.proofs.Used.{used_leaves, core_meets}
use Rattle.kernel.proofs.Sounds.{sound_with}
use Rattle.kernel.proofs.laws.uses_enough.Goals as goal

pub returns : goal.returns
returns g c = record {
  leaves = λ m lines s valid steps. used_leaves (named_with g.X.Refuter.named) (refutes_with g.X.Refuter.refuting) m lines s valid (sound_with g.X.Refuter.named m g.X.Refuter.refuting (g.met.X.Refuter.sound m)) steps;
  core = core_meets;
}
