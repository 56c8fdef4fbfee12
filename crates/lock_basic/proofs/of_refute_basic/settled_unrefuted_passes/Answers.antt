use Rattle.refute_basic.specs.laws.Exact.{unrefuted_passes}
use Rattle.lock_basic.proofs.of_refute_basic.settled_unrefuted_passes.Goals as goal

pub returns : goal.returns
returns c = unrefuted_passes
