use Rattle.refute_cumul.specs.laws.Settled.{all_unrefuted_hold}
use Rattle.lock_seq.proofs.of_refute_cumul.settled_levels_keep_bounds.Goals as goal

pub returns : goal.returns
returns c = all_unrefuted_hold
