use Rattle.refute_seq.specs.laws.Whole.{all_unrefuted_hold}
use Rattle.lock_seq.proofs.of_refute_seq.settled_orders_keep_apart.Goals as goal

pub returns : goal.returns
returns c = all_unrefuted_hold
