use Rattle.refute_basic.specs.laws.Fits.{settled_fits}
use Rattle.refute_basic.proofs.leaf.is_no_better.Goals as goal

pub value_settled-requires-clause-fit : goal.value_settled-requires-clause-fit
value_settled-requires-clause-fit c = settled_fits c.args.model.now c.args.look.now.region c.requires.of c.requires.settled c.requires.sized
