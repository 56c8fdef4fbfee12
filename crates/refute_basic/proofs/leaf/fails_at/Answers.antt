use Rattle.std.proofs.Common.{sym}
use Rattle.refute_basic.specs.laws.Fits.{settled_fits}
use Rattle.sched_model.specs.laws.Listed.{valid_at}
use Rattle.refute_basic.proofs.Slots.{failing_at}
use Rattle.refute_basic.proofs.leaf.fails_at.Goals as goal

pub fails-requires-clause-valid : goal.fails-requires-clause-valid
fails-requires-clause-valid c = valid_at c.args.model.now c.constraints.result.now c.args.u c.in-Some.c.now c.constraints.ensures.valid c.constraints.ensures.list (sym c.in-Some.ensures)

pub fails-requires-clause-fit : goal.fails-requires-clause-fit
fails-requires-clause-fit c = settled_fits c.args.model.now c.args.look.now.region c.requires.of c.requires.settled c.requires.sized

pub returns-in-Some : goal.returns-in-Some
returns-in-Some c = failing_at c.args.model.now c.args.look.now.region c.constraints.result.now c.args.u c.in-Some.c.now c.fails.result c.constraints.ensures.list (sym c.in-Some.ensures) c.fails.ensures
