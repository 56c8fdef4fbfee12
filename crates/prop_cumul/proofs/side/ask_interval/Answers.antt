use Rattle.std.proofs.Common.{rules}
use Rattle.prop_cumul.specs.laws.Asking.{quiet_on}
use Rattle.prop_cumul.proofs.side.ask_interval.Goals as goal

pub returns-clause-none : goal.returns-clause-none
returns-clause-none c = quiet_on c.args.at.now.model.now c.args.at.now.region.now.region c.args.at.now.bound c.args.at.now.below c.args.x _ c.loop-g.g-index c.loop-g.invariant.items (search rules) c.loop-g.invariant.before
