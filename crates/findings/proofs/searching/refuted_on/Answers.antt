use Rattle.std.proofs.Common.{rules}
use Rattle.findings.proofs.Ending.{none_on}
use Rattle.findings.proofs.searching.refuted_on.Goals as goal

pub returns-clause-none : goal.returns-clause-none
returns-clause-none g c = none_on (g.T.GuessTest.refuting c.args.test.now) c.args.region.now.region c.args.x _ c.loop-g.g-index c.loop-g.invariant.items (search rules) c.loop-g.invariant.before
