use Rattle.std.proofs.Common.{rules}
use Rattle.findings.proofs.Going.{none_more, one_of_all}
use Rattle.findings.proofs.searching.refuted_interval.Goals as goal

pub returns-in-Some-clause-some : goal.returns-in-Some-clause-some
returns-in-Some-clause-some g c = one_of_all (g.T.GuessTest.refuting c.args.test.now) c.args.region.now.region c.args.intervals.now c.loop-x.x-index _ c.in-Some.g (search rules) (search rules) c.in-Some.ensures.some

pub loop-x-preserved : goal.loop-x-preserved
loop-x-preserved g c = none_more (g.T.GuessTest.refuting c.args.test.now) c.args.region.now.region c.args.intervals.now c.loop-x.x-index _ c.loop-x.invariant (search rules) (search rules) c.in_default.ensures.none
