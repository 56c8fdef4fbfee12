use Rattle.std.proofs.Common.{rules}
use Rattle.findings.proofs.Going.{none_more_pairs, one_of_pairs}
use Rattle.findings.proofs.searching.refuted_order.Goals as goal

pub returns-in-Some-clause-some : goal.returns-in-Some-clause-some
returns-in-Some-clause-some g c = one_of_pairs (g.T.GuessTest.refuting c.args.test.now) c.args.region.now.region c.args.pairs.now c.loop-pair.pair-index _ c.in-Some.g (search rules) (search rules) c.in-Some.ensures.some

pub loop-pair-preserved : goal.loop-pair-preserved
loop-pair-preserved g c = none_more_pairs (g.T.GuessTest.refuting c.args.test.now) c.args.region.now.region c.args.pairs.now c.loop-pair.pair-index _ c.loop-pair.invariant (search rules) (search rules) c.in_default.ensures.none
