use Rattle.std.proofs.Common.{[], take}
use Rattle.findings.specs.code.Reads.{is_among}
use Rattle.findings.specs.code.Search.{NoEndRefuted}
use Rattle.findings.proofs.searching.refuted_order.Given as goal

abbrev pub invariant-loop-pair : goal.invariant-loop-pair
invariant-loop-pair g l = NoEndRefuted (g.T.GuessTest.refuting l.test) l.region.region (is_among [] (take l.pair-index l.pairs))
