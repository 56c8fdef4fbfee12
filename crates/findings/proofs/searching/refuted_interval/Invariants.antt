use Rattle.std.proofs.Common.{[], take}
use Rattle.findings.specs.code.Reads.{is_among}
use Rattle.findings.specs.code.Search.{NoEndRefuted}
use Rattle.findings.proofs.searching.refuted_interval.Given as goal

abbrev pub invariant-loop-x : goal.invariant-loop-x
invariant-loop-x g l = NoEndRefuted (g.T.GuessTest.refuting l.test) l.region.region (is_among (take l.x-index l.intervals) [])
