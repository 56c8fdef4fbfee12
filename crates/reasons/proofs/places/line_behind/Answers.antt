use Rattle.std.proofs.Common.{refl}
use Rattle.reasons.proofs.LineByLine.{line_more, line_end, line_few}
use Rattle.reasons.proofs.places.line_behind.Goals as goal

pub loop-b-preserved : goal.loop-b-preserved
loop-b-preserved c = record {
  same = line_more c.args.bytes.now c.loop-b.b-index _ _ _ _ _ c.loop-b-test.true refl c.next_line-line.ensures c.loop-b.invariant.same;
  few = line_few _ _ _ _ c.next_line-line.ensures c.loop-b.invariant.few;
}

pub returns : goal.returns
returns c = line_end c.args.bytes.now c.loop-b.b-index _ _ c.loop-b-test.false c.loop-b.invariant.same
