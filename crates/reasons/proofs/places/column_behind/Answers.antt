use Rattle.std.proofs.Common.{refl}
use Rattle.reasons.proofs.LineByLine.{column_more, column_end, column_few}
use Rattle.reasons.proofs.places.column_behind.Goals as goal

pub loop-b-preserved : goal.loop-b-preserved
loop-b-preserved c = record {
  same = column_more c.args.bytes.now c.loop-b.b-index _ _ _ _ _ c.loop-b-test.true refl c.next_column-column.ensures c.loop-b.invariant.same;
  few = column_few _ _ _ _ c.next_column-column.ensures c.loop-b.invariant.few;
}

pub returns : goal.returns
returns c = column_end c.args.bytes.now c.loop-b.b-index _ _ c.loop-b-test.false c.loop-b.invariant.same
