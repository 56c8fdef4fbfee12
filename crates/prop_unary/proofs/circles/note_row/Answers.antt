use Rattle.std.proofs.Common.{arith, rules}
use Rattle.prop_unary.proofs.Reading.{away_read, order_read, row_ends}
use Rattle.prop_unary.proofs.circles.note_row.Goals as goal

pub loop-k-preserved-then-is_away-2 : goal.loop-k-preserved-then-is_away-2
loop-k-preserved-then-is_away-2 c = record {
  same = c.loop-k.invariant.same;
  noted = away_read c.args.look.now.region c.args.p c.args.members.now c.loop-k.rows c.args.i c.loop-k.k (omega (arith, c.loop-k.auto.k)) (search rules) c.loop-k.invariant.noted;
}

pub loop-k-preserved : goal.loop-k-preserved
loop-k-preserved c = record {
  same = search rules;
  noted = order_read c.args.look.now.region c.args.p c.args.members.now c.loop-k.rows c.note_order.new.rows c.args.i c.loop-k.k c.order.result (omega (arith, c.loop-k.auto.k)) (search rules) (search rules) c.order.ensures c.loop-k.invariant.noted c.note_order.ensures.noted;
}

pub returns-clause-noted : goal.returns-clause-noted
returns-clause-noted c = row_ends c.args.look.now.region c.args.p c.args.members.now c.loop-k.rows c.args.i c.loop-k.k c.loop-k-test.false c.loop-k.invariant.noted
