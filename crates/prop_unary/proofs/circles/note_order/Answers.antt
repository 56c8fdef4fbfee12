use Rattle.prop_unary.proofs.Reading.{order_put}
use Rattle.prop_unary.proofs.circles.note_order.Goals as goal

pub returns-clause-noted : goal.returns-clause-noted
returns-clause-noted c = order_put c.args.order c.args.rows.now c.args.i c.args.k c.eq.result c.eq-2.result c.put.new.self c.put-2.new.self _ c.requires.first c.requires.second c.eq.ensures c.eq-2.ensures c.put.ensures c.put-2.ensures
