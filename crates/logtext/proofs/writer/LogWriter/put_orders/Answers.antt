use Rattle.logtext.specs.Spelling.{order_words}
use Rattle.logtext.proofs.Spaced.{none_so_far, one_more, stops_at}
use Rattle.logtext.proofs.writer.LogWriter.put_orders.Goals as goal

pub loop-order-init : goal.loop-order-init
loop-order-init g c = none_so_far order_words c.args.orders.now

pub returns-in_err-put_order : goal.returns-in_err-put_order
returns-in_err-put_order g c = stops_at order_words c.args.orders.now c.loop-order.order-index _ _ c.loop-order-test.true c.order-item.is c.from_residual.ensures.0 c.loop-order.invariant (rw c.as_slice.ensures at c.in_err-put_order.ensures)

pub loop-order-preserved : goal.loop-order-preserved
loop-order-preserved g c = one_more order_words c.args.orders.now c.loop-order.order-index _ _ c.loop-order-test.true c.order-item.is c.loop-order.invariant (rw c.as_slice.ensures at c.in_ok-put_order.ensures)
