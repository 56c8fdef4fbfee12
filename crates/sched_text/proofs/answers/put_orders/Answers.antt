use Rattle.std.proofs.Common.{refl}
use Rattle.std.proofs.Common.{◌<◌, ◌≤◌, length, min, arith}
use Rattle.sched_text.specs.Answers.{order_line}
use Rattle.sched_text.proofs.Rows.{pair_more, pairs_end}
use Rattle.sched_text.proofs.Printing.{none_yet}
use Rattle.sched_text.proofs.answers.put_orders.Goals as goal

pub loop-i-init : goal.loop-i-init
loop-i-init g c = none_yet refl

pub loop-i-preserved : goal.loop-i-preserved
loop-i-preserved g c =
    let in_defs : c.loop-i.i < length c.args.defs.now = omega (arith, c.min-n.ensures) in
    let in_items : c.loop-i.i < length c.args.orders.now = omega (arith, c.min-n.ensures) in
    pair_more (order_line c.args.model.now) c.args.defs.now c.args.orders.now c.loop-i.i c.index-defs-i.result _ c.index-orders-i.result _ in_defs in_items c.index-defs-i.is c.index-orders-i.is c.loop-i.invariant (rw c.as_slice.ensures at c.put_order.ensures)

pub returns : goal.returns
returns g c =
    let past : min (length c.args.defs.now) (length c.args.orders.now) ≤ c.loop-i.i = omega (arith, c.min-n.ensures) in
    pairs_end (order_line c.args.model.now) c.args.defs.now c.args.orders.now c.loop-i.i past c.loop-i.invariant
