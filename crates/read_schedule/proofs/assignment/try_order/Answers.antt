use Rattle.read_schedule.proofs.given.Assignments.{order_tested}
use Rattle.read_schedule.proofs.assignment.try_order.Goals as goal

pub returns : goal.returns
returns c = order_tested c.args.model.now c.args.a c.args.i c.args.order c.exchange-orders.result.0 c.exchange-orders-2.result.0 c.exchange-orders.result.1 c.exchange-orders-2.result.1 c.in_domain-fits.result c.requires.domain c.requires.within c.exchange-orders.ensures c.exchange-orders-2.ensures c.in_domain-fits.ensures
