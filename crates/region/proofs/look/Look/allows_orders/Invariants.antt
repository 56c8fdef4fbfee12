use Rattle.std.proofs.Common.{◌≡◌, drop}
use Rattle.sched_model.specs.Words.{placewise}
use Rattle.region.specs.Orders.{allows_order}
use Rattle.region.proofs.look.Look.allows_orders.Given as goal

abbrev pub invariant-loop-p : goal.invariant-loop-p
invariant-loop-p l = placewise allows_order (drop l.p l.self.region.orders) (drop l.p l.orders) ≡ placewise allows_order l.self.region.orders l.orders
