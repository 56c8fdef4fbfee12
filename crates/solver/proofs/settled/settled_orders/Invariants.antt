use Rattle.std.proofs.Common.{◌≡◌, ◌++◌, drop, map}
use Rattle.refute_seq.specs.code.Order.{settled_order, settled_orders}
use Rattle.solver.proofs.settled.settled_orders.Given as goal

abbrev pub invariant-loop-p : goal.invariant-loop-p
invariant-loop-p l = l.orders.items ++ map (settled_order l.look.region) (drop l.p l.look.region.orders) ≡ settled_orders l.look.region
