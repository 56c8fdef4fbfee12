use Rattle.std.proofs.Common.{◌≡◌, drop}
use Rattle.std.specs.List.{list_all}
use Rattle.region.specs.Cells.{is_ordered}
use Rattle.solver.proofs.order.cut_orders.Given as goal

abbrev pub invariant-loop-p : goal.invariant-loop-p
invariant-loop-p l = list_all (is_ordered l.look.region) (drop l.p l.look.region.orders) ≡ list_all (is_ordered l.look.region) l.look.region.orders
