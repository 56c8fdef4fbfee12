use Rattle.prop_sets.specs.code.Orders.{ArePlaces}
use Rattle.prop_sets.proofs.orders.places.Given as goal

abbrev pub invariant-loop-k : goal.invariant-loop-k
invariant-loop-k l = ArePlaces l.keyed l.k l.order.items
