use Rattle.prop_sets.specs.code.Orders.{AreNamed}
use Rattle.prop_sets.proofs.orders.named.Given as goal

abbrev pub invariant-loop-k : goal.invariant-loop-k
invariant-loop-k l = AreNamed l.members l.keyed l.k l.list.items
