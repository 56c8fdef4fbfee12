use Rattle.prop_sets.specs.code.Orders.{AreKeyed, on_by, key_by}
use Rattle.prop_sets.proofs.orders.keyed_by.Given as goal

abbrev pub invariant-loop-k : goal.invariant-loop-k
invariant-loop-k l = AreKeyed (on_by l.by l.rows) (key_by l.by l.rows) l.k l.keyed.items
