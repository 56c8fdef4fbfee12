use Rattle.prop_sets.specs.code.Rows.{side_of}
use Rattle.prop_sets.specs.code.Orders.{AreStarts}
use Rattle.prop_sets.proofs.orders.starts.Given as goal

abbrev pub invariant-loop-k : goal.invariant-loop-k
invariant-loop-k l = AreStarts (side_of l.back) l.region.region l.members l.k l.keyed.items
