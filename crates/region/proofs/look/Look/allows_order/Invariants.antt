use Rattle.std.proofs.Common.{◌≡◌, drop}
use Rattle.region.specs.Cells.{cells_of}
use Rattle.region.specs.Orders.{allows_order}
use Rattle.region.proofs.look.Look.allows_order.Given as goal

abbrev pub invariant-loop-i : goal.invariant-loop-i
invariant-loop-i l = allows_order (cells_of l.self.region l.p) (drop l.i l.xs) ≡ allows_order (cells_of l.self.region l.p) l.xs
