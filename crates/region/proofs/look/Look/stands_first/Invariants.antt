use Rattle.std.proofs.Common.{◌≡◌, drop}
use Rattle.std.specs.List.{list_all}
use Rattle.region.specs.Cells.{cells_of}
use Rattle.region.specs.Orders.{may_precede}
use Rattle.region.proofs.look.Look.stands_first.Given as goal

abbrev pub invariant-loop-y : goal.invariant-loop-y
invariant-loop-y l = list_all (may_precede (cells_of l.self.region l.p) l.x) (drop l.y-index l.later) ≡ list_all (may_precede (cells_of l.self.region l.p) l.x) l.later
