use Rattle.std.proofs.Common.{◌≡◌, drop}
use Rattle.std.specs.List.{list_all}
use Rattle.region.specs.Cells.{is_ordered}
use Rattle.region.proofs.look.Look.are_ordered.Given as goal

abbrev pub invariant-loop-p : goal.invariant-loop-p
invariant-loop-p l = list_all (is_ordered l.self.region) (drop l.p l.self.region.orders) ≡ list_all (is_ordered l.self.region) l.self.region.orders
