use Rattle.std.proofs.Common.{◌≡◌, drop}
use Rattle.std.specs.List.{list_all}
use Rattle.region.specs.Cells.{cells_of, is_known_order}
use Rattle.solver.proofs.order.cut_with.Given as goal

abbrev pub invariant-loop-y : goal.invariant-loop-y
invariant-loop-y l = list_all (is_known_order l.look.region (cells_of l.look.region l.p) l.x) (drop l.y-index l.later) ≡ list_all (is_known_order l.look.region (cells_of l.look.region l.p) l.x) l.later
