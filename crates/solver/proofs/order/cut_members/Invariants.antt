use Rattle.std.proofs.Common.{◌≡◌, drop}
use Rattle.sched_model.specs.Words.{pairwise}
use Rattle.region.specs.Cells.{cells_of, is_known_order}
use Rattle.solver.proofs.order.cut_members.Given as goal

abbrev pub invariant-loop-i : goal.invariant-loop-i
invariant-loop-i l = pairwise (is_known_order l.look.region (cells_of l.look.region l.p)) (drop l.i l.members) ≡ pairwise (is_known_order l.look.region (cells_of l.look.region l.p)) l.members
