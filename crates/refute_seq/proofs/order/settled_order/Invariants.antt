use Rattle.std.specs.Prelude.{◌≡◌, drop}
use Rattle.region.specs.Cells.{cells_of}
use Rattle.refute_seq.specs.code.Order.{settled_order}
use Rattle.refute_seq.proofs.Rowing.{rowed}
use Rattle.refute_seq.proofs.order.settled_order.Given as goal

abbrev pub invariant-loop-i : goal.invariant-loop-i
invariant-loop-i l = rowed l.look.region l.p l.row.items (drop l.i l.members) ≡ settled_order l.look.region (cells_of l.look.region l.p)
