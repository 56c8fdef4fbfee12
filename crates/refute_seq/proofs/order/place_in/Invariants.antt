use Rattle.std.specs.Prelude.{◌≡◌, ◌++◌, drop, take}
use Rattle.refute_seq.specs.Standing.{precedes}
use Rattle.refute_seq.specs.code.Order.{placed}
use Rattle.refute_seq.proofs.order.place_in.Given as goal

abbrev pub invariant-loop-n : goal.invariant-loop-n
invariant-loop-n l = take l.n l.row ++ placed (precedes l.look.region l.p) l.x (drop l.n l.row) ≡ placed (precedes l.look.region l.p) l.x l.row
