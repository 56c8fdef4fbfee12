use Rattle.std.proofs.Common.{◌≡◌, length}
use Rattle.prop_unary.specs.code.Rows.{AreRead}
use Rattle.prop_unary.proofs.circles.note_rows.Given as goal

abbrev pub invariant-loop-i : goal.invariant-loop-i
invariant-loop-i l = record {
  same : length l.rows ≡ length l.fn.rows;
  noted : AreRead l.look.region l.p l.members l.rows l.i 0;
}
