use Rattle.std.proofs.Common.{◌≡◌, length}
use Rattle.prop_unary.specs.code.Rows.{AreRead}
use Rattle.prop_unary.proofs.circles.note_row.Given as goal

abbrev pub invariant-loop-k : goal.invariant-loop-k
invariant-loop-k l = record {
  same : length l.rows ≡ length l.initial.rows;
  noted : AreRead l.look.region l.p l.members l.rows l.i l.k;
}
