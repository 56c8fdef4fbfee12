use Rattle.std.proofs.Common.{◌≡◌, length}
use Rattle.prop_unary.specs.code.Rows.{AreEmpty}
use Rattle.prop_unary.proofs.circles.clear_rows.Given as goal

abbrev pub invariant-loop-i : goal.invariant-loop-i
invariant-loop-i l = record {
  same : length l.rows ≡ length l.initial.rows;
  cleared : AreEmpty l.rows l.i;
}
