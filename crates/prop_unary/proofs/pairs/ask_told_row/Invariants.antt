use Rattle.std.proofs.Common.{◌≡◌, ◌<◌, ◌≤◌, ◌-◌, false, length}
use Rattle.region.specs.declared.types.OrderCell.TheVariants.{Forward, Unknown}
use Rattle.region.specs.Orders.{order_in}
use Rattle.region.specs.Cells.{cells_of}
use Rattle.prop_unary.specs.code.Silence.{AreSilentWhere}
use Rattle.prop_unary.specs.code.Circles.{EachBetween}
use Rattle.prop_unary.specs.code.Rows.{member_at}
use Rattle.prop_unary.proofs.pairs.ask_told_row.Given as goal

abbrev pub invariant-loop-k : goal.invariant-loop-k
invariant-loop-k l = record {
  within : l.k ≤ length l.members;
  at : l.k < length l.members → order_in (cells_of l.region.region l.d.p) l.first.member (member_at l.members l.k) ≡ Forward;
  told : EachBetween (AreSilentWhere l.model l.region.region l.best l.d Forward l.first.member) l.members 0 l.k;
  free : l.is_open ≡ false → (l.fn.is_open ≡ false) × EachBetween (AreSilentWhere l.model l.region.region l.best l.d Unknown l.first.member) l.members 0 l.k;
}

abbrev pub decreases-loop-k : goal.decreases-loop-k
decreases-loop-k l = length l.members - l.k
