use Rattle.std.proofs.Common.{◌≡◌, false, ℤ, Option}
use Rattle.region.specs.declared.types.OrderCell.TheVariants.{Forward, Unknown}
use Rattle.prop_unary.specs.code.Silence.{AreSilentWhere}
use Rattle.prop_unary.specs.code.Circles.{EachBetween}
use Rattle.prop_unary.proofs.pairs.next_told.Given as goal

abbrev pub invariant-loop-k : goal.invariant-loop-k
invariant-loop-k l = record {
  told : (best : Option ℤ) → EachBetween (AreSilentWhere l.model l.region.region best l.d Forward l.first.member) l.members l.from l.k;
  free : (best : Option ℤ) → l.is_open ≡ false → (l.initial.is_open ≡ false) × EachBetween (AreSilentWhere l.model l.region.region best l.d Unknown l.first.member) l.members l.from l.k;
}
