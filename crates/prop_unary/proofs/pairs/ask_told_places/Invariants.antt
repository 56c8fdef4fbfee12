use Rattle.std.proofs.Common.{◌≡◌, false}
use Rattle.region.specs.declared.types.OrderCell.TheVariants.{Forward, Unknown}
use Rattle.prop_unary.specs.code.Silence.{SilentRow}
use Rattle.prop_unary.specs.code.Circles.{EachBetween}
use Rattle.prop_unary.proofs.pairs.ask_told_places.Given as goal

abbrev pub invariant-loop-k : goal.invariant-loop-k
invariant-loop-k l = record {
  told : EachBetween (SilentRow l.view.model.now l.view.region.now.region l.view.best l.d Forward l.members) l.members l.from l.k;
  free : l.is_open ≡ false → (l.initial.is_open ≡ false) × EachBetween (SilentRow l.view.model.now l.view.region.now.region l.view.best l.d Unknown l.members) l.members l.from l.k;
}
