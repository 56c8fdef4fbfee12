use Rattle.std.proofs.Common.{◌≡◌, ◌<◌, ℕ, true, false, length}
use Rattle.region.specs.declared.types.OrderCell.TheVariants.{Forward, Unknown}
use Rattle.prop_unary.specs.code.Heard.{EachOutside}
use Rattle.prop_unary.specs.code.Rows.{has_word}
use Rattle.prop_unary.specs.code.Silence.{AreSilentWhere}
use Rattle.prop_unary.proofs.heard.ask_heard_row.Given as goal

abbrev pub invariant-loop-left : goal.invariant-loop-left
invariant-loop-left l = record {
  within : (k : ℕ) → has_word l.left k ≡ true → k < length l.members;
  told : EachOutside (AreSilentWhere l.view.model.now l.view.region.now.region l.view.best l.d Forward l.first.member) l.members (length l.members) l.left;
  free : l.is_open ≡ false → (l.initial.is_open ≡ false) × EachOutside (AreSilentWhere l.view.model.now l.view.region.now.region l.view.best l.d Unknown l.first.member) l.members (length l.members) l.left;
}

abbrev pub decreases-loop-left : goal.decreases-loop-left
decreases-loop-left l = l.left
