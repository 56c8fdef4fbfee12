use Rattle.std.proofs.Common.{take}
use Rattle.prop_unary.specs.code.Silence.{AreSilentWhere}
use Rattle.prop_unary.specs.code.Circles.{EachOf}
use Rattle.prop_unary.proofs.pairs.ask_row.Given as goal

abbrev pub invariant-loop-k : goal.invariant-loop-k
invariant-loop-k l = EachOf (AreSilentWhere l.model l.region.region l.best l.d l.order l.first.member) (take l.k l.members)
