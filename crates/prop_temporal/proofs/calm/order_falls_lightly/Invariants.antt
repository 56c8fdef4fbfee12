use Rattle.std.proofs.Common.{take}
use Rattle.prop_temporal.specs.code.Shown.{IsOfPairsFrom}
use Rattle.prop_temporal.specs.code.Heights.{FallsAlong, height_in}
use Rattle.prop_temporal.proofs.calm.order_falls_lightly.Given as goal

abbrev pub invariant-loop-k : goal.invariant-loop-k
invariant-loop-k l = FallsAlong l.model l.look.region (height_in l.heights) (IsOfPairsFrom l.u (take l.k l.members) l.members)
