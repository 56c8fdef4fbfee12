use Rattle.std.proofs.Common.{take}
use Rattle.prop_temporal.specs.code.Shown.{IsOfOrderFrom}
use Rattle.prop_temporal.specs.code.Heights.{FallsAlong, height_in}
use Rattle.prop_temporal.proofs.calm.order_falls_heavily.Given as goal

abbrev pub invariant-loop-x : goal.invariant-loop-x
invariant-loop-x l = FallsAlong l.model l.look.region (height_in l.heights) (IsOfOrderFrom l.u (take l.x-index l.members))
