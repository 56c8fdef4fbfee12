use Rattle.std.proofs.Common.{take}
use Rattle.prop_temporal.specs.code.Shown.{IsOfPairs}
use Rattle.prop_temporal.specs.code.Heights.{FallsAlong, height_in}
use Rattle.prop_temporal.proofs.calm.pairs_fall_lightly.Given as goal

abbrev pub invariant-loop-y : goal.invariant-loop-y
invariant-loop-y l = FallsAlong l.model l.look.region (height_in l.heights) (IsOfPairs l.u l.x.0 (take l.y-index l.others))
