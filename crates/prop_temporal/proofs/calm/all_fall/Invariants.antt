use Rattle.std.proofs.Common.{length}
use Rattle.prop_temporal.specs.code.Heights.{FallsAlong, height_in}
use Rattle.prop_temporal.specs.laws.Falling.{AreConstraints, AreIntervals}
use Rattle.prop_temporal.proofs.calm.all_fall.Given as goal

abbrev pub invariant-loop-u : goal.invariant-loop-u
invariant-loop-u l = FallsAlong l.model l.look.region (height_in l.heights) (AreConstraints l.u)

abbrev pub invariant-loop-x : goal.invariant-loop-x
invariant-loop-x l = FallsAlong l.model l.look.region (height_in l.heights) (AreConstraints (length l.model.constraints)) × FallsAlong l.model l.look.region (height_in l.heights) (AreIntervals l.x)
