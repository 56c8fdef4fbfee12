use Rattle.std.proofs.Common.{take}
use Rattle.prop_temporal.specs.code.Touches.{Touches}
use Rattle.prop_temporal.proofs.touching.touch_all.Given as goal

abbrev pub invariant-loop-x : goal.invariant-loop-x
invariant-loop-x l = Touches l.initial.touching.items l.touching.items (take l.x-index l.ends) l.c
