use Rattle.prop_temporal.specs.code.Touches.{AreTouchedBy}
use Rattle.prop_temporal.proofs.touching.touching_of.Given as goal

abbrev pub invariant-loop-c : goal.invariant-loop-c
invariant-loop-c l = AreTouchedBy l.model l.c l.touching.items
