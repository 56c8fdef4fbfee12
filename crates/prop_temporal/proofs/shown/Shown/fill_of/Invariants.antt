use Rattle.std.proofs.Common.{take}
use Rattle.prop_temporal.specs.laws.Own.{HasOf}
use Rattle.prop_temporal.proofs.shown.Shown.fill_of.Given as goal

abbrev pub invariant-loop-c : goal.invariant-loop-c
invariant-loop-c l = HasOf l.model l.look.region l.x (take l.c-index l.constraints) l.self
