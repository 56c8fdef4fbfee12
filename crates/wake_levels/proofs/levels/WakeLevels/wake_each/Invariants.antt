use Rattle.std.proofs.Common.{take}
use Rattle.wake_levels.specs.code.Calm.{WakesEach}
use Rattle.wake_levels.proofs.levels.WakeLevels.wake_each.Given as goal

abbrev pub invariant-loop-k : goal.invariant-loop-k
invariant-loop-k l = WakesEach (take l.k-index l.ks) l.initial.self l.self
