use Rattle.std.proofs.Common.{◌≡◌}
use Rattle.wake_levels.proofs.Queueing.{unwoken_below}
use Rattle.wake_levels.proofs.levels.unwake_each.Given as goal

abbrev pub invariant-loop-level : goal.invariant-loop-level
invariant-loop-level l = l.queues ≡ unwoken_below l.k l.level l.initial.queues
