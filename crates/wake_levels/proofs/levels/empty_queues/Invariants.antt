use Rattle.std.proofs.Common.{◌≡◌, [], replicate}
use Rattle.wake_levels.proofs.levels.empty_queues.Given as goal

abbrev pub invariant-loop : goal.invariant-loop
invariant-loop l = l.queues.items ≡ replicate l.counter (record { below = l.n; list = [] })
