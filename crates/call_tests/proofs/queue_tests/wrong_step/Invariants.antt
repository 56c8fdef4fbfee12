use Rattle.std.proofs.Common.{◌≡◌}
use Rattle.call_tests.proofs.queue_tests.wrong_step.Given as goal

abbrev pub invariant-loop-at : goal.invariant-loop-at
invariant-loop-at l = l.queue.below ≡ l.n
