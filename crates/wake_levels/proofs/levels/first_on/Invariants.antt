use Rattle.std.proofs.Common.{◌≡◌, ◌<◌, ℕ, [], get_or}
use Rattle.wake_levels.specs.code.Queues.{lists_of}
use Rattle.wake_levels.proofs.levels.first_on.Given as goal

abbrev pub invariant-loop-level : goal.invariant-loop-level
invariant-loop-level l = record {
  before : (i : ℕ) → i < l.level → get_or (lists_of l.initial.queues) i [] ≡ [];
  same : l.queues ≡ l.initial.queues;
}
