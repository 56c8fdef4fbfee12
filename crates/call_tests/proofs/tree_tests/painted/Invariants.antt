use Rattle.std.proofs.Common.{◌≡◌}
use Rattle.call_tests.proofs.tree_tests.painted.Given as goal

abbrev pub invariant-loop-k : goal.invariant-loop-k
invariant-loop-k l = l.tree.tasks ≡ l.tasks
