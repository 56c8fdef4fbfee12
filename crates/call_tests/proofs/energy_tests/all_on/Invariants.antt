use Rattle.std.proofs.Common.{◌≡◌}
use Rattle.call_tests.proofs.energy_tests.all_on.Given as goal

abbrev pub invariant-loop-k : goal.invariant-loop-k
invariant-loop-k l = l.tree.bars ≡ l.bars
