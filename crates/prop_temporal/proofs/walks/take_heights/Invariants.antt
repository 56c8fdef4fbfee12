use Rattle.std.proofs.Common.{◌≡◌, length}
use Rattle.prop_temporal.proofs.walks.take_heights.Given as goal

abbrev pub invariant-loop-v : goal.invariant-loop-v
invariant-loop-v l = length l.heights.items ≡ length l.initial.heights.items
