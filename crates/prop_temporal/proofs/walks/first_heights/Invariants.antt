use Rattle.std.proofs.Common.{◌≡◌, ◌*◌, length}
use Rattle.prop_temporal.proofs.walks.first_heights.Given as goal

abbrev pub invariant-loop-x : goal.invariant-loop-x
invariant-loop-x l = length l.heights.items ≡ 2 * l.x
