use Rattle.std.proofs.Common.{◌≡◌, length}
use Rattle.prop_temporal.proofs.touching.untouched.Given as goal

abbrev pub invariant-loop : goal.invariant-loop
invariant-loop l = length l.touching.items ≡ l.counter
