use Rattle.std.proofs.Common.{◌≡◌, map}
use Rattle.std.specs.List.{range_with_len}
use Rattle.refute_state.specs.code.Canonical.{canonical_for}
use Rattle.refute_state.proofs.settled.canonical_each.Given as goal

abbrev pub invariant-loop-n : goal.invariant-loop-n
invariant-loop-n l = l.found.items ≡ map (canonical_for l.model l.slots) (range_with_len 0 l.n)
