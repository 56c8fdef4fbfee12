use Rattle.std.proofs.Common.{◌≡◌, ◌++◌, drop}
use Rattle.std.specs.List.{filter_map}
use Rattle.refute_state.specs.code.Canonical.{empty_of}
use Rattle.refute_state.proofs.settled.gaps_in.Given as goal

abbrev pub invariant-loop-k : goal.invariant-loop-k
invariant-loop-k l = l.gaps.items ++ filter_map (empty_of l.slots l.g) (drop l.k l.constraints) ≡ filter_map (empty_of l.slots l.g) l.constraints
