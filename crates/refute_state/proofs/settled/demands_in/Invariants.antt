use Rattle.std.proofs.Common.{◌≡◌, ◌++◌, drop}
use Rattle.std.specs.List.{filter_map}
use Rattle.refute_state.specs.code.Canonical.{stretch_of}
use Rattle.refute_state.proofs.settled.demands_in.Given as goal

abbrev pub invariant-loop-k : goal.invariant-loop-k
invariant-loop-k l = l.demands.items ++ filter_map (stretch_of l.slots l.g) (drop l.k l.constraints) ≡ filter_map (stretch_of l.slots l.g) l.constraints
