use Rattle.std.proofs.Common.{◌≡◌}
use Rattle.refute_state.specs.code.Gathered.{demands_below}
use Rattle.refute_state.proofs.gathered.demands_of.Given as goal

abbrev pub invariant-loop-c : goal.invariant-loop-c
invariant-loop-c l = l.found.items ≡ demands_below l.model l.g l.c
