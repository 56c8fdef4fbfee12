use Rattle.std.proofs.Common.{◌≡◌, ◌++◌, drop}
use Rattle.model_copy.proofs.things.copy_states.Given as goal

abbrev pub invariant-loop-def : goal.invariant-loop-def
invariant-loop-def l = l.found.items ++ drop l.def-index l.defs ≡ l.defs
