use Rattle.std.proofs.Common.{◌≡◌, ◌++◌, drop}
use Rattle.prop_state.specs.code.Tasks.{intervals_at}
use Rattle.prop_state.proofs.table.intervals_at.Given as goal

abbrev pub invariant-loop-i : goal.invariant-loop-i
invariant-loop-i l = l.found.items ++ intervals_at l.model (drop l.i l.cs) ≡ intervals_at l.model l.cs
