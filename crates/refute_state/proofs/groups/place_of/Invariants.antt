use Rattle.std.proofs.Common.{◌≡◌, ◌++◌, drop, take}
use Rattle.refute_state.specs.code.Groups.{placed}
use Rattle.refute_state.proofs.groups.place_of.Given as goal

abbrev pub invariant-loop-k : goal.invariant-loop-k
invariant-loop-k l = take l.k l.groups ++ placed l.i (drop l.k l.groups) ≡ placed l.i l.groups
