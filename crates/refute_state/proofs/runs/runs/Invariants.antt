use Rattle.std.proofs.Common.{◌≡◌, ◌++◌, drop}
use Rattle.refute_state.specs.code.Groups.{runs_from, runs}
use Rattle.refute_state.proofs.runs.runs.Given as goal

abbrev pub invariant-loop-j : goal.invariant-loop-j
invariant-loop-j l = l.made.items ++ runs_from l.gaps l.now l.last (drop l.j-index l.rest) ≡ runs l.gaps l.groups
