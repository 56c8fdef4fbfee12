use Rattle.std.proofs.Common.{◌-◌, length}
use Rattle.refute_cumul.specs.code.Profiles.{Reaches}
use Rattle.refute_cumul.proofs.reach.reach_from.Given as goal

abbrev pub invariant-loop-reach : goal.invariant-loop-reach
invariant-loop-reach l = Reaches l.levels l.i l.reach

abbrev pub decreases-loop-reach : goal.decreases-loop-reach
decreases-loop-reach l = length l.levels - l.reach.next
