use Rattle.std.proofs.Common.{◌-◌, length}
use Rattle.refute_cumul.proofs.Placing.{IsPassed}
use Rattle.refute_cumul.proofs.profile.place_above.Given as goal

abbrev pub invariant-loop-i : goal.invariant-loop-i
invariant-loop-i l = IsPassed l.levels l.k l.i l.limit

abbrev pub decreases-loop-i : goal.decreases-loop-i
decreases-loop-i l = length l.levels - l.i
