use Rattle.theta_passes.proofs.scans.Pushed.{IsLeft}
use Rattle.theta_passes.proofs.scan.found_of.Given as goal

abbrev pub invariant-loop-left : goal.invariant-loop-left
invariant-loop-left l = IsLeft l.rows l.level l.left

abbrev pub decreases-loop-left : goal.decreases-loop-left
decreases-loop-left l = l.left
