use Rattle.theta_passes.specs.code.Late.{AreLeft}
use Rattle.theta_passes.proofs.scan.late_of.Given as goal

abbrev pub invariant-loop-left : goal.invariant-loop-left
invariant-loop-left l = AreLeft l.rows l.left

abbrev pub decreases-loop-left : goal.decreases-loop-left
decreases-loop-left l = l.left
