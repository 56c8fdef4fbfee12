use Rattle.std.proofs.Common.{Some}
use Rattle.theta_passes.proofs.scans.Pushed.{ArePushed}
use Rattle.theta_passes.proofs.scan.pushed_of.Given as goal

abbrev pub invariant-loop-k : goal.invariant-loop-k
invariant-loop-k l = ArePushed l.rows l.level (Some l.top) l.k l.pushed
