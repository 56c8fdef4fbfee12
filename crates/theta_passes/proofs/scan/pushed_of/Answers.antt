use Rattle.std.proofs.Common.{rules, Some, to_z, of_z, w64}
use Rattle.theta_passes.proofs.scans.Pushed.{more_pushed}
use Rattle.theta_passes.proofs.scan.pushed_of.Goals as goal

pub loop-k-preserved : goal.loop-k-preserved
loop-k-preserved c = more_pushed c.args.rows.now (to_z w64 (of_z w64 c.args.level)) (Some c.args.top) c.loop-k.k c.loop-k.pushed c.with-pushed.result c.is_pushed.result c.loop-k.invariant c.with-pushed.ensures (search rules)
