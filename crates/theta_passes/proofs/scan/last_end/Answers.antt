use Rattle.std.proofs.Common.{rules}
use Rattle.theta_passes.proofs.scans.Overs.{all_over, more_over}
use Rattle.theta_passes.proofs.scan.last_end.Goals as goal

pub loop-k-preserved : goal.loop-k-preserved
loop-k-preserved c = more_over c.args.rows.now c.args.whole c.loop-k.k _ c.end_with.result _ c.requires.near c.requires.sorted c.requires.whole (search rules) (search rules) c.loop-k.invariant

pub returns : goal.returns
returns c = all_over c.args.rows.now c.loop-k.k _ (search rules) c.loop-k.invariant
