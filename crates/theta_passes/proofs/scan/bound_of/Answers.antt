use Rattle.std.proofs.Common.{rules}
use Rattle.theta_passes.proofs.scans.Bound.{all_bound, more_bound}
use Rattle.theta_passes.proofs.scan.bound_of.Goals as goal

pub loop-k-preserved : goal.loop-k-preserved
loop-k-preserved c = more_bound c.args.rows.now c.args.lows c.args.whole c.loop-k.k c.loop-k.bound c.with-bound.result c.is_idle.result c.loop-k.invariant c.with-bound.ensures (search rules)

pub returns : goal.returns
returns c = all_bound c.args.rows.now c.args.lows c.args.whole c.loop-k.k c.loop-k.bound (search rules) c.requires.near c.requires.sorted c.requires.lows c.requires.whole c.loop-k.invariant
