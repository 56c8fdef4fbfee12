use Rattle.std.proofs.Common.{rules}
use Rattle.theta_passes.proofs.trees.Painting.{one_made, all_made}
use Rattle.theta_passes.proofs.leaves.tasks_of.Goals as goal

pub loop-row-preserved : goal.loop-row-preserved
loop-row-preserved c = one_made c.args.rows.now c.loop-row.tasks.items c.push.new.self.items c.loop-row.row-index (search rules) c.loop-row.invariant c.loop-row-test.true

pub returns : goal.returns
returns c = all_made c.args.rows.now c.loop-row.tasks.items c.loop-row.row-index c.loop-row.invariant (search rules)
