use Rattle.std.proofs.Common.{rules}
use Rattle.thetatree.proofs.Takes.{tried_more}
use Rattle.thetatree.proofs.tree.ThetaTree.takes.Goals as goal

pub loop-i-preserved : goal.loop-i-preserved
loop-i-preserved c = tried_more c.args.tasks.now c.loop-i.i c.loop-i.invariant (search rules) (search rules)
