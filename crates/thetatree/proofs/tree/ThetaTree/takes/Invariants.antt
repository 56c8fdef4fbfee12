use Rattle.thetatree.proofs.Takes.{Tried}
use Rattle.thetatree.proofs.tree.ThetaTree.takes.Given as goal

abbrev pub invariant-loop-i : goal.invariant-loop-i
invariant-loop-i l = Tried l.tasks l.i
