use Rattle.std.proofs.Common.{length}
use Rattle.hull_tree.proofs.put.+join.Given as goal

abbrev pub decreases-join : goal.decreases-join
decreases-join l = length l.list.now
