use Rattle.std.proofs.Common.{length}
use Rattle.real_desk.proofs.real.write_whole.Given as goal

abbrev pub decreases-loop-left : goal.decreases-loop-left
decreases-loop-left g l = length l.left
