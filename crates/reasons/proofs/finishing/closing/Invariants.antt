use Rattle.std.proofs.Common.{vec_len}
use Rattle.reasons.proofs.finishing.closing.Given as goal

abbrev pub decreases-loop-b-2 : goal.decreases-loop-b-2
decreases-loop-b-2 l = vec_len l.open
