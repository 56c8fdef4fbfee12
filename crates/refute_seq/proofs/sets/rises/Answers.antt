use Rattle.std.proofs.Common.{sym, ◌∙◌, arith}
use Rattle.refute_seq.proofs.Walking.{rises_end}
use Rattle.refute_seq.proofs.sets.rises.Goals as goal

pub returns : goal.returns
returns c = sym (rises_end c.args.set.now c.loop-n.n (omega arith)) ∙ c.loop-n.invariant
