use Rattle.std.proofs.Common.{rules}
use Rattle.prop_sets.proofs.Remembering.{all_same}
use Rattle.prop_sets.proofs.known.are_same.Goals as goal

pub returns : goal.returns
returns c = λ yes. all_same c.args.old.now c.args.now.now c.loop-k.k (search rules) (search rules) c.loop-k.invariant
