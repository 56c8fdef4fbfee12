use Rattle.std.proofs.Common.{rules}
use Rattle.prop_sets.proofs.Shown.{all_closed}
use Rattle.prop_sets.proofs.passes.are_closed.Goals as goal

pub returns : goal.returns
returns c on = all_closed c.args.rows.now c.loop-k.k (search rules) c.loop-k.invariant
