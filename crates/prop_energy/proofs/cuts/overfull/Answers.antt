use Rattle.std.proofs.Common.{rules}
use Rattle.prop_energy.proofs.Remembering.{over_as}
use Rattle.prop_energy.proofs.cuts.overfull.Goals as goal

pub returns : goal.returns
returns c = over_as c.overfull.result _ c.args.rows.now _ c.args.capacity c.overfull.ensures (search rules) (search rules)
