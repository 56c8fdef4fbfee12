use Rattle.std.proofs.Common.{rules}
use Rattle.prop_energy.proofs.Remembering.{over_as}
use Rattle.prop_energy.proofs.cuts.Asker.cut_of.Goals as goal

pub returns : goal.returns
returns c = over_as c.ask.result _ _ _ c.args.capacity c.ask.ensures (search rules) (search rules)
