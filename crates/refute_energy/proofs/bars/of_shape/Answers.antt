use Rattle.std.proofs.Common.{rules}
use Rattle.refute_energy.proofs.Gathering.{near_from}
use Rattle.refute_energy.proofs.bars.of_shape.Goals as goal

pub returns-in-PulseOf-clause-near : goal.returns-in-PulseOf-clause-near
returns-in-PulseOf-clause-near c = near_from c.known-c.result c.energy.result _ _ _ c.known-c.ensures.moments (search rules) (search rules) (search rules) c.energy.ensures.low c.energy.ensures.high
