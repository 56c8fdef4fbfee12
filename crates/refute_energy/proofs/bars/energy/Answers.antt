use Rattle.std.proofs.Common.{rules}
use Rattle.refute_energy.specs.laws.Wide.{wide_low_as, wide_high_as}
use Rattle.refute_energy.proofs.bars.energy.Goals as goal

pub returns-clause-low : goal.returns-clause-low
returns-clause-low c = wide_low_as c.args.h c.args.size _ (search rules) (search rules) (search rules) c.requires.from c.requires.to

pub returns-clause-high : goal.returns-clause-high
returns-clause-high c = wide_high_as c.args.h c.args.size _ (search rules) (search rules) (search rules) c.requires.from c.requires.to
