use Rattle.std.proofs.Common.{rules}
use Rattle.solver.proofs.cutting.Branching.{middle_from, middle_small}
use Rattle.solver.proofs.branch.middle.Goals as goal

pub returns : goal.returns
returns c =
    let is = middle_from c.args.lo c.args.hi c.div_euclid.result c.ranges.lo c.ranges.hi (search rules) c.requires.lo c.requires.hi c.div_euclid.ensures in
    record { middle = is; moment = middle_small c.args.lo c.args.hi _ c.requires.lo c.requires.hi is }
