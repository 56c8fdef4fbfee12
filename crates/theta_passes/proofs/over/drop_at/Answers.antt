use Rattle.std.proofs.Common.{rules}
use Rattle.theta_passes.proofs.trees.Dropping.{full_painted, full_left}
use Rattle.theta_passes.proofs.over.drop_at.Goals as goal

pub returns-then-falls_between-clause-falling : goal.returns-then-falls_between-clause-falling
returns-then-falls_between-clause-falling c = full_painted c.args.tree.now c.paint.new.tree c.args.rows.now c.args.above c.args.level c.args.k (search rules) c.paint.ensures.painted c.paint.ensures.others c.requires.falling

pub returns-else-falls_between-clause-falling : goal.returns-else-falls_between-clause-falling
returns-else-falls_between-clause-falling c = full_left c.args.tree.now c.args.rows.now c.args.above c.args.level c.args.k c.requires.falls (search rules) c.requires.falling
