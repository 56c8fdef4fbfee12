use Rattle.std.proofs.Common.{rules}
use Rattle.theta_passes.proofs.trees.Dropping.{over_is, over_at}
use Rattle.theta_passes.proofs.over.over_at.Goals as goal

pub returns : goal.returns
returns c = over_is c.args.rows.now c.args.level c.ect_gray.result c.over_level.result (search rules) (over_at c.args.tree.now c.args.rows.now c.args.level c.ect_gray.result c.requires.sized c.requires.fits c.requires.at c.ect_gray.ensures)
