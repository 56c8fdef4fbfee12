use Rattle.std.proofs.Common.{rules, refl}
use Rattle.theta_passes.specs.code.Rows.{row_at}
use Rattle.theta_passes.proofs.trees.Falling.{fallen_painted, fallen_kept}
use Rattle.theta_passes.proofs.edge.lower_at.Goals as goal

pub returns-then-falls_between-clause-fallen : goal.returns-then-falls_between-clause-fallen
returns-then-falls_between-clause-fallen c = fallen_painted c.args.tree.now c.paint.new.tree c.args.rows.now c.args.above c.args.level c.args.k (row_at c.args.rows.now c.args.k) refl
    (search rules) c.paint.ensures.painted c.paint.ensures.others c.requires.fallen

pub returns-else-falls_between-clause-fallen : goal.returns-else-falls_between-clause-fallen
returns-else-falls_between-clause-fallen c = fallen_kept c.args.tree.now c.args.rows.now c.args.above c.args.level c.args.k (row_at c.args.rows.now c.args.k) c.requires.falls refl
    (search rules) c.requires.fallen
