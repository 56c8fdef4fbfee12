use Rattle.std.proofs.Common.{rules}
use Rattle.theta_passes.specs.code.Rows.{row_at}
use Rattle.theta_passes.proofs.trees.Filling.{late_ect, filled_back, filled_out}
use Rattle.theta_passes.proofs.late.ect_without.Goals as goal

pub returns-then-starts_before-clause-value : goal.returns-then-starts_before-clause-value
returns-then-starts_before-clause-value c = late_ect c.args.tree.now c.paint.new.tree c.args.rows.now c.args.i c.ect-ect.result c.requires.sized c.paint.ensures.fits c.requires.at c.paint.ensures.painted c.paint.ensures.others c.ect-ect.ensures

pub returns-else-starts_before-clause-value : goal.returns-else-starts_before-clause-value
returns-else-starts_before-clause-value c = late_ect c.args.tree.now c.paint.new.tree c.args.rows.now c.args.i c.ect-ect.result c.requires.sized c.paint.ensures.fits c.requires.at c.paint.ensures.painted c.paint.ensures.others c.ect-ect.ensures

pub returns-then-starts_before-clause-at : goal.returns-then-starts_before-clause-at
returns-then-starts_before-clause-at c = filled_back c.args.tree.now c.paint.new.tree c.paint-then-starts_before.new.tree c.args.rows.now (row_at c.args.rows.now c.args.i).reach c.args.i (search rules) c.paint.ensures.others
    c.paint-then-starts_before.ensures.painted c.paint-then-starts_before.ensures.others c.requires.at

pub returns-else-starts_before-clause-at : goal.returns-else-starts_before-clause-at
returns-else-starts_before-clause-at c = filled_out c.args.tree.now c.paint.new.tree c.args.rows.now (row_at c.args.rows.now c.args.i).reach c.args.i (search rules) c.paint.ensures.painted c.paint.ensures.others c.requires.at
