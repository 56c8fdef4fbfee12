use Rattle.theta_passes.proofs.trees.Painting.{one_painted}
use Rattle.theta_passes.proofs.leaves.paint_all.Goals as goal

pub loop-k-preserved : goal.loop-k-preserved
loop-k-preserved c = record {
  fits = c.paint.ensures.fits;
  painted = one_painted c.loop-k.tree c.paint.new.tree c.args.rows.now c.args.present c.args.maybe c.colour_by-colour.result c.loop-k.k c.paint.ensures.painted c.colour_by-colour.ensures c.paint.ensures.others c.loop-k.invariant.painted;
}
