use Rattle.std.proofs.Common.{rules, refl, to_z, of_z, w64}
use Rattle.theta_passes.specs.code.Rows.{lct_in}
use Rattle.theta_passes.proofs.trees.Falling.{pass_more, pass_end, none_is}
use Rattle.theta_passes.proofs.edge.edge_pass.Goals as goal

pub loop-m-preserved : goal.loop-m-preserved
loop-m-preserved c = record {
  fits = c.try_level-found.ensures.fits;
  passed = pass_more c.loop-m.tree c.try_level-found.new.tree c.args.rows.now c.args.order.now (to_z w64 c.loop-m.above-bits) (to_z w64 (of_z w64 (lct_in c.args.rows.now c.args.order.now c.loop-m.m-index))) (to_z w64 (of_z w64 (lct_in c.args.rows.now c.args.order.now c.loop-m.m-index)))
      c.loop-m.m-index c.try_level-found.result c.requires.order c.loop-m.invariant.passed (search rules) refl (search rules)
      c.try_level-found.ensures.at (none_is c.try_level-found.result (search rules)) c.try_level-found.ensures.found;
}

pub returns-clause-pass : goal.returns-clause-pass
returns-clause-pass c = pass_end c.loop-m.tree c.args.rows.now c.args.order.now (to_z w64 c.loop-m.above-bits) c.loop-m.m-index c.requires.order c.loop-m.invariant.passed (search rules)
