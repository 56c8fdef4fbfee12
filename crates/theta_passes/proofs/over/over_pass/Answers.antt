use Rattle.std.proofs.Common.{rules, to_z, of_z, w64}
use Rattle.theta_passes.specs.code.Rows.{lct_in}
use Rattle.theta_passes.proofs.trees.Dropping.{over_more, over_end, none_over}
use Rattle.theta_passes.proofs.over.over_pass.Goals as goal

pub loop-m-preserved : goal.loop-m-preserved
loop-m-preserved c = record {
  fits = c.drop_late.ensures.fits;
  passed = over_more c.loop-m.tree c.drop_late.new.tree c.args.rows.now c.args.order.now (to_z w64 c.loop-m.above-bits) (to_z w64 (of_z w64 (lct_in c.args.rows.now c.args.order.now c.loop-m.m-index))) c.loop-m.m-index
      c.requires.order c.loop-m.invariant.passed (search rules) (search rules) c.drop_late.ensures.at
      (none_over c.args.rows.now (to_z w64 (of_z w64 (lct_in c.args.rows.now c.args.order.now c.loop-m.m-index))) c.over_at-found.result (search rules) c.over_at-found.ensures);
}

pub returns-clause-pass : goal.returns-clause-pass
returns-clause-pass c = over_end c.loop-m.tree c.args.rows.now c.args.order.now (to_z w64 c.loop-m.above-bits) c.loop-m.m-index c.requires.sized c.requires.order c.loop-m.invariant.passed (search rules)
