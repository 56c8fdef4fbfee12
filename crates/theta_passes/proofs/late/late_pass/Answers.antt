use Rattle.std.proofs.Common.{rules, to_z, of_z, w64}
use Rattle.theta_passes.proofs.trees.Filling.{late_more, key_is}
use Rattle.theta_passes.specs.code.Late.{key_in}
use Rattle.theta_passes.proofs.late.late_pass.Goals as goal

pub loop-i-preserved : goal.loop-i-preserved
loop-i-preserved c = record {
  fits = c.is_late.ensures.fits;
  passed = late_more c.loop-i.tree c.is_late.new.tree c.args.rows.now c.args.order.now (to_z w64 c.loop-i.key-bits) (to_z w64 (of_z w64 (key_in c.args.rows.now c.args.order.now c.loop-i.i-index))) c.loop-i.i-index c.is_late.result
      c.requires.order c.loop-i.invariant.passed (search rules) (search rules)
      (key_is c.is_late.new.tree c.args.rows.now (key_in c.args.rows.now c.args.order.now c.loop-i.i-index) (to_z w64 (of_z w64 (key_in c.args.rows.now c.args.order.now c.loop-i.i-index))) (search rules) c.is_late.ensures.at)
      (search rules) c.is_late.ensures.late;
}
