use Rattle.std.proofs.Common.{rules, Some, to_z, of_z, w64}
use Rattle.theta_passes.proofs.scans.Pushed.{all_left, less_left, none_left}
use Rattle.theta_passes.proofs.scan.found_of.Goals as goal

pub loop-left-init : goal.loop-left-init
loop-left-init c = all_left c.args.rows.now c.args.level (to_z w64 (of_z w64 c.args.level)) (Some c.args.top) c.args.places (search rules) c.requires.near c.requires.sorted c.requires.pushing c.requires.pushed

pub loop-left-preserved : goal.loop-left-preserved
loop-left-preserved c = less_left c.args.rows.now (to_z w64 (of_z w64 c.args.level)) c.loop-left.left c.without-left.result c.first_of-i.result c.finds.result c.loop-left.invariant c.without-left.ensures.rest c.if-finds.false c.finds.ensures

pub returns : goal.returns
returns c = none_left c.args.rows.now c.args.level (to_z w64 (of_z w64 c.args.level)) c.loop-left.left (search rules) c.loop-left-test.false c.loop-left.invariant
