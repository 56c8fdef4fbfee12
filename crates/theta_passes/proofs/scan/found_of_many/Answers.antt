use Rattle.std.proofs.Common.{rules, to_z, of_z, w64}
use Rattle.theta_passes.proofs.scans.CutScans.{more_tried, all_tried}
use Rattle.theta_passes.proofs.scan.found_of_many.Goals as goal

pub loop-k-preserved : goal.loop-k-preserved
loop-k-preserved c = more_tried c.args.rows.now (to_z w64 (of_z w64 c.args.level)) c.loop-k.k _ c.finds.result (search rules) c.if-finds.false c.finds.ensures c.loop-k.invariant

pub returns : goal.returns
returns c = all_tried c.args.rows.now c.args.level (to_z w64 (of_z w64 c.args.level)) c.loop-k.k (search rules) (search rules) c.loop-k.invariant
