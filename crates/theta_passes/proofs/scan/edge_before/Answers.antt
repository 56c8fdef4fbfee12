use Rattle.std.proofs.Common.{rules, refl, None}
use Rattle.theta_passes.proofs.scans.CutScans.{more_cuts, all_cuts}
use Rattle.theta_passes.specs.code.Rows.{row_at}
use Rattle.theta_passes.proofs.scans.Overs.{over_by}
use Rattle.theta_passes.proofs.scan.edge_before.Goals as goal

pub loop-k-preserved : goal.loop-k-preserved
loop-k-preserved c = more_cuts c.args.rows.now c.loop-k.k c.found_by-found.result (search rules) c.found_by-found.ensures c.loop-k.invariant

pub returns : goal.returns
returns c = all_cuts c.args.rows.now c.loop-k.k (search rules) c.loop-k.invariant

pub loop-k-preserved-then-is_over_by : goal.loop-k-preserved-then-is_over_by
loop-k-preserved-then-is_over_by c =
    let rows = c.args.rows.now in
    let k = c.loop-k.k in
    more_cuts rows k None refl (λ on. over_by rows c.args.last (row_at rows k).lct c.is_over_by.result c.if-is_over_by.true (search rules) c.requires.over) c.loop-k.invariant
