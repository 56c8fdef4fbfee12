use Rattle.std.proofs.Common.{rules, to_z, of_z, w64}
use Rattle.theta_passes.specs.code.Rows.{lct_in}
use Rattle.theta_passes.proofs.shown.Edging.{edge_more, edge_end}
use Rattle.theta_passes.proofs.witnesses.edge_cut.Goals as goal

pub loop-m-preserved : goal.loop-m-preserved
loop-m-preserved c = edge_more c.args.rows.now c.args.order.now c.args.i c.loop-m.m-index (to_z w64 (of_z w64 (lct_in c.args.rows.now c.args.order.now c.loop-m.m-index))) c.edge_at.result (search rules) (search rules) c.edge_at.ensures c.loop-m.invariant

pub returns : goal.returns
returns c = edge_end c.args.rows.now c.args.order.now c.args.i c.loop-m.m-index (search rules) c.loop-m.invariant
