use Rattle.std.proofs.Common.{rules, to_z, of_z, w64}
use Rattle.theta_passes.proofs.shown.Edging.{no_edge, edge_shown}
use Rattle.theta_passes.proofs.witnesses.edge_sets.Goals as goal

pub returns-in_default : goal.returns-in_default
returns-in_default c = absurd (no_edge c.args.rows.now c.args.order.now c.args.i c.edge_cut.result c.requires.order c.requires.found (search rules) c.edge_cut.ensures)

pub returns : goal.returns
returns c = edge_shown c.args.rows.now c.args.order.now c.args.i c.edge_cut.result (to_z w64 (of_z w64 c.in-Some.end)) c.in-Some.end c.in-Some.filling c.in-Some.pushing c.in_ok-set.set.items c.in_ok-filling.filling.items c.in_ok-pushing.pushing.items
    (search rules) c.edge_cut.ensures (search rules) (search rules) (search rules) (search rules)
