use Rattle.std.proofs.Common.{rules, to_z, of_z, w64}
use Rattle.theta_passes.proofs.shown.Edging.{edge_said}
use Rattle.theta_passes.proofs.witnesses.edge_at.Goals as goal

pub returns : goal.returns
returns c = edge_said c.args.rows.now c.args.i (to_z w64 (of_z w64 c.args.end)) c.args.end c.top_of-filling.result c.top_of-pushing.result c.edge_by.result c.requires.near c.requires.sorted c.requires.none c.requires.one (search rules) (search rules) c.top_of-filling.ensures c.top_of-pushing.ensures
