use Rattle.std.proofs.Common.{rules, to_z, of_z, w64}
use Rattle.theta_passes.proofs.trees.Falling.{fallen_end, level_at}
use Rattle.theta_passes.proofs.edge.lower.Goals as goal

pub returns-clause-at : goal.returns-clause-at
returns-clause-at c = level_at c.loop-k.tree c.args.rows.now (to_z w64 (of_z w64 c.args.level)) c.args.level (search rules)
    (fallen_end c.loop-k.tree c.args.rows.now (to_z w64 (of_z w64 c.args.above)) (to_z w64 (of_z w64 c.args.level)) c.loop-k.k (search rules) (search rules) c.loop-k.invariant.fallen)
