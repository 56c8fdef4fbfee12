use Rattle.std.proofs.Common.{rules, to_z, of_z, w64}
use Rattle.theta_passes.proofs.trees.Dropping.{full_end, full_is}
use Rattle.theta_passes.proofs.over.drop_late.Goals as goal

pub returns-clause-at : goal.returns-clause-at
returns-clause-at c = full_is c.loop-k.tree c.args.rows.now (to_z w64 (of_z w64 c.args.level)) c.args.level (search rules)
    (full_end c.loop-k.tree c.args.rows.now (to_z w64 (of_z w64 c.args.above)) (to_z w64 (of_z w64 c.args.level)) c.loop-k.k (search rules) (search rules) c.loop-k.invariant.falling)
