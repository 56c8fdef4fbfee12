use Rattle.std.proofs.Common.{rules, to_z, of_z, w64}
use Rattle.theta_passes.proofs.trees.Filling.{filling_end, key_is}
use Rattle.theta_passes.proofs.late.fill.Goals as goal

pub returns-clause-at : goal.returns-clause-at
returns-clause-at c = key_is c.loop-k.tree c.args.rows.now (to_z w64 (of_z w64 c.args.key)) c.args.key (search rules)
    (filling_end c.loop-k.tree c.args.rows.now (to_z w64 (of_z w64 c.args.from)) (to_z w64 (of_z w64 c.args.key)) c.loop-k.k (search rules) (search rules) c.loop-k.invariant.filling)
