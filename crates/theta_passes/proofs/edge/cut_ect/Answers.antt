use Rattle.std.proofs.Common.{rules, to_z, of_z, w64}
use Rattle.theta_passes.proofs.trees.Falling.{cut_is, cut_white, cut_value}
use Rattle.theta_passes.proofs.edge.cut_ect.Goals as goal

pub returns-in-Some : goal.returns-in-Some
returns-in-Some c = cut_value c.args.rows.now c.args.level (to_z w64 (of_z w64 c.in-Some.ect)) c.in-Some.ect (search rules)
    (cut_is c.args.tree.now c.args.rows.now c.args.level c.ect.result c.in-Some.ect c.requires.sized c.requires.fits c.requires.at c.in-Some.is c.ect.ensures)

pub returns-in-None : goal.returns-in-None
returns-in-None c = absurd (cut_white c.args.tree.now c.args.rows.now c.args.level c.ect.result c.requires.at c.requires.member c.in-None.is c.ect.ensures)
