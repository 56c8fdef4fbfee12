use Rattle.std.proofs.Common.{rules}
use Rattle.solver.proofs.cutting.Branching.{end_cut}
use Rattle.solver.proofs.branch.cut_end.Goals as goal

pub returns : goal.returns
returns c = end_cut c.args.x c.args.c c.middle.result (search rules) (search rules) (search rules) c.requires.present c.requires.wide c.middle.ensures.middle
