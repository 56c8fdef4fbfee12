use Rattle.std.proofs.Common.{◌∙◌}
use Rattle.sched_model.proofs.rows.Neighbours.{neighbours_decide}
use Rattle.sched_model.proofs.sequence.are_disjoint.Goals as goal

pub returns : goal.returns
returns c = c.are_in_line.ensures ∙ neighbours_decide c.args.a.now c.args.xs.now c.requires
