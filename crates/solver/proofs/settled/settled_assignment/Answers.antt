use Rattle.std.proofs.Common.{rules, ap, ◌∙◌}
use Rattle.refute_state.specs.code.Canonical.{canonical}
use Rattle.solver.proofs.kept.Assigned.{assigned}
use Rattle.solver.proofs.settled.settled_assignment.Goals as goal

pub returns : goal.returns
returns c = assigned c.args.model.now c.args.look.now.region c.from_vec.result c.in_ok-settled_orders.field-0 c.in_ok-segs.segs (search rules) (search rules) (c.in_ok-segs.ensures.segments ∙ ap (canonical c.args.model.now) (search rules))
