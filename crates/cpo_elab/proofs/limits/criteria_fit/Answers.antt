use Rattle.std.proofs.Common.{sum_by}
use Rattle.sched_model.specs.Valid.{node_count}
use Rattle.cpo_elab.specs.Elaborated.{expr_of}
use Rattle.cpo_elab.proofs.limits.criteria_fit.Goals as goal

pub returns : goal.returns
returns c = c.nodes_fit.ensures (sum_by (λ e. node_count (expr_of c.args.draft.now e)) c.args.es.now) (c.all_nodes.ensures c.args.draft.now)
