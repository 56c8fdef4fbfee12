use Rattle.sched_model.specs.Valid.{node_count}
use Rattle.cpo_elab.specs.Elaborated.{expr_of}
use Rattle.cpo_elab.proofs.limits.expr_fits.Goals as goal

pub returns : goal.returns
returns c = c.nodes_fit.ensures (node_count (expr_of c.args.draft.now c.args.e.now)) (c.tree_nodes.ensures c.args.draft.now)
