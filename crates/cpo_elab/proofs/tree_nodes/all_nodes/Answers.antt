use Rattle.std.proofs.Common.{◌∙◌}
use Rattle.cpo_elab.proofs.adding.Trees.{counted_together}
use Rattle.cpo_elab.proofs.tree_nodes.all_nodes.Goals as goal

pub returns : goal.returns
returns c = λ m. c.counted_all.ensures ∙ counted_together m c.args.es.now
