use Rattle.std.proofs.Common.{◌∙◌}
use Rattle.cpo_elab.proofs.adding.Trees.{counted_nodes}
use Rattle.cpo_elab.proofs.tree_nodes.tree_nodes.Goals as goal

pub returns : goal.returns
returns c = λ m. c.counted.ensures ∙ counted_nodes m c.args.e.now
