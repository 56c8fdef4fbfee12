use Rattle.std.proofs.Common.{◌≡◌, map, fold, drop}
use Rattle.cpo_elab.specs.code.Drafts.{plus}
use Rattle.cpo_elab.specs.code.Counted.{counted}
use Rattle.cpo_elab.proofs.tree_nodes.counted_all.Given as goal

abbrev pub invariant-loop-e : goal.invariant-loop-e
invariant-loop-e l = fold plus l.total (map counted (drop l.e-index l.es)) ≡ fold plus 0 (map counted l.es)
