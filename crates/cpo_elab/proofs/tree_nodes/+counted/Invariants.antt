use Rattle.std.proofs.Common.{◌≡◌, map, fold, drop}
use Rattle.cpo_elab.specs.code.Drafts.{plus}
use Rattle.cpo_elab.specs.code.Counted.{counted}
use Rattle.cpo_elab.proofs.tree_nodes.+counted.Given as goal

abbrev pub invariant-counted_list-loop-part : goal.invariant-counted_list-loop-part
invariant-counted_list-loop-part l = fold plus l.total (map counted (drop l.part-index l.parts)) ≡ fold plus 1 (map counted l.parts)
