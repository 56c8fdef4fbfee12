use Rattle.hull_tree.specs.code.Nodes.{AreNodes, Grown}
use Rattle.hull_tree.specs.code.Meaning.{IsProductFrom}
use Rattle.hull_tree.proofs.building.chain.Given as goal

abbrev pub invariant-loop-x : goal.invariant-loop-x
invariant-loop-x l = record {
  nodes : AreNodes l.nodes.items l.spans.items;
  grown : Grown l.initial.nodes.items l.nodes.items;
  product : IsProductFrom l.nodes.items l.list l.x-index l.so_far;
}
