use Rattle.std.proofs.Common.{take, length, ◌<◌}
use Rattle.std.specs.Prelude.{All}
use Rattle.sched_model.specs.Data.{Data}
use Rattle.hull_tree.specs.code.Nodes.{AreNodes, Grown}
use Rattle.hull_tree.specs.code.Meaning.{MeanEach}
use Rattle.hull_tree.proofs.building.+build.Given as goal

abbrev pub invariant-roots-loop-part : goal.invariant-roots-loop-part
invariant-roots-loop-part l = record {
  nodes : AreNodes l.nodes.items l.spans.items;
  grown : Grown l.initial.nodes.items l.nodes.items;
  within : All (λ i. i < length l.nodes.items) l.list.items;
  mean : (m : Data) → MeanEach m l.nodes.items l.list.items (take l.part-index l.parts);
}
