use Rattle.std.proofs.Common.{◌≡◌, length}
use Rattle.hull_tree.specs.code.Nodes.{AreEnds}
use Rattle.hull_tree.proofs.walk.evaluate.Given as goal

abbrev pub invariant-loop-i : goal.invariant-loop-i
invariant-loop-i l = record {
  so_far : AreEnds l.model l.nodes l.look.region l.i l.ends;
  size : length l.ends ≡ length l.nodes;
}
