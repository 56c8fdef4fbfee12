use Rattle.std.proofs.Common.{◌≡◌, ◌≢◌, ℕ, ◌/◌, ◌<◌, ◌≤◌, length}
use Rattle.thetatree.specs.code.Trees.{node_at, IsJoin, AreSmall}
use Rattle.thetatree.proofs.tree.refresh.Given as goal

abbrev pub invariant-loop-at : goal.invariant-loop-at
invariant-loop-at l = record {
  within : l.at < length l.nodes / 2;
  leaves : (j : ℕ) → length l.nodes / 2 ≤ j → node_at l.nodes j ≡ node_at l.initial.nodes j;
  joins : (j : ℕ) → 0 < j → j < length l.nodes / 2 → j ≢ l.at → IsJoin l.nodes j;
  small : AreSmall l.nodes;
}

abbrev pub decreases-loop-at : goal.decreases-loop-at
decreases-loop-at l = l.at
