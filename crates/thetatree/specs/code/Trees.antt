-- A balanced tree in one list: the node at 1 is the top, those below the node at j stand at 2j and
-- 2j + 1, and the leaves stand from the width on.
use Rattle.std.specs.Prelude.{◌≡◌, ℕ, ◌+◌, ◌*◌, ◌/◌, ◌<◌, ◌≤◌, List, length, slice_index_or}
use Rattle.std.specs.Int.{IsPowerOfTwo}
use Rattle.thetatree.specs.declared.node.Node.{Node}
use Rattle.thetatree.specs.code.Leaves.{Leaves, task_at, colour_at, AreTasks}
use Rattle.thetatree.specs.code.Nodes.{no_node, leaf_node, joined, IsSmall}

abbrev pub node_at : List Node → ℕ → Node
node_at ns j = slice_index_or ns j no_node

-- a node joins the two below it
abbrev pub IsJoin : List Node → ℕ → Type 0
IsJoin ns j = node_at ns j ≡ joined (node_at ns (2 * j)) (node_at ns (2 * j + 1))

-- room for 2H at each of 2048 leaves; the node at j has a jth part of it
abbrev pub whole_room : ℕ
whole_room = 4096000000000

-- no node's numbers get too large
abbrev pub AreSmall : List Node → Type 0
AreSmall ns = (j : ℕ) → 0 < j → j < length ns → IsSmall (whole_room / j) (node_at ns j)

pub record IsTree (t : Leaves) (width : ℕ) (ns : List Node) : Type 0 where
  pub power : IsPowerOfTwo width
  pub low : width ≤ 1000
  pub room : length t.tasks ≤ width
  pub size : length ns ≡ 2 * width
  pub same : length t.colours ≡ length t.tasks
  pub tasks : AreTasks t.tasks
  pub leaves : (k : ℕ) → k < width → node_at ns (width + k) ≡ leaf_node (task_at t k) (colour_at t k) k
  pub joins : (j : ℕ) → 0 < j → j < width → IsJoin ns j
  pub small : AreSmall ns
