-- A balanced tree in one list: the node at 1 is the top, those below the node at j stand at 2j and
-- 2j + 1, and the leaves stand from the width on.
use Rattle.std.specs.Prelude.{◌≡◌, ℕ, ◌+◌, ◌*◌, ◌/◌, ◌<◌, ◌≤◌, List, length, slice_index_or}
use Rattle.std.specs.Int.{IsPowerOfTwo}
use Rattle.envelope.specs.declared.node.Node.{Node}
use Rattle.envelope.specs.code.Bars.{Bars, bar_at, is_on, AreBars, IsCapacity}
use Rattle.envelope.specs.code.Nodes.{no_node, leaf_node, joined, IsSmall}

abbrev pub node_at : List Node → ℕ → Node
node_at ns j = slice_index_or ns j no_node

-- a node joins the two below it
abbrev pub IsJoin : List Node → ℕ → Type 0
IsJoin ns j = node_at ns j ≡ joined (node_at ns (2 * j)) (node_at ns (2 * j + 1))

-- room for the most energy at each of 400,000 leaves; the node at j has a jth part of it
abbrev pub whole_room : ℕ
whole_room = 400000000000000000000

-- no node's numbers get too large
abbrev pub AreSmall : List Node → Type 0
AreSmall ns = (j : ℕ) → 0 < j → j < length ns → IsSmall (whole_room / j) (node_at ns j)

pub record IsTree (t : Bars) (width : ℕ) (ns : List Node) : Type 0 where
  pub power : IsPowerOfTwo width
  pub low : width ≤ 200000
  pub room : length t.bars ≤ width
  pub size : length ns ≡ 2 * width
  pub same : length t.on ≡ length t.bars
  pub capacity : IsCapacity t.capacity
  pub bars : AreBars t.bars
  pub leaves : (k : ℕ) → k < width → node_at ns (width + k) ≡ leaf_node t.capacity (bar_at t k) (is_on t k)
  pub joins : (j : ℕ) → 0 < j → j < width → IsJoin ns j
  pub small : AreSmall ns
