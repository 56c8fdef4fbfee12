-- A search with one more node: a walk by an arc that was late.
use Rattle.std.specs.Prelude.{ℕ, ◌+◌, ◌+ℤ◌, [], ◌∷◌, ◌++◌, slice_set, length}
use Rattle.refute_basic.specs.declared.edge.Arc.{Arc}
use Rattle.cycles.specs.declared.node.Node.{Node}
use Rattle.cycles.specs.code.Search.{Search, last_of, height, stage}

abbrev pub pushed : Search → Node → ℕ → Search
pushed s x v = record { nodes = s.nodes ++ x ∷ []; last = slice_set s.last v (length s.nodes) }

abbrev pub node_by : Search → Arc → ℕ → Node
node_by s a i = record { point = a.tail; value = a.weight +ℤ height s a.head; via = i; next = last_of s a.head; len = stage s a.head + 1 }
