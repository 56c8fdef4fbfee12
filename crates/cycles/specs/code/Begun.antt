-- A search that begins: a node for each of the first points.
use Rattle.std.specs.Prelude.{◌≡◌, ℕ, ◌^◌, ◌<◌, pos, neg_ℤ, ◌≤ℤ◌, length, List, get_or}
use Rattle.cycles.specs.declared.node.Node.{Node}
use Rattle.cycles.specs.code.Search.{node_at}

pub record IsBegun (nodes : List Node) (last : List ℕ) (n : ℕ) : Type 0 where
  pub count : length nodes ≡ n
  pub lasts : length last ≡ n
  pub point : (j : ℕ) → j < n → (node_at nodes j).point ≡ j
  pub len : (j : ℕ) → j < n → (node_at nodes j).len ≡ 0
  pub lower : (j : ℕ) → j < n → neg_ℤ (pos (2 ^ 63)) ≤ℤ (node_at nodes j).value
  pub upper : (j : ℕ) → j < n → (node_at nodes j).value ≤ℤ pos (2 ^ 63)
  pub own : (j : ℕ) → j < n → get_or last j 0 ≡ j
