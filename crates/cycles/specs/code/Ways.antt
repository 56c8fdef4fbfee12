-- From one node on to another, and what is known of the points between them.
use Rattle.std.specs.Prelude.{◌≡◌, ℕ, ◌+◌, ◌<◌, ◌≤◌, ◌+ℤ◌, Bool, true, false, List, [], ◌∷◌, get_or, length, nat_eq}
use Rattle.std.specs.List.{list_any}
use Rattle.refute_basic.specs.declared.edge.Arc.{Arc}
use Rattle.cycles.specs.declared.node.Node.{Node}
use Rattle.cycles.specs.code.Walks.{picked, leads, total, are_places}
use Rattle.cycles.specs.code.Search.{node_at}

pub data Reach (nodes : List Node) (n : ℕ) (to : ℕ) : ℕ → Type 0 where
  there : Reach nodes n to to
  further : {k : ℕ} → n ≤ k → k < length nodes → Reach nodes n to (node_at nodes k).next → Reach nodes n to k

-- two nodes of one point, and the walk of the first leads on to the second
pub record IsLoop (nodes : List Node) (n : ℕ) (from to : ℕ) : Type 0 where
  pub some : n ≤ from
  pub within : from < length nodes
  pub on : Reach nodes n to (node_at nodes from).next
  pub same : (node_at nodes to).point ≡ (node_at nodes from).point

abbrev pub is_in : ℕ → List ℕ → Bool
is_in q ps = list_any (λ p. nat_eq q p) ps

abbrev pub AreDistinct : List ℕ → Type 0
AreDistinct [] = Unit {0}
AreDistinct (p ∷ ps) = (is_in p ps ≡ false) × AreDistinct ps

-- the mark of a point is 0, or a node of it whose walk leads on to y
pub record IsMark (nodes : List Node) (n : ℕ) (y v mark : ℕ) : Type 0 where
  pub some : n ≤ mark
  pub within : mark < length nodes
  pub on : Reach nodes n y (node_at nodes mark).next
  pub point : (node_at nodes mark).point ≡ v

-- the walk of node k is read as far as node y, each point so far is marked, and no point came twice
pub record IsMarked (nodes : List Node) (n k : ℕ) (seen : List ℕ) (y : ℕ) : Type 0 where
  pub within : y < length nodes
  pub room : length seen ≡ n
  pub marks : (v : ℕ) → v < n → (get_or seen v 0 ≡ 0 → ⊥) → IsMark nodes n y v (get_or seen v 0)
  pub points : List ℕ
  pub distinct : AreDistinct points
  pub below : (q : ℕ) → is_in q points ≡ true → q < n
  pub marked : (q : ℕ) → is_in q points ≡ true → get_or seen q 0 ≡ 0 → ⊥
  pub size : length points + (node_at nodes y).len ≡ (node_at nodes k).len

-- the arcs of the walk of a node as far as node y
pub record IsRead (arcs : List Arc) (nodes : List Node) (from : ℕ) (walk : List ℕ) (y : ℕ) : Type 0 where
  pub places : are_places arcs walk ≡ true
  pub leads : leads (node_at nodes from).point (picked arcs walk) (node_at nodes y).point ≡ true
  pub value : total (picked arcs walk) +ℤ (node_at nodes y).value ≡ (node_at nodes from).value
  pub few : length walk + (node_at nodes y).len ≡ (node_at nodes from).len

-- and the walk goes on to a node
pub record IsReading (arcs : List Arc) (nodes : List Node) (n from to : ℕ) (walk : List ℕ) (y : ℕ) : Type 0 where
  pub read : IsRead arcs nodes from walk y
  pub some : n ≤ y
  pub within : y < length nodes
  pub on : Reach nodes n to (node_at nodes y).next
