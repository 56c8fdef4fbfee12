-- What a search for a closed walk of positive weight has found so far: walks from each point.
use Rattle.std.specs.Prelude.{◌≡◌, ◌⊎◌, ℕ, ◌+◌, ◌-◌, ◌*◌, ◌^◌, ◌<◌, ◌≤◌, ℤ, pos, neg_ℤ, ◌+ℤ◌, ◌≤ℤ◌, ◌<ℤ◌, Bool, true, false, List, get_or, length, cond, int_lt}
use Rattle.refute_basic.specs.declared.edge.Arc.{Arc}
use Rattle.cycles.specs.declared.node.Node.{Node}
use Rattle.cycles.specs.code.Walks.{arc_at}

pub record Search : Type 0 where
  pub nodes : List Node
  pub last : List ℕ

abbrev pub no_node : Node
no_node = record { point = 0; value = pos 0; via = 0; next = 0; len = 0 }

abbrev pub node_at : List Node → ℕ → Node
node_at nodes k = get_or nodes k no_node

abbrev pub last_of : Search → ℕ → ℕ
last_of s v = get_or s.last v 0

-- the greatest weight of a walk from the point so far, and how many arcs that walk has
abbrev pub height : Search → ℕ → ℤ
height s v = (node_at s.nodes (last_of s v)).value

abbrev pub stage : Search → ℕ → ℕ
stage s v = (node_at s.nodes (last_of s v)).len

-- the arc leads to a greater one
abbrev pub is_late : Search → Arc → Bool
is_late s a = int_lt (height s a.tail) (a.weight +ℤ height s a.head)

-- a node leads on to an earlier one
pub record IsLink (arcs : List Arc) (nodes : List Node) (x : Node) (k : ℕ) : Type 0 where
  pub via : x.via < length arcs
  pub tail : x.point ≡ (arc_at arcs x.via).tail
  pub next : x.next < k
  pub head : (node_at nodes x.next).point ≡ (arc_at arcs x.via).head
  pub value : x.value ≡ (arc_at arcs x.via).weight +ℤ (node_at nodes x.next).value
  pub len : x.len ≡ (node_at nodes x.next).len + 1

-- the greatest magnitude of the weight of a walk of so many arcs
abbrev pub bound : ℕ → ℤ
bound len = pos (2 ^ 63 * (len + 1))

-- the first n nodes are those of the points; of the nodes of one point each later one is greater, and the last is the greatest
pub record IsSearch (arcs : List Arc) (n : ℕ) (s : Search) : Type 0 where
  pub count : length s.last ≡ n
  pub size : n ≤ length s.nodes
  pub roots : (k : ℕ) → k < n → (node_at s.nodes k).point ≡ k
  pub starts : (k : ℕ) → k < n → (node_at s.nodes k).len ≡ 0
  pub links : (k : ℕ) → n ≤ k → k < length s.nodes → IsLink arcs s.nodes (node_at s.nodes k) k
  pub points : (k : ℕ) → k < length s.nodes → (node_at s.nodes k).point < n
  pub last : (v : ℕ) → v < n → last_of s v < length s.nodes
  pub here : (v : ℕ) → v < n → (node_at s.nodes (last_of s v)).point ≡ v
  pub top : (k : ℕ) → k < length s.nodes → (node_at s.nodes k).value ≤ℤ height s (node_at s.nodes k).point
  pub rising : (j k : ℕ) → j < k → k < length s.nodes → (node_at s.nodes j).point ≡ (node_at s.nodes k).point → (node_at s.nodes j).value <ℤ (node_at s.nodes k).value
  pub few : (k : ℕ) → k < length s.nodes → (node_at s.nodes k).len ≤ n
  pub lower : (k : ℕ) → k < length s.nodes → neg_ℤ (bound (node_at s.nodes k).len) ≤ℤ (node_at s.nodes k).value
  pub upper : (k : ℕ) → k < length s.nodes → (node_at s.nodes k).value ≤ℤ bound (node_at s.nodes k).len

-- the walk of each point has fewer arcs than there are points
abbrev pub IsShort : ℕ → Search → Type 0
IsShort n s = (v : ℕ) → v < n → stage s v < n

-- the ends of each arc are points, and its weight is a number of 64 bits
pub record IsOn (n : ℕ) (a : Arc) : Type 0 where
  pub tail : a.tail < n
  pub head : a.head < n
  pub lower : neg_ℤ (pos (2 ^ 63)) ≤ℤ a.weight
  pub upper : a.weight ≤ℤ pos (2 ^ 63)

abbrev pub AreOn : ℕ → List Arc → Type 0
AreOn n arcs = (i : ℕ) → i < length arcs → IsOn n (arc_at arcs i)

-- when an arc has its turn in a round, which goes through the arcs backwards or not
abbrev pub turn_of : Bool → ℕ → ℕ → ℕ
turn_of backwards count i = cond backwards (count - 1 - i) i

-- an arc that is late leads to a point that got its height in a late round: in the next one, if it has had its turn before t
abbrev pub IsBehind : List Arc → Bool → ℕ → ℕ → Search → Type 0
IsBehind arcs backwards k t s = (j : ℕ) → j < length arcs → is_late s (arc_at arcs j) ≡ true
    → (k + 1 ≤ stage s (arc_at arcs j).head) ⊎ ((t ≤ turn_of backwards (length arcs) j) × (k ≤ stage s (arc_at arcs j).head))

-- no arc is late
abbrev pub IsStill : List Arc → Search → Type 0
IsStill arcs s = (j : ℕ) → j < length arcs → is_late s (arc_at arcs j) ≡ false

-- a point of a search, and an arc whose ends are
pub record IsPointOf (s : Search) (v : ℕ) : Type 0 where
  pub n : ℕ
  pub arcs : List Arc
  pub of : IsSearch arcs n s
  pub short : IsShort n s
  pub below : v < n

pub record IsArcOf (s : Search) (a : Arc) : Type 0 where
  pub n : ℕ
  pub arcs : List Arc
  pub of : IsSearch arcs n s
  pub short : IsShort n s
  pub on : IsOn n a
