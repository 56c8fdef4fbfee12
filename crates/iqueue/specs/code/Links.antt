-- How nodes that lead to one another are a queue.
use Rattle.std.specs.Prelude.{◌≡◌, ℕ, zero, suc, Bool, true, false, List, [], ◌∷◌, Option, Some, None, length, slice_get, if◌then◌else◌}
use Rattle.std.specs.Ptr.{Ptr}
use Rattle.std.specs.Vec.{vec_len, vec_ptr}
use Rattle.std.specs.declared.vec.Vec.{Vec}
use Rattle.kept.specs.code.Places.{place, index_of, LiesIn}
use Rattle.iqueue.specs.code.Queue.{AreDistinctBelow, is_in}
use Rattle.iqueue.specs.declared.node.Node.{Node}
use Rattle.iqueue.specs.contracts.node.Node.{the_row}

-- where the k-th node lies, and which node lies there
abbrev pub spot : Ptr → ℕ → Ptr
spot base k = place the_row base k

abbrev pub number : Ptr → Ptr → ℕ
number base p = index_of the_row base p

-- there is no neighbour, or one of the n nodes
abbrev pub IsEnd : Ptr → ℕ → Option Ptr → Type 0
IsEnd base n None = Unit {0}
IsEnd base n (Some p) = LiesIn the_row base n p

-- the nodes lie where they lay, so an address still tells the same node
pub record SameBlock {A : Type 0} (old new : Vec Node A) : Type 0 where
  pub at : vec_ptr new ≡ vec_ptr old
  pub len : vec_len new ≡ vec_len old

-- the first node, once `next` stands behind `prev`
abbrev pub first_of : Option Ptr → Option Ptr → Option Ptr → Option Ptr
first_of first None next = next
first_of first (Some p) next = first

-- the first number, told by the first node and the number that is kept of it
abbrev pub front_of : Option Ptr → ℕ → Option ℕ
front_of None front = None
front_of (Some p) front = Some front

-- one node is changed
abbrev pub changed : (Node → Node) → List Node → ℕ → List Node
changed f [] i = []
changed f (n ∷ ns) zero = f n ∷ ns
changed f (n ∷ ns) (suc i) = n ∷ changed f ns i

abbrev pub next_to : Option Ptr → Node → Node
next_to None n = record n { has_next = false }
next_to (Some at) n = record n { has_next = true; next = at }

abbrev pub prev_to : Option Ptr → Node → Node
prev_to None n = record n { has_prev = false }
prev_to (Some at) n = record n { has_prev = true; prev = at }

abbrev pub next_of : Node → Option Ptr
next_of n = if n.has_next then Some n.next else None

abbrev pub prev_of : Node → Option Ptr
prev_of n = if n.has_prev then Some n.prev else None

abbrev pub with_next : Ptr → List Node → Option Ptr → Option Ptr → List Node
with_next base nodes None at = nodes
with_next base nodes (Some p) at = changed (next_to at) nodes (number base p)

abbrev pub with_prev : Ptr → List Node → Option Ptr → Option Ptr → List Node
with_prev base nodes None at = nodes
with_prev base nodes (Some p) at = changed (prev_to at) nodes (number base p)

-- the node of this number stands behind that one
abbrev pub IsNode : List Node → ℕ → Option Ptr → Node → Type 0
IsNode nodes k before n = (slice_get nodes k ≡ Some n) × (n.number ≡ k) × (prev_of n ≡ before)

-- the nodes of these numbers stand one behind the other, from the one at `at`, which stands behind `before`, to the one before `after`
abbrev pub IsRun : Ptr → List Node → Option Ptr → Option Ptr → List ℕ → Option Ptr → Option Ptr → Type 0
IsRun base nodes before at [] last after = (before ≡ last) × (at ≡ after)
IsRun base nodes before at (k ∷ ks) last after =
    (at ≡ Some (spot base k)) × (n : Node) × IsNode nodes k before n × IsRun base nodes (Some (spot base k)) (next_of n) ks last after

abbrev pub waits : Option Node → Bool
waits (Some n) = n.is_linked
waits None = false

abbrev pub behind : Option Node → Option Ptr
behind (Some n) = next_of n
behind None = None

-- the numbers met along the links, at most n of them
abbrev pub walked : ℕ → Ptr → List Node → Option Ptr → List ℕ
walked zero base nodes at = []
walked (suc n) base nodes None = []
walked (suc n) base nodes (Some p) = number base p ∷ walked n base nodes (behind (slice_get nodes (number base p)))

abbrev pub numbers : Ptr → List Node → Option Ptr → List ℕ
numbers base nodes first = walked (length nodes) base nodes first

-- the links lead through these numbers, and no further
pub record IsLinked (base : Ptr) (nodes : List Node) (first last : Option Ptr) (ks : List ℕ) : Type 0 where
  pub run : IsRun base nodes None first ks last None
  pub distinct : AreDistinctBelow (length nodes) ks
  pub marks : (k : ℕ) → waits (slice_get nodes k) ≡ is_in k ks
