-- The numbers of a search are small enough to be added.
use Rattle.std.specs.Prelude.{ℕ, ◌+◌, ◌^◌, ◌<◌, ℤ, pos, neg_ℤ, ◌≤ℤ◌, List, length}
use Rattle.std.proofs.Common.{arith}
use Rattle.std.proofs.lemmas.Int.{ints}
use Rattle.refute_basic.specs.declared.edge.Arc.{Arc}
use Rattle.cycles.specs.code.Search.{Search, node_at, last_of, height, bound, IsSearch, IsShort}

pub low_enough : (arcs : List Arc) (n : ℕ) (s : Search) (v : ℕ) → IsSearch arcs n s → IsShort n s → v < n → length s.last < 2 ^ 63 → neg_ℤ (pos (2 ^ 126)) ≤ℤ height s v
low_enough arcs n s v is short less size = at (node_at s.nodes (last_of s v)).len (height s v) (omega (arith, size, is.count, short v less)) (is.lower (last_of s v) (is.last v less))
  where
    at : (l : ℕ) (h : ℤ) → l + 1 < 2 ^ 63 → neg_ℤ (bound l) ≤ℤ h → neg_ℤ (pos (2 ^ 126)) ≤ℤ h
    at l h i j = omega (arith, ints, i, j)

pub high_enough : (arcs : List Arc) (n : ℕ) (s : Search) (v : ℕ) → IsSearch arcs n s → IsShort n s → v < n → length s.last < 2 ^ 63 → height s v ≤ℤ pos (2 ^ 126)
high_enough arcs n s v is short less size = at (node_at s.nodes (last_of s v)).len (height s v) (omega (arith, size, is.count, short v less)) (is.upper (last_of s v) (is.last v less))
  where
    at : (l : ℕ) (h : ℤ) → l + 1 < 2 ^ 63 → h ≤ℤ bound l → h ≤ℤ pos (2 ^ 126)
    at l h i j = omega (arith, ints, i, j)

pub len_enough : (arcs : List Arc) (n : ℕ) (s : Search) (v : ℕ) → IsSearch arcs n s → IsShort n s → v < n → length s.last < 2 ^ 63 → (node_at s.nodes (last_of s v)).len + 1 < 2 ^ 64
len_enough arcs n s v is short less size = omega (arith, size, is.count, short v less)
