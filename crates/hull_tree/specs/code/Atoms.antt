-- Where the intervals of an expression stand among its nodes.
use Rattle.std.specs.Prelude.{◌≡◌, ℕ, ◌<◌, ◌≤◌, ◌+◌, ◌*◌, ◌^◌, List, length, Some, IsTrue, slice_index_or}
use Rattle.std.specs.List.{Contains}
use Rattle.std.specs.List.Sorted.{IsNonDecreasingBy}
use Rattle.sched_base.specs.declared.ids.Itv.{Itv}
use Rattle.sched_model.specs.Data.{has}
use Rattle.hull_tree.specs.declared.atoms.Atom.{Atom}
use Rattle.hull_tree.specs.declared.nodes.Node.{Node}
use Rattle.hull_tree.specs.declared.nodes.Span.{Span}
use Rattle.hull_tree.specs.declared.reach.Reach.{Reach}
use Rattle.hull_tree.specs.code.Nodes.{node_at, named}

abbrev pub atom_at : Itv → ℕ → Atom
atom_at x i = record { interval = x; place = i }

-- by interval, and by place
abbrev pub key_at : Itv → ℕ → ℕ
key_at x i = x.0 * 2 ^ 32 + i

abbrev pub key_of : Atom → ℕ
key_of a = key_at a.interval a.place

-- each of the first n nodes that tells of an interval has an atom
abbrev pub HasAtomsBelow : List Node → ℕ → List Atom → Type 0
HasAtomsBelow ns n ats = (i : ℕ) (x : Itv) → i < n → named (node_at ns i) ≡ Some x → Contains ats (atom_at x i)

pub record AreAtoms (ns : List Node) (ats : List Atom) : Type 0 where
  pub rising : IsNonDecreasingBy key_of ats
  pub all : HasAtomsBelow ns (length ns) ats

-- the interval of each of the first n atoms is listed
abbrev pub HasIntervals : ℕ → List Atom → List Itv → Type 0
HasIntervals n ats xs = (i : ℕ) (a : Atom) → i < n → slice_index_or ats i a ≡ a → IsTrue (has xs a.interval)

-- the interval has no atom in the span
abbrev pub IsClear : List Atom → Itv → Span → Type 0
IsClear ats x s = (i : ℕ) → s.first ≤ i → i ≤ s.last → Contains ats (atom_at x i) → ⊥

-- no atom of the interval stands before the first place of its reach, or behind the last
abbrev pub HasReach : List Atom → Reach → Type 0
HasReach ats r = (i : ℕ) → i < 2 ^ 32 → Contains ats (atom_at r.interval i) → (r.first ≤ i) × (i ≤ r.last)
