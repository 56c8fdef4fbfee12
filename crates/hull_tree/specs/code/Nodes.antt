-- An expression as nodes, each after those that it names, and the ranges of all nodes in a region.
use Rattle.std.specs.Prelude.{◌≡◌, ℕ, ◌<◌, ◌≤◌, pos, ◌+ℤ◌, ◌-ℤ◌, Bool, true, false, ◌&&◌, ◌||◌, List, length, map, Option, Some, None, slice_index_or}
use Rattle.std.specs.Int.{int_max, int_min, saturate_signed, w128}
use Rattle.std.specs.List.{list_all}
use Rattle.sched_base.specs.declared.ids.Itv.{Itv}
use Rattle.sched_model.specs.Data.{Data, same}
use Rattle.sched_model.specs.Ranges.{Ends, total_range, greatest_range, least_range}
use Rattle.sched_model.specs.Bounds.{is_small}
use Rattle.sched_model.specs.code.Saturated.{saturated_range}
use Rattle.region.specs.Cells.{Region, bounds_of}
use Rattle.look_hull.specs.LookHull.{start_look, end_look, size_look, presence_look, interval_look, truth_range, surely_true, surely_false, compare_range, not_range, and_range, or_range, implies_range}
use Rattle.look_hull.specs.code.Saturated.{saturated}
use Rattle.hull_tree.specs.declared.nodes.Leaf.{Leaf}
use Rattle.hull_tree.specs.declared.nodes.Leaf.TheVariants.{Lit, Start, End, Size, Presence}
use Rattle.hull_tree.specs.declared.nodes.Op.{Op}
use Rattle.hull_tree.specs.declared.nodes.Op.TheVariants.{Neg, Add, Times, Greater, Lesser, Compare, Not, Both, Either, Implies}
use Rattle.hull_tree.specs.declared.nodes.Node.{Node}
use Rattle.hull_tree.specs.declared.nodes.Span.{Span}
use Rattle.hull_tree.specs.declared.nodes.Node.TheVariants as node

-- the interval that a leaf tells of, and a node itself
abbrev pub interval_of : Leaf → Option Itv
interval_of (Lit n) = None
interval_of (Start x d) = Some x
interval_of (End x d) = Some x
interval_of (Size x d) = Some x
interval_of (Presence x) = Some x

abbrev pub named : Node → Option Itv
named (node.Leaf l) = interval_of l
named (node.Pair op a b) = None

abbrev pub leaf_ends : Data → Region → Leaf → Ends
leaf_ends m r (Lit n) = (n, n)
leaf_ends m r (Start x d) = interval_look m r start_look x d
leaf_ends m r (End x d) = interval_look m r end_look x d
leaf_ends m r (Size x d) = interval_look m r size_look x d
leaf_ends m r (Presence x) = interval_look m r presence_look x (pos 0)

abbrev pub added : Ends → Ends → Ends
added r s = (saturate_signed w128 (r.0 +ℤ s.0), saturate_signed w128 (r.1 +ℤ s.1))

abbrev pub negation : Ends → Ends
negation r = (saturate_signed w128 (pos 0 -ℤ r.1), saturate_signed w128 (pos 0 -ℤ r.0))

-- the range of a truth value of two others
abbrev pub joined_truth : Op → Ends → Ends → Ends
joined_truth (Compare op) r s = compare_range op r s
joined_truth Not r s = not_range r
joined_truth Both r s = truth_range (surely_true r && surely_true s) (surely_false r || surely_false s)
joined_truth Either r s = truth_range (surely_true r || surely_true s) (surely_false r && surely_false s)
joined_truth Implies r s = implies_range r s
joined_truth _ r s = (pos 0, pos 0)

-- what an operation makes of two ranges; of values within the limits it is exact
abbrev pub combined : Op → Ends → Ends → Ends
combined Neg r s = negation r
combined Add r s = added r s
combined Times r s = saturated_range r (saturated s)
combined Greater r s = (int_max r.0 s.0, int_max r.1 s.1)
combined Lesser r s = (int_min r.0 s.0, int_min r.1 s.1)
combined op r s = joined_truth op (saturated r) (saturated s)

abbrev pub ends_at : List Ends → ℕ → Ends
ends_at hs i = slice_index_or hs i (pos 0, pos 0)

abbrev pub nothing : Node
nothing = node.Leaf (Lit (pos 0))

abbrev pub node_at : List Node → ℕ → Node
node_at ns i = slice_index_or ns i nothing

abbrev pub span_at : List Span → ℕ → Span
span_at ss i = slice_index_or ss i (record { first = 0; last = 0 })

abbrev pub node_ends : Data → Region → List Ends → Node → Ends
node_ends m r hs (node.Leaf l) = leaf_ends m r l
node_ends m r hs (node.Pair op a b) = combined op (ends_at hs a) (ends_at hs b)

-- the ranges of the first n nodes in a region
pub record AreEnds (m : Data) (ns : List Node) (r : Region) (n : ℕ) (hs : List Ends) : Type 0 where
  pub size : n ≤ length hs
  pub each : (i : ℕ) → i < n → ends_at hs i ≡ node_ends m r hs (node_at ns i)

-- a span lies in another
pub record IsWithin (s t : Span) : Type 0 where
  pub first : t.first ≤ s.first
  pub last : s.last ≤ t.last

-- a node at a place stands after those that it names, and its span has theirs, and that of a leaf its place: so all leaves
-- under a node stand in its span
abbrev pub IsPlacedBy : List Span → ℕ → Span → Node → Type 0
IsPlacedBy ss i s (node.Leaf l) = (s.first ≤ i) × (i ≤ s.last)
IsPlacedBy ss i s (node.Pair op a b) = (a < i) × (b < i) × IsWithin (span_at ss a) s × IsWithin (span_at ss b) s

abbrev pub IsPlaced : List Span → ℕ → Node → Type 0
IsPlaced ss i n = IsPlacedBy ss i (span_at ss i) n

pub record AreNodes (ns : List Node) (ss : List Span) : Type 0 where
  pub size : length ss ≡ length ns
  pub each : (i : ℕ) → i < length ns → IsPlaced ss i (node_at ns i)

-- nothing but these two intervals is different in both regions
abbrev pub AreSameBut : Itv → Itv → Region → Region → Type 0
AreSameBut x y r q = (z : Itv) → same z x ≡ false → same z y ≡ false → bounds_of r z ≡ bounds_of q z

-- the ranges are those of a region that differs from this one in two intervals
pub record DifferAt (m : Data) (ns : List Node) (x y : Itv) (hs : List Ends) (q : Region) : Type 0 where
  pub before : Region
  pub ends : AreEnds m ns before (length ns) hs
  pub same : AreSameBut x y before q

-- the range that a node has in a region, by whatever list of ranges
abbrev pub IsEndsOf : Data → List Node → Region → ℕ → Ends → Type 0
IsEndsOf m ns q i e = (ks : List Ends) → AreEnds m ns q (length ns) ks → e ≡ ends_at ks i

-- the node names none but the first n nodes
abbrev pub IsThere : ℕ → Node → Type 0
IsThere n (node.Leaf l) = Unit {0}
IsThere n (node.Pair op a b) = (a < n) × (b < n)

-- what an operation makes of a whole list
abbrev pub whole : Op → List Ends → Ends
whole Add rs = total_range rs
whole Greater rs = greatest_range rs
whole Lesser rs = least_range rs
whole Both rs = and_range rs
whole Either rs = or_range rs
whole _ rs = (pos 0, pos 0)

-- the operations that join lists
abbrev pub is_joining : Op → Bool
is_joining Add = true
is_joining Greater = true
is_joining Lesser = true
is_joining Both = true
is_joining Either = true
is_joining _ = false

abbrev pub is_limited : Ends → Bool
is_limited r = is_small r.0 && is_small r.1

-- a list of nodes that goes on from another
pub record Grown (ns ks : List Node) : Type 0 where
  pub size : length ns ≤ length ks
  pub same : (i : ℕ) → i < length ns → node_at ks i ≡ node_at ns i

pub record IsAt (ns : List Node) (n : Node) (i : ℕ) : Type 0 where
  pub within : i < length ns
  pub is : node_at ns i ≡ n

-- where all ranges of the listed nodes are within the limits, the node has what the operation makes of them
pub record IsJoined (op : Op) (ns : List Node) (is : List ℕ) (i : ℕ) : Type 0 where
  pub within : i < length ns
  pub ends : (m : Data) (r : Region) (hs : List Ends) → AreEnds m ns r (length ns) hs → list_all is_limited (map (ends_at hs) is) ≡ true → ends_at hs i ≡ whole op (map (ends_at hs) is)
