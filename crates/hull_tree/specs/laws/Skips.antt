-- A node under which nothing tells of a changed interval has the range that it had.
use Rattle.std.specs.Prelude.{◌≡◌, ℕ, zero, suc, ◌+◌, ◌<◌, ◌≤◌, Bool, true, false, List, Some, length, pos, slice_get}
use Rattle.std.proofs.Common.{refl, sym, ap, ◌∙◌, arith}
use Rattle.sched_base.specs.declared.ids.Itv.{Itv}
use Rattle.sched_model.specs.Data.{Data, same}
use Rattle.sched_model.specs.Ranges.{Ends}
use Rattle.region.specs.Cells.{Region, bounds_of}
use Rattle.region.specs.laws.OneSequence.{same_is}
use Rattle.look_hull.specs.LookHull.{start_look, end_look, size_look, presence_look, range_of_listed}
use Rattle.hull_tree.specs.declared.atoms.Atom.{Atom}
use Rattle.hull_tree.specs.declared.nodes.Leaf.{Leaf}
use Rattle.hull_tree.specs.declared.nodes.Leaf.TheVariants.{Lit, Start, End, Size, Presence}
use Rattle.hull_tree.specs.declared.nodes.Node.{Node}
use Rattle.hull_tree.specs.declared.nodes.Span.{Span}
use Rattle.hull_tree.specs.declared.nodes.Node.TheVariants as node
use Rattle.hull_tree.specs.code.Nodes.{interval_of, named, leaf_ends, combined, ends_at, node_at, span_at, node_ends, AreEnds, IsPlaced, AreNodes, AreSameBut, DifferAt, IsEndsOf}
use Rattle.hull_tree.specs.code.Atoms.{AreAtoms, IsClear}

-- a leaf tells the same where its interval is the same
leaf_same : (m : Data) (r q : Region) (l : Leaf) → ((z : Itv) → interval_of l ≡ Some z → bounds_of r z ≡ bounds_of q z) → leaf_ends m r l ≡ leaf_ends m q l
leaf_same m r q (Lit n) h = refl
leaf_same m r q (Start z d) h = ap (range_of_listed start_look d (slice_get m.intervals z.0)) (h z refl)
leaf_same m r q (End z d) h = ap (range_of_listed end_look d (slice_get m.intervals z.0)) (h z refl)
leaf_same m r q (Size z d) h = ap (range_of_listed size_look d (slice_get m.intervals z.0)) (h z refl)
leaf_same m r q (Presence z) h = ap (range_of_listed presence_look (pos 0) (slice_get m.intervals z.0)) (h z refl)

-- no node in the span tells of an interval that is changed
abbrev pub Untouched : List Node → Region → Region → Span → Type 0
Untouched ns r q s = (j : ℕ) (z : Itv) → s.first ≤ j → j ≤ s.last → j < length ns → named (node_at ns j) ≡ Some z → bounds_of r z ≡ bounds_of q z

-- the law, of nodes below some place
pub skips : (m : Data) (ns : List Node) (fs : List Span) (r q : Region) (hs ks : List Ends) → AreNodes ns fs → AreEnds m ns r (length ns) hs → AreEnds m ns q (length ns) ks
    → (most i : ℕ) → i < most → i < length ns → Untouched ns r q (span_at fs i) → ends_at hs i ≡ ends_at ks i
skips m ns fs r q hs ks nodes old new zero i below within none = absurd (omega (arith, below))
skips m ns fs r q hs ks nodes old new (suc most) i below within none =
    old.each i within ∙ at (node_at ns i) refl (nodes.each i within) (skips m ns fs r q hs ks nodes old new most) ∙ sym (new.each i within)
  where
    at : (n : Node) → node_at ns i ≡ n → IsPlaced fs i n → ((j : ℕ) → j < most → j < length ns → Untouched ns r q (span_at fs j) → ends_at hs j ≡ ends_at ks j)
        → node_ends m r hs n ≡ node_ends m q ks n
    at (node.Leaf l) is placed lower = leaf_same m r q l (λ z told. none i z placed.0 placed.1 within (ap named is ∙ told))
    at (node.Pair op a b) is placed lower =
        ap (λ e. combined op e (ends_at hs b)) (lower a (omega (arith, placed.0, below)) (omega (arith, placed.0, within)) (λ j z from to in_all. none j z (let p = placed.2.first in omega (arith, p, from)) (let p = placed.2.last in omega (arith, p, to)) in_all))
        ∙ ap (λ e. combined op (ends_at ks a) e) (lower b (omega (arith, placed.1, below)) (omega (arith, placed.1, within)) (λ j z from to in_all. none j z (let p = placed.3.first in omega (arith, p, from)) (let p = placed.3.last in omega (arith, p, to)) in_all))

-- where both changed intervals have no atom there
untouched : (ns : List Node) (ats : List Atom) (x y : Itv) (r q : Region) (s : Span) → AreAtoms ns ats → AreSameBut x y r q → IsClear ats x s → IsClear ats y s → Untouched ns r q s
untouched ns ats x y r q s atoms alike clear also j z from to within told = alike z (apart x clear (same z x) refl) (apart y also (same z y) refl)
  where
    apart : (w : Itv) → IsClear ats w s → (b : Bool) → same z w ≡ b → same z w ≡ false
    apart w none true is = absurd (none j from to (atoms.all j w within (told ∙ ap Some (same_is z w is))))
    apart w none false is = is

pub skipped : (m : Data) (ns : List Node) (fs : List Span) (ats : List Atom) (x y : Itv) (hs : List Ends) (q : Region) (i : ℕ) (e : Ends) → AreNodes ns fs → AreAtoms ns ats → DifferAt m ns x y hs q → i < length ns
    → IsClear ats x (span_at fs i) × IsClear ats y (span_at fs i) → e ≡ ends_at hs i → IsEndsOf m ns q i e
skipped m ns fs ats x y hs q i e nodes atoms differ within clear is ks new =
    is ∙ skips m ns fs differ.before q hs ks nodes differ.ends new (i + 1) i (omega arith) within (untouched ns ats x y differ.before q (span_at fs i) atoms differ.same clear.0 clear.1)
