-- What a walk finds at the root of the nodes of an expression is its look hull.
use Rattle.std.proofs.Common.{◌≡◌, ℕ, zero, suc, ◌+◌, ◌<◌, ◌≤◌, add-one, true, false, List, [], ◌∷◌, length, set, get_or, Option, Some, None, is_some, refl, sym, ap, subst, ◌∙◌, arith}
use Rattle.std.specs.Prelude.{IsTrue}
use Rattle.std.proofs.lemmas.Bool.{true≢false}
use Rattle.sched_base.specs.declared.ids.Itv.{Itv}
use Rattle.sched_model.specs.declared.types.Expr.{Expr}
use Rattle.sched_model.specs.Data.{Data, empty_model, same, has}
use Rattle.sched_model.specs.Valid.{IsValid}
use Rattle.sched_model.specs.Hull.{hull_of}
use Rattle.sched_model.specs.Ranges.{Ends}
use Rattle.region.specs.declared.types.Topic.{Topic}
use Rattle.region.specs.declared.types.Topic.TheVariants.{One, Two}
use Rattle.region.specs.declared.types.Guess.{Guess}
use Rattle.region.specs.Claims.{guessed, as_present}
use Rattle.region.specs.Cells.{Region}
use Rattle.region.specs.Guesses.{assumed, looked_at, topic, with_bounds}
use Rattle.region.specs.Looks.{IsRegionOf}
use Rattle.region.specs.laws.OneSequence.{same_self}
use Rattle.region.specs.laws.Intervals.{bounds_elsewhere}
use Rattle.look_hull.specs.LookHull.{look_hull}
use Rattle.look_hull.specs.code.Saturated.{saturated}
use Rattle.look_hull.specs.laws.Hulls.{look_kept}
use Rattle.look_hull.specs.laws.Saturation.{pair_kept}
use Rattle.hull_tree.specs.declared.atoms.Atom.{Atom}
use Rattle.hull_tree.specs.declared.nodes.Node.{Node}
use Rattle.hull_tree.specs.declared.nodes.Span.{Span}
use Rattle.hull_tree.specs.code.Nodes.{ends_at, node_at, node_ends, AreEnds, AreNodes, AreSameBut, DifferAt, IsEndsOf}
use Rattle.hull_tree.specs.code.Meaning.{IsNamed, Means}
use Rattle.hull_tree.specs.code.Atoms.{atom_at, AreAtoms, HasIntervals}
use Rattle.hull_tree.specs.code.Trees.{Tree, IsTreeOf, IsEvaluated, IsRootRange, changed}
use Rattle.hull_tree.proofs.Growing.{ends_none, ends_set, set_size}

-- the ranges of the first n nodes in a region, over others
record Ranged (m : Data) (ns : List Node) (r : Region) (n : ℕ) : Type 0 where
  hs : List Ends
  size : length hs ≡ length ns
  are : AreEnds m ns r n hs

ranged : (m : Data) (ns : List Node) (fs : List Span) (r : Region) (gs : List Ends) → AreNodes ns fs → length gs ≡ length ns → (n : ℕ) → n ≤ length ns → Ranged m ns r n
ranged m ns fs r gs nodes size zero within = record { hs = gs; size = size; are = ends_none m ns r gs }
ranged m ns fs r gs nodes size (suc n) within =
    let before = ranged m ns fs r gs nodes size n (omega (arith, within)) in
    let e = node_ends m r before.hs (node_at ns n) in
    let next : n + 1 ≡ suc n = add-one n in
    record {
      hs = set before.hs n e;
      size = set_size before.hs n e (length ns) before.size;
      are = subst (λ k. AreEnds m ns r k (set before.hs n e)) next (ends_set m ns fs r n before.hs e nodes before.are before.size (omega (arith, within)) refl);
    }

some_hull : (o : Option Ends) → is_some o ≡ true → (h : Ends) × (o ≡ Some h)
some_hull None is = absurd (true≢false (sym is))
some_hull (Some h) is = (h, refl)

-- what a walk finds is the range of the root
pub root_range : (m : Data) (s t : Tree) (fs : List Span) (q : Region) (e : Ends) (ns : List Node) → s ≡ t → ns ≡ s.nodes → AreNodes s.nodes fs → length s.ends ≡ length s.nodes → IsEndsOf m ns q s.root e → IsRootRange m t q e
root_range m s t fs q e ns same is nodes size found =
    let ends = subst (λ ks. IsEndsOf m ks q s.root e) is found in
    let all = ranged m s.nodes fs q s.ends nodes size (length s.nodes) (omega arith) in
    subst (λ u. IsRootRange m u q e) same (record { ranges = all.hs; are = all.are; is = ends all.hs all.are })

pub own_range : (m : Data) (s t : Tree) (o : Option Guess) (r : Region) (e : Ends) → s ≡ t → o ≡ None → IsEvaluated m r t → e ≡ get_or s.ends s.root e → s.root < length s.ends → IsRootRange m t (looked_at o r) e
own_range m s t o r e same none ends is within = subst (λ p. IsRootRange m t (looked_at p r) e) (sym none)
    (record { ranges = t.ends; are = ends; is = is ∙ default s.ends s.root e _ within ∙ ap (λ u. ends_at u.ends u.root) same })
  where
    default : (hs : List Ends) (n : ℕ) (d e : Ends) → n < length hs → get_or hs n d ≡ get_or hs n e
    default [] n d e h = absurd (omega (arith, h))
    default (z ∷ zs) zero d e h = refl
    default (z ∷ zs) (suc n) d e h = default zs n d e (omega (arith, h))

-- the law
pub root_means : (m : Data) (t : Tree) (q : Region) (e : Expr) (x : Ends) → IsValid m → IsRegionOf m q → is_some (hull_of m e) ≡ true → IsTreeOf e t → IsRootRange m t q x → saturated x ≡ look_hull m q e
root_means m t q e x valid of some tree range =
    let h = some_hull (hull_of m e) some in
    let is : x ≡ look_hull m q e = range.is ∙ (tree.means m).ends h.0 h.1 valid q range.ranges of range.are in
    let small = look_kept m q valid of e h.0 h.1 in
    ap saturated is ∙ pair_kept (look_hull m q e) small.low small.high

pub tree_kept : (e : Expr) (s t : Tree) → s.nodes ≡ t.nodes → s.root ≡ t.root → s.intervals ≡ t.intervals → IsTreeOf e s → IsTreeOf e t
tree_kept e s t nodes root intervals tree = record {
  means = λ m. subst (λ ns. Means m ns t.root e) nodes (subst (λ i. Means m s.nodes i e) root (tree.means m));
  names = λ x here. subst (λ xs. IsTrue (has xs x)) intervals (tree.names x here);
}

-- a guess changes two intervals, or one
apart : (x z : Itv) → same z x ≡ false → z.0 ≡ x.0 → ⊥
apart x z h e = true≢false (sym (same_self z) ∙ ap (λ n. same z (record { 0 = n })) e ∙ h)

pub same_but : (g : Guess) (r : Region) → AreSameBut (changed (topic g)).0 (changed (topic g)).1 r (looked_at (Some g) r)
same_but g r = by_topic (topic g)
  where
    by_topic : (t : Topic) → AreSameBut (changed t).0 (changed t).1 r (assumed t r)
    by_topic (One x c) z first second = sym (bounds_elsewhere x z (guessed c) r (apart x z first))
    by_topic (Two p x y) z first second = sym (bounds_elsewhere x z as_present (with_bounds y as_present r) (apart x z first) ∙ bounds_elsewhere y z as_present r (apart y z second))

pub differ_at : (m : Data) (t : Tree) (g : Guess) (r q : Region) (w : Itv × Itv) → w ≡ changed (topic g) → q ≡ looked_at (Some g) r → IsEvaluated m r t → DifferAt m t.nodes w.0 w.1 t.ends q
differ_at m t g r q w is look ends = record { before = r; ends = ends; same = subst (λ p. AreSameBut w.0 w.1 r p) (sym look) (subst (λ (v : Itv × Itv). AreSameBut v.0 v.1 r (looked_at (Some g) r)) (sym is) (same_but g r)) }

pub walk_differs : (m : Data) (t : Tree) (g : Guess) (r q : Region) (w : Itv × Itv) (ns : List Node) (es : List Ends) (x y : Itv) → w ≡ changed (topic g) → q ≡ looked_at (Some g) r → IsEvaluated m r t → ns ≡ t.nodes → es ≡ t.ends → x ≡ w.0 → y ≡ w.1
    → DifferAt m ns x y es q
walk_differs m t g r q w ns es x y is look ends nodes same first second = rw (nodes, same, first, second) (differ_at m t g r q w is look ends)

-- the tree of nodes that mean an expression
listed : (ns : List Node) (ats : List Atom) (xs : List Itv) (x : Itv) → AreAtoms ns ats → HasIntervals (length ats) ats xs → IsNamed ns x → has xs x ≡ true
listed ns ats xs x atoms all one = let there = atoms.all one.at x one.within one.names in all there.0 (atom_at x one.at) there.1 there.2

pub tree_of : (ns ks : List Node) (ats bts : List Atom) (xs : List Itv) (root : ℕ) (hs : List Ends) (e : Expr) → ks ≡ ns → bts ≡ ats → ((m : Data) → Means m ns root e) → AreAtoms ks ats → HasIntervals (length bts) bts xs
    → IsTreeOf e (record { nodes = ns; root = root; intervals = xs; ends = hs })
tree_of ns ks ats bts xs root hs e same_nodes same_atoms means atoms all = record {
  means = means;
  names = λ x here. listed ns ats xs x (subst (λ ls. AreAtoms ls ats) same_nodes atoms) (subst (λ cts. HasIntervals (length cts) cts xs) same_atoms all) ((means empty_model).names x here);
}
