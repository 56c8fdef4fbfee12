-- Ranges of nodes, one after the other.
use Rattle.std.proofs.Common.{◌≡◌, ◌≢◌, ℕ, zero, suc, ◌+◌, ◌<◌, ◌≤◌, List, [], ◌∷◌, ◌++◌, length, get_or, set, refl, sym, ap, ◌∙◌, arith, inl, inr}
use Rattle.std.proofs.lemmas.Bool.{cases_eq}
use Rattle.sched_model.specs.Data.{Data}
use Rattle.sched_model.specs.Ranges.{Ends}
use Rattle.region.specs.Cells.{Region}
use Rattle.hull_tree.specs.declared.nodes.Node.{Node}
use Rattle.hull_tree.specs.declared.nodes.Span.{Span}
use Rattle.hull_tree.specs.declared.nodes.Node.TheVariants as node
use Rattle.hull_tree.specs.code.Nodes.{combined, ends_at, node_at, node_ends, AreEnds, IsPlaced, AreNodes, IsThere}

-- a list with one more

pub get_last : {X : Type 0} (xs : List X) (x d : X) (n : ℕ) → length xs ≡ n → get_or (xs ++ x ∷ []) n d ≡ x
get_last [] x d zero h = refl
get_last [] x d (suc n) h = absurd (omega (arith, h))
get_last (y ∷ ys) x d zero h = absurd (omega (arith, h))
get_last (y ∷ ys) x d (suc n) h = get_last ys x d n (omega (arith, h))

-- a list with an element written over
pub set_size : {X : Type 0} (xs : List X) (n : ℕ) (x : X) (k : ℕ) → length xs ≡ k → length (set xs n x) ≡ k
set_size [] n x k h = h
set_size (y ∷ ys) zero x k h = h
set_size (y ∷ ys) (suc n) x zero h = absurd (omega (arith, h))
set_size (y ∷ ys) (suc n) x (suc k) h = ap suc (set_size ys n x k (omega (arith, h)))

set_there : {X : Type 0} (xs : List X) (n : ℕ) (x d : X) → n < length xs → get_or (set xs n x) n d ≡ x
set_there [] n x d h = absurd (omega (arith, h))
set_there (y ∷ ys) zero x d h = refl
set_there (y ∷ ys) (suc n) x d h = set_there ys n x d (omega (arith, h))

set_elsewhere : {X : Type 0} (xs : List X) (n i : ℕ) (x d : X) → i < n → get_or (set xs n x) i d ≡ get_or xs i d
set_elsewhere [] n i x d h = refl
set_elsewhere (y ∷ ys) zero i x d h = absurd (omega (arith, h))
set_elsewhere (y ∷ ys) (suc n) zero x d h = refl
set_elsewhere (y ∷ ys) (suc n) (suc i) x d h = set_elsewhere ys n i x d (omega (arith, h))

-- nodes that name only ranges before a place don't notice what is written there
set_same : (m : Data) (r : Region) (hs : List Ends) (e : Ends) (fs : List Span) (i n : ℕ) (x : Node) → i ≤ n → IsPlaced fs i x → node_ends m r (set hs n e) x ≡ node_ends m r hs x
set_same m r hs e fs i n (node.Leaf l) within placed = refl
set_same m r hs e fs i n (node.Pair op a b) within placed =
    ap (λ z. combined op z (ends_at (set hs n e) b)) (set_elsewhere hs n a e _ (omega (arith, placed.0, within)))
    ∙ ap (λ z. combined op (ends_at hs a) z) (set_elsewhere hs n b e _ (omega (arith, placed.1, within)))

pub ends_none : (m : Data) (ns : List Node) (r : Region) (hs : List Ends) → AreEnds m ns r 0 hs
ends_none m ns r hs = record { size = omega arith; each = λ i below. absurd (omega (arith, below)) }

pub ends_set : (m : Data) (ns : List Node) (fs : List Span) (r : Region) (n : ℕ) (hs : List Ends) (e : Ends) → AreNodes ns fs → AreEnds m ns r n hs → length hs ≡ length ns → n < length ns
    → e ≡ node_ends m r hs (node_at ns n) → AreEnds m ns r (n + 1) (set hs n e)
ends_set m ns fs r n hs e nodes before size within is = record { size = let same = set_size hs n e (length ns) size in omega (arith, same, within); each = each }
  where
    lower : (i n : ℕ) → i < n + 1 → (i ≡ n → ⊥) → i < n
    lower i n h ne = let k : i ≢ n = ne in omega (arith, h, k)

    each : (i : ℕ) → i < n + 1 → ends_at (set hs n e) i ≡ node_ends m r (set hs n e) (node_at ns i)
    each i below = elim (cases_eq i n) [
      | inl last ↦ ap (ends_at (set hs n e)) last ∙ set_there hs n e _ (omega (arith, within, size)) ∙ is ∙ sym (set_same m r hs e fs n n (node_at ns n) (omega arith) (nodes.each n within)) ∙ ap (λ j. node_ends m r (set hs n e) (node_at ns j)) (sym last)
      | inr other ↦ (let less : i < n = lower i n below other in
          set_elsewhere hs n i e _ less ∙ before.each i less ∙ sym (set_same m r hs e fs i n (node_at ns i) (omega (arith, less)) (nodes.each i (omega (arith, less, within)))))
    ]

pub placed_there : (fs : List Span) (i n : ℕ) (x : Node) → i ≡ n → IsPlaced fs i x → IsThere n x
placed_there fs i n (node.Leaf l) is placed = tt
placed_there fs i n (node.Pair op a b) is placed = (omega (arith, is, placed.0), omega (arith, is, placed.1))

pub longer_by : {X : Type 0} (xs : List X) (x : X) (n : ℕ) → length xs ≡ n → length (xs ++ x ∷ []) ≡ n + 1
longer_by [] x n h = omega (arith, h)
longer_by (y ∷ ys) x zero h = absurd (omega (arith, h))
longer_by (y ∷ ys) x (suc n) h = let rest = longer_by ys x n (omega (arith, h)) in omega (arith, rest)
