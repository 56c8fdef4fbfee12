-- How the late arcs run out: each leads to a point that got its height in a late round.
use Rattle.std.specs.Prelude.{◌≡◌, ◌⊎◌, ℕ, ◌+◌, ◌<◌, ◌≤◌, ℤ, ◌+ℤ◌, ◌≤ℤ◌, ◌<ℤ◌, Bool, true, false, List, Option, Some, None, IfSome, length, int_lt}
use Rattle.std.proofs.Common.{inl, inr, refl, sym, ap, subst, ◌∙◌, arith}
use Rattle.std.proofs.lemmas.Int.{ints}
use Rattle.refute_basic.specs.declared.edge.Arc.{Arc}
use Rattle.cycles.specs.declared.node.Node.{Node}
use Rattle.cycles.specs.code.Walks.{arc_at, HasHeights}
use Rattle.cycles.specs.code.Search.{Search, node_at, last_of, height, stage, is_late, IsSearch, IsShort, AreOn, turn_of, IsBehind, IsStill}
use Rattle.cycles.specs.code.Pushes.{pushed, node_by}
use Rattle.cycles.specs.laws.Pushed.{same_or_not, last_node_same, last_node_new, rises}

pub if_some : (o : Option ℕ) (P : ℕ → Type 0) → ((k : ℕ) → P k) → IfSome o P
if_some None P all = tt
if_some (Some k) P all = all k

-- two arcs have their turns apart
turn_passed : (b : Bool) (count i j : ℕ) → i < count → j < count → (j ≡ i → ⊥) → turn_of b count i ≤ turn_of b count j → turn_of b count i + 1 ≤ turn_of b count j
turn_passed true count i j i_less j_less other h = grind arith
turn_passed false count i j i_less j_less other h = grind arith

pub turn_below : (b : Bool) (count i : ℕ) → i < count → turn_of b count i < count
turn_below true count i h = omega (arith, h)
turn_below false count i h = h

-- an arc that was late, and isn't any more, or that leads to the new node, is not behind
pub behind_pushed : (arcs : List Arc) (n : ℕ) (s : Search) (way : Bool) (i k : ℕ) → IsSearch arcs n s → AreOn n arcs → i < length arcs
    → is_late s (arc_at arcs i) ≡ true
    → IsBehind arcs way k (turn_of way (length arcs) i) s → IsBehind arcs way k (turn_of way (length arcs) i + 1) (pushed s (node_by s (arc_at arcs i) i) (arc_at arcs i).tail)
behind_pushed arcs n s way i k is all within late behind j below late_j = at (same_or_not b.head a.tail)
  where
    a : Arc
    a = arc_at arcs i

    b : Arc
    b = arc_at arcs j

    x : Node
    x = node_by s (arc_at arcs i) i

    p : Search
    p = pushed s (node_by s (arc_at arcs i) i) (arc_at arcs i).tail

    lt : (a b : ℤ) → int_lt a b ≡ true → a <ℤ b
    lt a b h = grind (arith, ints)

    le_late : (t t' w h h' : ℤ) → t ≤ℤ t' → h' ≡ h → int_lt t' (w +ℤ h') ≡ true → int_lt t (w +ℤ h) ≡ true
    le_late t t' w h h' i e l = grind (arith, ints)

    not_late : (v t w h h' : ℤ) → t ≡ v → h' ≡ h → v ≡ w +ℤ h → int_lt t (w +ℤ h') ≡ true → ⊥
    not_late v t w h h' i e q l = grind (arith, ints)

    from_late : (k ≤ stage s (arc_at arcs i).head)
    from_late = elim (behind i within late) [ inl h ↦ omega (arith, h) | inr h ↦ h.1 ]

    at : (b.head ≡ a.tail) ⊎ (b.head ≡ a.tail → ⊥) → (k + 1 ≤ stage p b.head) ⊎ ((turn_of way (length arcs) i + 1 ≤ turn_of way (length arcs) j) × (k ≤ stage p b.head))
    at (inl e) = inl (subst (λ (w : ℕ). k + 1 ≤ stage p w) (sym e) (subst (λ (y : Node). k + 1 ≤ y.len) (sym (last_node_new arcs n s x a.tail is (all i within).tail)) (omega (arith, from_late))))
    at (inr other) =
        let same : node_at p.nodes (last_of p b.head) ≡ node_at s.nodes (last_of s b.head) = last_node_same arcs n s x a.tail b.head is (all j below).head other in
        let was : is_late s b ≡ true = le_late _ _ b.weight _ _ (rises arcs n s x a.tail b.tail is (all i within).tail (all j below).tail (lt _ _ late)) (ap (λ (y : Node). y.value) same) late_j in
        let len : stage p b.head ≡ stage s b.head = ap (λ (y : Node). y.len) same in
        elim (behind j below was) [
          | inl h ↦ inl (omega (arith, h, len))
          | inr h ↦ elim (same_or_not j i) [
            | inl e ↦ absurd (not_late x.value (height p a.tail) a.weight (height s a.head) (height p b.head) (ap (λ (y : Node). y.value) (last_node_new arcs n s x a.tail is (all i within).tail)) (ap (λ (y : Node). y.value) same ∙ ap (λ (c : Arc). height s c.head) (ap (arc_at arcs) e)) refl (subst (λ (c : Arc). int_lt (height p c.tail) (c.weight +ℤ height p b.head) ≡ true) (ap (arc_at arcs) e) late_j))
            | inr off ↦ inr (turn_passed way (length arcs) i j within below off h.0, omega (arith, h.1, len))
          ]
        ]

-- after a round the next one begins, which may go the other way
pub behind_round : (arcs : List Arc) (s : Search) (way other : Bool) (k t : ℕ) → length arcs ≤ t → IsBehind arcs way k t s → IsBehind arcs other (k + 1) 0 s
behind_round arcs s way other k t past behind j below late_j = elim (behind j below late_j) [
  | inl h ↦ inr (omega arith, h)
  | inr h ↦ absurd (omega (arith, h.0, turn_below way (length arcs) j below, past))
]

pub behind_first : (arcs : List Arc) (s : Search) (way : Bool) → IsBehind arcs way 0 0 s
behind_first arcs s way j below late_j = inr (omega arith, omega arith)

-- where no arc was late in its turn, none is
pub still_next : (arcs : List Arc) (s : Search) (way : Bool) (i : ℕ) → i < length arcs → is_late s (arc_at arcs i) ≡ false
    → ((j : ℕ) → j < length arcs → turn_of way (length arcs) j < turn_of way (length arcs) i → is_late s (arc_at arcs j) ≡ false)
    → (j : ℕ) → j < length arcs → turn_of way (length arcs) j < turn_of way (length arcs) i + 1 → is_late s (arc_at arcs j) ≡ false
still_next arcs s way i within on_time before j below turn = elim (same_or_not j i) [
  | inl e ↦ ap (λ (l : ℕ). is_late s (arc_at arcs l)) e ∙ on_time
  | inr other ↦ before j below (apart way (length arcs) i j within below other turn)
]
  where
    apart : (b : Bool) (count i j : ℕ) → i < count → j < count → (j ≡ i → ⊥) → turn_of b count j < turn_of b count i + 1 → turn_of b count j < turn_of b count i
    apart true count i j i_less j_less other h = grind arith
    apart false count i j i_less j_less other h = grind arith

-- after as many rounds as there are points no arc is late
pub still_at_end : (arcs : List Arc) (n k : ℕ) (s : Search) → IsShort n s → AreOn n arcs → n ≤ k → IsBehind arcs false k 0 s → IsStill arcs s
still_at_end arcs n k s short all past behind j below = by_case (is_late s (arc_at arcs j)) refl
  where
    by_case : (b : Bool) → is_late s (arc_at arcs j) ≡ b → is_late s (arc_at arcs j) ≡ false
    by_case false h = h
    by_case true h =
        let less = short (arc_at arcs j).head (all j below).head in
        elim (behind j below h) [ inl l ↦ absurd (omega (arith, l, less, past)) | inr l ↦ absurd (omega (arith, l.1, less, past)) ]

pub heights_kept : (arcs : List Arc) (s : Search) → IsStill arcs s → HasHeights arcs
heights_kept arcs s still = record {
  height = λ v. height s v;
  keeps = λ i less. kept (height s (arc_at arcs i).tail) ((arc_at arcs i).weight +ℤ height s (arc_at arcs i).head) (still i less);
}
  where
    kept : (t w : ℤ) → int_lt t w ≡ false → w ≤ℤ t
    kept t w h = grind (arith, ints)
