-- What stays of a search with one more node.
use Rattle.std.specs.Prelude.{◌≡◌, ◌⊎◌, ℕ, ◌+◌, ◌^◌, ◌<◌, ◌≤◌, ℤ, pos, neg_ℤ, ◌+ℤ◌, ◌≤ℤ◌, ◌<ℤ◌, Bool, true, false, List, [], ◌∷◌, ◌++◌, length, nat_eq, int_lt}
use Rattle.std.proofs.Common.{inl, inr, refl, sym, ap, subst, ◌∙◌, arith}
use Rattle.std.proofs.lemmas.Int.{ints}
use Rattle.std.proofs.lemmas.Bool.Decides.{nat_tests}
use Rattle.std.proofs.lemmas.List.{get_or_append_left, get_or_push, length_push, get_or-set_same, get_or-set_other, length-set}
use Rattle.refute_basic.specs.declared.edge.Arc.{Arc}
use Rattle.cycles.specs.declared.node.Node.{Node}
use Rattle.cycles.specs.code.Walks.{arc_at}
use Rattle.cycles.specs.code.Search.{Search, node_at, no_node, last_of, height, stage, is_late, IsLink, bound, IsSearch, IsShort, IsOn}
use Rattle.cycles.specs.code.Pushes.{pushed, node_by}
use Rattle.base_laws.specs.laws.Numbers.{below_or_last}

pub same_or_not : (i j : ℕ) → (i ≡ j) ⊎ (i ≡ j → ⊥)
same_or_not i j = by_case (nat_eq i j) refl
  where
    by_case : (b : Bool) → nat_eq i j ≡ b → (i ≡ j) ⊎ (i ≡ j → ⊥)
    by_case true is = inl (grind (arith, nat_tests))
    by_case false is = inr (λ e. grind (arith, nat_tests))

-- what stays and what is new
stays : (nodes : List Node) (x : Node) (k : ℕ) → k < length nodes → node_at (nodes ++ x ∷ []) k ≡ node_at nodes k
stays nodes x k within = get_or_append_left nodes (x ∷ []) no_node k within

new_one : (nodes : List Node) (x : Node) (k : ℕ) → k ≡ length nodes → node_at (nodes ++ x ∷ []) k ≡ x
new_one nodes x k e = get_or_push nodes x no_node k (sym e)

same_last : (s : Search) (x : Node) (v u : ℕ) → (u ≡ v → ⊥) → last_of (pushed s x v) u ≡ last_of s u
same_last s x v u other = get_or-set_other s.last v u (length s.nodes) 0 other

new_last : (s : Search) (x : Node) (v : ℕ) → v < length s.last → last_of (pushed s x v) v ≡ length s.nodes
new_last s x v within = get_or-set_same s.last v (length s.nodes) 0 within

pub last_node_same : (arcs : List Arc) (n : ℕ) (s : Search) (x : Node) (v u : ℕ) → IsSearch arcs n s → u < n → (u ≡ v → ⊥) → node_at (pushed s x v).nodes (last_of (pushed s x v) u) ≡ node_at s.nodes (last_of s u)
last_node_same arcs n s x v u is less other =
    ap (λ (k : ℕ). node_at (s.nodes ++ x ∷ []) k) (same_last s x v u other) ∙ stays s.nodes x (last_of s u) (is.last u less)

pub last_node_new : (arcs : List Arc) (n : ℕ) (s : Search) (x : Node) (v : ℕ) → IsSearch arcs n s → v < n → node_at (pushed s x v).nodes (last_of (pushed s x v) v) ≡ x
last_node_new arcs n s x v is less =
    ap (λ (k : ℕ). node_at (s.nodes ++ x ∷ []) k) (new_last s x v (omega (arith, is.count, less))) ∙ new_one s.nodes x (length s.nodes) refl

-- heights don't fall
pub rises : (arcs : List Arc) (n : ℕ) (s : Search) (x : Node) (v u : ℕ) → IsSearch arcs n s → v < n → u < n → height s v <ℤ x.value → height s u ≤ℤ height (pushed s x v) u
rises arcs n s x v u is v_less u_less higher = at (same_or_not u v)
  where
    grown : (a b c : ℤ) → a <ℤ b → c ≡ b → a ≤ℤ c
    grown a b c h e = omega (arith, ints, h, e)

    equal : (a b : ℤ) → b ≡ a → a ≤ℤ b
    equal a b e = omega (arith, ints, e)

    at : (u ≡ v) ⊎ (u ≡ v → ⊥) → height s u ≤ℤ height (pushed s x v) u
    at (inl e) = subst (λ (w : ℕ). height s w ≤ℤ height (pushed s x v) w) (sym e) (grown (height s v) x.value (height (pushed s x v) v) higher (ap (λ (y : Node). y.value) (last_node_new arcs n s x v is v_less)))
    at (inr other) = equal (height s u) (height (pushed s x v) u) (ap (λ (y : Node). y.value) (last_node_same arcs n s x v u is u_less other))

link_stays : (arcs : List Arc) (nodes : List Node) (x y : Node) (k : ℕ) → k ≤ length nodes → IsLink arcs nodes y k → IsLink arcs (nodes ++ x ∷ []) y k
link_stays arcs nodes x y k within is =
    let same = stays nodes x y.next (omega (arith, within, is.next)) in
    record {
      via = is.via;
      tail = is.tail;
      next = is.next;
      head = ap (λ (z : Node). z.point) same ∙ is.head;
      value = is.value ∙ ap (λ (z : Node). (arc_at arcs y.via).weight +ℤ z.value) (sym same);
      len = is.len ∙ ap (λ (z : Node). z.len + 1) (sym same);
    }

pub search_pushed : (arcs : List Arc) (n : ℕ) (s : Search) (i : ℕ) → IsSearch arcs n s → IsShort n s → i < length arcs → IsOn n (arc_at arcs i)
    → is_late s (arc_at arcs i) ≡ true
    → IsSearch arcs n (pushed s (node_by s (arc_at arcs i) i) (arc_at arcs i).tail)
search_pushed arcs n s i is short within on late = record {
  count = length-set s.last a.tail (length s.nodes) ∙ is.count;
  size = omega (arith, is.size, length_push s.nodes x);
  roots = λ k less. ap (λ (y : Node). y.point) (stays s.nodes x k (omega (arith, less, is.size))) ∙ is.roots k less;
  links = λ k from less. elim (below_or_last k (length s.nodes) (omega (arith, less, length_push s.nodes x))) [
    | inl h ↦ subst (λ (y : Node). IsLink arcs (s.nodes ++ x ∷ []) y k) (sym (stays s.nodes x k h)) (link_stays arcs s.nodes x (node_at s.nodes k) k (omega (arith, h)) (is.links k from h))
    | inr e ↦ subst (λ (y : Node). IsLink arcs (s.nodes ++ x ∷ []) y k) (sym (new_one s.nodes x k e)) (link_stays arcs s.nodes x x k (omega (arith, e)) (new_link k e))
  ];
  last = λ v less. elim (same_or_not v a.tail) [
    | inl e ↦ subst (λ (j : ℕ). j < length (s.nodes ++ x ∷ [])) (sym (ap (λ (w : ℕ). last_of p w) e ∙ new_last s x a.tail (omega (arith, is.count, on.tail)))) (omega (arith, length_push s.nodes x))
    | inr other ↦ subst (λ (j : ℕ). j < length (s.nodes ++ x ∷ [])) (sym (same_last s x a.tail v other)) (omega (arith, length_push s.nodes x, is.last v less))
  ];
  here = λ v less. elim (same_or_not v a.tail) [
    | inl e ↦ ap (λ (w : ℕ). (node_at p.nodes (last_of p w)).point) e ∙ ap (λ (y : Node). y.point) (last_node_new arcs n s x a.tail is on.tail) ∙ sym e
    | inr other ↦ ap (λ (y : Node). y.point) (last_node_same arcs n s x a.tail v is less other) ∙ is.here v less
  ];
  top = λ k less. elim (below_or_last k (length s.nodes) (omega (arith, less, length_push s.nodes x))) [
    | inl h ↦ subst (λ (y : Node). y.value ≤ℤ height p y.point) (sym (stays s.nodes x k h)) (up _ _ _ (is.top k h) (rises arcs n s x a.tail (node_at s.nodes k).point is on.tail (is.points k h) more_high))
    | inr e ↦ subst (λ (y : Node). y.value ≤ℤ height p y.point) (sym (new_one s.nodes x k e)) (equal x.value (height p a.tail) (ap (λ (y : Node). y.value) (last_node_new arcs n s x a.tail is on.tail)))
  ];
  rising = λ j k less within. elim (below_or_last k (length s.nodes) (omega (arith, within, length_push s.nodes x))) [
    | inl h ↦ rw (stays s.nodes x k h, stays s.nodes x j (omega (arith, less, h))) (is.rising j k less h)
    | inr e ↦ rw (new_one s.nodes x k e, stays s.nodes x j (omega (arith, less, e))) (λ same. over (node_at s.nodes j).value (height s a.tail) x.value (subst (λ (w : ℕ). (node_at s.nodes j).value ≤ℤ height s w) same (is.top j (omega (arith, less, e)))) more_high)
  ];
  few = λ k less. elim (below_or_last k (length s.nodes) (omega (arith, less, length_push s.nodes x))) [
    | inl h ↦ subst (λ (y : Node). y.len ≤ n) (sym (stays s.nodes x k h)) (is.few k h)
    | inr e ↦ subst (λ (y : Node). y.len ≤ n) (sym (new_one s.nodes x k e)) (omega (arith, short a.head on.head))
  ];
  starts = λ k less. ap (λ (y : Node). y.len) (stays s.nodes x k (omega (arith, less, is.size))) ∙ is.starts k less;
  points = λ k less. elim (below_or_last k (length s.nodes) (omega (arith, less, length_push s.nodes x))) [
    | inl h ↦ subst (λ (y : Node). y.point < n) (sym (stays s.nodes x k h)) (is.points k h)
    | inr e ↦ subst (λ (y : Node). y.point < n) (sym (new_one s.nodes x k e)) on.tail
  ];
  lower = λ k less. elim (below_or_last k (length s.nodes) (omega (arith, less, length_push s.nodes x))) [
    | inl h ↦ subst (λ (y : Node). neg_ℤ (bound y.len) ≤ℤ y.value) (sym (stays s.nodes x k h)) (is.lower k h)
    | inr e ↦ subst (λ (y : Node). neg_ℤ (bound y.len) ≤ℤ y.value) (sym (new_one s.nodes x k e)) (low (stage s a.head) a.weight (height s a.head) on.lower (is.lower (last_of s a.head) (is.last a.head on.head)))
  ];
  upper = λ k less. elim (below_or_last k (length s.nodes) (omega (arith, less, length_push s.nodes x))) [
    | inl h ↦ subst (λ (y : Node). y.value ≤ℤ bound y.len) (sym (stays s.nodes x k h)) (is.upper k h)
    | inr e ↦ subst (λ (y : Node). y.value ≤ℤ bound y.len) (sym (new_one s.nodes x k e)) (high (stage s a.head) a.weight (height s a.head) on.upper (is.upper (last_of s a.head) (is.last a.head on.head)))
  ];
}
  where
    a : Arc
    a = arc_at arcs i

    x : Node
    x = node_by s (arc_at arcs i) i

    p : Search
    p = pushed s (node_by s (arc_at arcs i) i) (arc_at arcs i).tail

    new_link : (k : ℕ) → k ≡ length s.nodes → IsLink arcs s.nodes (node_by s (arc_at arcs i) i) k
    new_link k e = record { via = within; tail = refl; next = omega (arith, e, is.last (arc_at arcs i).head on.head); head = is.here (arc_at arcs i).head on.head; value = refl; len = refl }

    lt : (a b : ℤ) → int_lt a b ≡ true → a <ℤ b
    lt a b h = grind (arith, ints)

    more_high : height s (arc_at arcs i).tail <ℤ (node_by s (arc_at arcs i) i).value
    more_high = lt _ _ late

    up : (a b c : ℤ) → a ≤ℤ b → b ≤ℤ c → a ≤ℤ c
    up a b c h k = omega (arith, ints, h, k)

    equal : (a b : ℤ) → b ≡ a → a ≤ℤ b
    equal a b e = omega (arith, ints, e)

    low : (l : ℕ) (w h : ℤ) → neg_ℤ (pos (2 ^ 63)) ≤ℤ w → neg_ℤ (bound l) ≤ℤ h → neg_ℤ (bound (l + 1)) ≤ℤ (w +ℤ h)
    low l w h i j = omega (arith, ints, i, j)

    high : (l : ℕ) (w h : ℤ) → w ≤ℤ pos (2 ^ 63) → h ≤ℤ bound l → (w +ℤ h) ≤ℤ bound (l + 1)
    high l w h i j = omega (arith, ints, i, j)

    over : (a b c : ℤ) → a ≤ℤ b → b <ℤ c → a <ℤ c
    over a b c h k = omega (arith, ints, h, k)
