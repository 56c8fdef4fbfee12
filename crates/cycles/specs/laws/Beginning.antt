-- One point after another, and then the search may begin.
use Rattle.std.specs.Prelude.{◌≡◌, ◌⊎◌, ℕ, ◌+◌, ◌^◌, ◌<◌, ℤ, pos, neg_ℤ, ◌≤ℤ◌, List, [], ◌∷◌, ◌++◌, get_or}
use Rattle.std.proofs.Common.{inl, inr, sym, ap, subst, ◌∙◌, arith}
use Rattle.std.proofs.lemmas.Int.{ints}
use Rattle.std.proofs.lemmas.List.{get_or_append_left, get_or_push, length_push}
use Rattle.refute_basic.specs.declared.edge.Arc.{Arc}
use Rattle.cycles.specs.declared.node.Node.{Node}
use Rattle.cycles.specs.code.Search.{node_at, no_node, bound, IsSearch, IsShort}
use Rattle.cycles.specs.code.Begun.{IsBegun}
use Rattle.base_laws.specs.laws.Numbers.{below_or_last}

pub begun_more : (nodes : List Node) (last : List ℕ) (n : ℕ) (x : Node) → x.point ≡ n → x.len ≡ 0 → neg_ℤ (pos (2 ^ 63)) ≤ℤ x.value → x.value ≤ℤ pos (2 ^ 63)
    → IsBegun nodes last n → IsBegun (nodes ++ x ∷ []) (last ++ n ∷ []) (n + 1)
begun_more nodes last n x point len lower upper is = record {
  count = omega (arith, length_push nodes x, is.count);
  lasts = omega (arith, length_push last n, is.lasts);
  point = λ j less. at (λ (y : Node) (i : ℕ). y.point ≡ i) is.point point j (below_or_last j n less);
  len = λ j less. at (λ (y : Node) (i : ℕ). y.len ≡ 0) is.len len j (below_or_last j n less);
  lower = λ j less. at (λ (y : Node) (i : ℕ). neg_ℤ (pos (2 ^ 63)) ≤ℤ y.value) is.lower lower j (below_or_last j n less);
  upper = λ j less. at (λ (y : Node) (i : ℕ). y.value ≤ℤ pos (2 ^ 63)) is.upper upper j (below_or_last j n less);
  own = λ j less. elim (below_or_last j n less) [
    | inl h ↦ get_or_append_left last (n ∷ []) 0 j (omega (arith, h, is.lasts)) ∙ is.own j h
    | inr e ↦ get_or_push last n 0 j (is.lasts ∙ sym e) ∙ sym e
  ];
}
  where
    at : (P : Node → ℕ → Type 0) → ((j : ℕ) → j < n → P (node_at nodes j) j) → P x n → (j : ℕ) → (j < n) ⊎ (j ≡ n) → P (node_at (nodes ++ x ∷ []) j) j
    at P before here j (inl h) = subst (λ (y : Node). P y j) (sym (get_or_append_left nodes (x ∷ []) no_node j (omega (arith, h, is.count)))) (before j h)
    at P before here j (inr e) = subst (λ (y : Node). P y j) (sym (get_or_push nodes x no_node j (is.count ∙ sym e))) (subst (P x) (sym e) here)

pub begun_search : (nodes : List Node) (last : List ℕ) (n : ℕ) → IsBegun nodes last n → (arcs : List Arc) → IsSearch arcs n (record { nodes = nodes; last = last })
begun_search nodes last n is arcs = record {
  count = is.lasts;
  size = omega (arith, is.count);
  roots = is.point;
  links = λ k from less. absurd (omega (arith, from, less, is.count));
  last = λ v less. omega (arith, is.own v less, is.count, less);
  here = λ v less. ap (λ (k : ℕ). (node_at nodes k).point) (is.own v less) ∙ is.point v less;
  top = λ k less. top k (omega (arith, less, is.count));
  starts = is.len;
  points = λ k less. point_below k (omega (arith, less, is.count));
  rising = λ j k less within same. absurd (apart j k less (omega (arith, within, is.count)) same);
  few = λ k less. omega (arith, is.len k (omega (arith, less, is.count)));
  lower = λ k less. low (node_at nodes k).len (node_at nodes k).value (is.len k (omega (arith, less, is.count))) (is.lower k (omega (arith, less, is.count)));
  upper = λ k less. high (node_at nodes k).len (node_at nodes k).value (is.len k (omega (arith, less, is.count))) (is.upper k (omega (arith, less, is.count)));
}
  where
    low : (l : ℕ) (h : ℤ) → l ≡ 0 → neg_ℤ (pos (2 ^ 63)) ≤ℤ h → neg_ℤ (bound l) ≤ℤ h
    low l h e i = omega (arith, ints, e, i)

    high : (l : ℕ) (h : ℤ) → l ≡ 0 → h ≤ℤ pos (2 ^ 63) → h ≤ℤ bound l
    high l h e i = omega (arith, ints, e, i)

    equal : (a b : ℤ) → b ≡ a → a ≤ℤ b
    equal a b e = omega (arith, ints, e)

    top : (k : ℕ) → k < n → (node_at nodes k).value ≤ℤ (node_at nodes (get_or last (node_at nodes k).point 0)).value
    top k less = equal _ _ (ap (λ (j : ℕ). (node_at nodes j).value) (ap (λ (p : ℕ). get_or last p 0) (is.point k less) ∙ is.own k less))

    point_below : (k : ℕ) → k < n → (node_at nodes k).point < n
    point_below k less = omega (arith, less, is.point k less)

    apart : (j k : ℕ) → j < k → k < n → (node_at nodes j).point ≡ (node_at nodes k).point → ⊥
    apart j k less within same = omega (arith, less, same, is.point j (omega (arith, less, within)), is.point k within)

pub begun_short : (nodes : List Node) (last : List ℕ) (n : ℕ) → IsBegun nodes last n → IsShort n (record { nodes = nodes; last = last })
begun_short nodes last n is v less = omega (arith, less, ap (λ (k : ℕ). (node_at nodes k).len) (is.own v less) ∙ is.len v less)
