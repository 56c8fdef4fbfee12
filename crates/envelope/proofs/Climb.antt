-- From the leaves of a tree to its top: each node holds what its leaves give.
use Rattle.std.proofs.Common.{◌≡◌, ℕ, zero, suc, ◌+◌, ◌*◌, ◌^◌, ◌<◌, ◌≤◌, pos, ◌+ℤ◌, ◌*ℤ◌, ◌≤ℤ◌, Bool, true, false, List, length, refl, ap, sym, ◌∙◌, subst, inl, inr, arith}
use Rattle.std.proofs.Math.Nat.{le-mul_of_pos_right, pow-suc}
use Rattle.std.proofs.lemmas.Int.{ints}
use Rattle.std.proofs.lemmas.Bool.{cases_lt}
use Rattle.std.proofs.lemmas.List.{get_or_past}
use Rattle.envelope.specs.declared.bars.Bar.{Bar}
use Rattle.envelope.specs.declared.node.Node.{Node}
use Rattle.envelope.specs.code.Bars.{Bars, bar_in, bar_at, is_on, AreBars}
use Rattle.envelope.specs.code.Nodes.{leaf_node}
use Rattle.envelope.specs.code.Trees.{node_at, IsTree}
use Rattle.envelope.proofs.Parts.{weight, row_sum, reach_from, HoldsPart}
use Rattle.envelope.proofs.Joins.{joined_holds}

-- no energy is negative
pub energy_from : (bs : List Bar) → AreBars bs → (k : ℕ) → pos 0 ≤ℤ (bar_in bs k).energy
energy_from bs bars k = elim (cases_lt k (length bs)) [
  | inl within ↦ (bars.small k within).energy_from
  | inr past ↦ let none : bar_in bs k ≡ record { est = pos 0; energy = pos 0 } = get_or_past bs k (record { est = pos 0; energy = pos 0 }) past in
      omega (arith, ints, ap (λ (a : Bar). a.energy) none)
]

-- one place

only : (k j : ℕ) → k ≤ j → j < suc k → j ≡ k
only k j from to = omega (arith, from, to)

sum_here : (t : Bars) (k : ℕ) (on : Bool) → is_on t k ≡ on → row_sum t k (suc k) ≡ weight on (bar_at t k).energy
sum_here t k on is = omega (arith, ints, ap (λ d. weight d (bar_at t k).energy) is)

off_holds : (t : Bars) (k : ℕ) → is_on t k ≡ false → HoldsPart t k (suc k) (leaf_node t.capacity (bar_at t k) false)
off_holds t k is = record {
  sum = sym (sum_here t k false is);
  reached = tt;
  greatest = λ j from to on. let same : false ≡ true = sym is ∙ (ap (is_on t) (sym (only k j from to)) ∙ on) in cc;
}

on_holds : (t : Bars) (k : ℕ) → is_on t k ≡ true → HoldsPart t k (suc k) (leaf_node t.capacity (bar_at t k) true)
on_holds t k is = record {
  sum = sym (sum_here t k true is);
  reached = record { first = k; from = omega arith; to = omega arith; on = is; is = omega (arith, ints, sum_here t k true is) };
  greatest = λ j from to on. subst (λ i. reach_from t i (suc k) ≤ℤ ((t.capacity *ℤ (bar_at t k).est) +ℤ (bar_at t k).energy)) (sym (only k j from to)) (omega (arith, ints, sum_here t k true is));
}

leaf_holds : (t : Bars) (k : ℕ) (on : Bool) → is_on t k ≡ on → HoldsPart t k (suc k) (leaf_node t.capacity (bar_at t k) on)
leaf_holds t k false is = off_holds t k is
leaf_holds t k true is = on_holds t k is

-- all places below a node: the leaves of a node of this height are as many as

abbrev pub leaf_count : ℕ → ℕ
leaf_count zero = 1
leaf_count (suc h) = leaf_count h + leaf_count h

pub count_is : (h : ℕ) → leaf_count h ≡ 2 ^ h
count_is zero = refl
count_is (suc h) = omega (arith, count_is h, pow-suc 2 h)

pub count_some : (h : ℕ) → 1 ≤ leaf_count h
count_some zero = omega arith
count_some (suc h) = omega (arith, count_some h)

-- a node with leaves below it is none of the leaves
inner : (s lo width j : ℕ) → 1 ≤ s → lo + width ≡ j * (s + s) → lo + (s + s) ≤ width → (0 < j) × (j < width)
inner s lo width zero some at within = absurd (omega (arith, some, at, within))
inner s lo width (suc j) some at within =
    let grown : suc j ≤ suc j * s = le-mul_of_pos_right (suc j) some in
    (omega arith, omega (arith, grown, at, within))

holds_below : (t : Bars) (width : ℕ) (ns : List Node) → IsTree t width ns → (h j lo hi : ℕ) → lo + width ≡ j * leaf_count h → hi ≡ lo + leaf_count h → hi ≤ width → HoldsPart t lo hi (node_at ns j)
holds_below t width ns tree zero j lo hi at end within =
    let place : j ≡ width + lo = omega (arith, at) in
    let next : hi ≡ suc lo = omega (arith, end) in
    subst (λ i. HoldsPart t lo hi (node_at ns i)) (sym place) (subst (λ n. HoldsPart t lo hi n) (sym (tree.leaves lo (omega (arith, end, within))))
    (subst (λ i. HoldsPart t lo i (leaf_node t.capacity (bar_at t lo) (is_on t lo))) (sym next) (leaf_holds t lo (is_on t lo) refl)))
holds_below t width ns tree (suc h) j lo hi at end within =
    let s = leaf_count h in
    let some = count_some h in
    let mid = lo + s in
    let inside = inner s lo width j some at (omega (arith, end, within)) in
    let left = holds_below t width ns tree h (2 * j) lo mid (omega (arith, at)) refl (omega (arith, end, within)) in
    let right = holds_below t width ns tree h (2 * j + 1) mid hi (omega (arith, at)) (omega (arith, end)) within in
    subst (λ n. HoldsPart t lo hi n) (sym (tree.joins j inside.0 inside.1))
    (joined_holds t lo mid hi (node_at ns (2 * j)) (node_at ns (2 * j + 1)) (omega arith) (omega (arith, end)) left right)

-- the top holds all of them
pub top_holds : (t : Bars) (width : ℕ) (ns : List Node) → IsTree t width ns → HoldsPart t 0 width (node_at ns 1)
top_holds t width ns tree =
    let h = tree.power.0 in
    let is : width ≡ leaf_count h = tree.power.1 ∙ sym (count_is h) in
    holds_below t width ns tree h 1 0 width (omega (arith, is)) (omega (arith, is)) (omega arith)
