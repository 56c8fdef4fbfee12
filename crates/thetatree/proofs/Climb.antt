-- From the leaves of a tree to its top: each node holds what its leaves give.
use Rattle.std.proofs.Common.{◌≡◌, ℕ, zero, suc, ◌+◌, ◌*◌, ◌^◌, ◌<◌, ◌≤◌, pos, ◌+ℤ◌, ◌≤ℤ◌, List, length, Option, None, Some, refl, ap, sym, ◌∙◌, subst, inl, inr, arith}
use Rattle.std.proofs.Math.Nat.{le-mul_of_pos_right, pow-suc}
use Rattle.std.proofs.lemmas.Int.{ints}
use Rattle.std.proofs.lemmas.Bool.{cases_lt}
use Rattle.std.proofs.lemmas.List.{get_or_past}
use Rattle.thetatree.specs.declared.leaves.Task.{Task}
use Rattle.thetatree.specs.declared.leaves.Colour.{Colour}
use Rattle.thetatree.specs.declared.leaves.Colour.TheVariants.{Out, White, Gray}
use Rattle.thetatree.specs.declared.node.Node.{Node}
use Rattle.thetatree.specs.code.Leaves.{Leaves, task_in, task_at, colour_at, AreTasks}
use Rattle.thetatree.specs.code.Nodes.{leaf_node}
use Rattle.thetatree.specs.code.Trees.{node_at, IsTree}
use Rattle.thetatree.proofs.Parts.{weight, white_sum, extra, Begins, Within, end_from, HoldsPart}
use Rattle.thetatree.proofs.Joins.{joined_holds}

-- no size is negative
pub size_from : (ts : List Task) → AreTasks ts → (k : ℕ) → pos 0 ≤ℤ (task_in ts k).p
size_from ts tasks k = elim (cases_lt k (length ts)) [
  | inl within ↦ (tasks.small k within).p_from
  | inr past ↦ let none : task_in ts k ≡ record { est = pos 0; p = pos 0 } = get_or_past ts k (record { est = pos 0; p = pos 0 }) past in
      omega (arith, ints, ap (λ (a : Task). a.p) none)
]

-- one place

only : (k j : ℕ) → k ≤ j → j < suc k → j ≡ k
only k j from to = omega (arith, from, to)

sum_here : (t : Leaves) (k : ℕ) (c : Colour) → colour_at t k ≡ c → white_sum t k (suc k) ≡ weight c (task_at t k).p
sum_here t k c is = omega (arith, ints, ap (λ d. weight d (task_at t k).p) is)

out_holds : (t : Leaves) (k : ℕ) → colour_at t k ≡ Out → HoldsPart t k (suc k) (leaf_node (task_at t k) Out k)
out_holds t k is = record {
  sum = sym (sum_here t k Out is);
  ect_reached = tt;
  ect_greatest = λ j from to begins. let same : Out ≡ White = sym is ∙ (ap (colour_at t) (sym (only k j from to)) ∙ begins) in cc;
  gray_sum_within = tt;
  gray_sum_is = omega (arith, ints, sum_here t k Out is);
  gray_sum_greatest = λ gray. sums gray;
  gray_ect_reached = tt;
  gray_ect_greatest = λ gray. ects gray;
}
  where
    sums : (gray : Option ℕ) → Within t k (suc k) gray → (white_sum t k (suc k) +ℤ extra t gray) ≤ℤ pos 0
    sums None within = omega (arith, ints, sum_here t k Out is)
    sums (Some g) within = absurd (let same : Out ≡ Gray = sym is ∙ (ap (colour_at t) (sym (only k g within.0 within.1)) ∙ within.2) in cc)

    ects : (gray : Option ℕ) (j : ℕ) → k ≤ j → j < suc k → Begins t j (suc k) gray → ⊥
    ects None j from to begins = let same : Out ≡ White = sym is ∙ (ap (colour_at t) (sym (only k j from to)) ∙ begins) in cc
    ects (Some g) j from to begins = let same : Out ≡ Gray = sym is ∙ (ap (colour_at t) (sym (only k g (omega (arith, from, begins.0)) begins.1)) ∙ begins.2) in cc

white_holds : (t : Leaves) (k : ℕ) → colour_at t k ≡ White → HoldsPart t k (suc k) (leaf_node (task_at t k) White k)
white_holds t k is = record {
  sum = sym (sum_here t k White is);
  ect_reached = record { first = k; from = omega arith; to = omega arith; begins = is; is = omega (arith, ints, sum_here t k White is) };
  ect_greatest = λ j from to begins. subst (λ i. end_from t i (suc k) None ≤ℤ ((task_at t k).est +ℤ (task_at t k).p)) (sym (only k j from to)) (omega (arith, ints, sum_here t k White is));
  gray_sum_within = tt;
  gray_sum_is = omega (arith, ints, sum_here t k White is);
  gray_sum_greatest = λ gray. sums gray;
  gray_ect_reached = record { first = k; from = omega arith; to = omega arith; begins = is; is = omega (arith, ints, sum_here t k White is) };
  gray_ect_greatest = λ gray. ects gray;
}
  where
    sums : (gray : Option ℕ) → Within t k (suc k) gray → (white_sum t k (suc k) +ℤ extra t gray) ≤ℤ (task_at t k).p
    sums None within = omega (arith, ints, sum_here t k White is)
    sums (Some g) within = absurd (let same : White ≡ Gray = sym is ∙ (ap (colour_at t) (sym (only k g within.0 within.1)) ∙ within.2) in cc)

    ects : (gray : Option ℕ) (j : ℕ) → k ≤ j → j < suc k → Begins t j (suc k) gray → end_from t j (suc k) gray ≤ℤ ((task_at t k).est +ℤ (task_at t k).p)
    ects None j from to begins = subst (λ i. end_from t i (suc k) None ≤ℤ ((task_at t k).est +ℤ (task_at t k).p)) (sym (only k j from to)) (omega (arith, ints, sum_here t k White is))
    ects (Some g) j from to begins = absurd (let same : White ≡ Gray = sym is ∙ (ap (colour_at t) (sym (only k g (omega (arith, from, begins.0)) begins.1)) ∙ begins.2) in cc)

gray_holds : (t : Leaves) (k : ℕ) → pos 0 ≤ℤ (task_at t k).p → colour_at t k ≡ Gray → HoldsPart t k (suc k) (leaf_node (task_at t k) Gray k)
gray_holds t k size is = record {
  sum = sym (sum_here t k Gray is);
  ect_reached = tt;
  ect_greatest = λ j from to begins. let same : Gray ≡ White = sym is ∙ (ap (colour_at t) (sym (only k j from to)) ∙ begins) in cc;
  gray_sum_within = (omega arith, omega arith, is);
  gray_sum_is = omega (arith, ints, sum_here t k Gray is);
  gray_sum_greatest = λ gray. sums gray;
  gray_ect_reached = record { first = k; from = omega arith; to = omega arith; begins = (omega arith, omega arith, is, inr refl); is = omega (arith, ints, sum_here t k Gray is) };
  gray_ect_greatest = λ gray. ects gray;
}
  where
    sums : (gray : Option ℕ) → Within t k (suc k) gray → (white_sum t k (suc k) +ℤ extra t gray) ≤ℤ (task_at t k).p
    sums None within = omega (arith, ints, sum_here t k Gray is, size)
    sums (Some g) within = subst (λ i. (white_sum t k (suc k) +ℤ (task_at t i).p) ≤ℤ (task_at t k).p) (sym (only k g within.0 within.1)) (omega (arith, ints, sum_here t k Gray is))

    ects : (gray : Option ℕ) (j : ℕ) → k ≤ j → j < suc k → Begins t j (suc k) gray → end_from t j (suc k) gray ≤ℤ ((task_at t k).est +ℤ (task_at t k).p)
    ects None j from to begins = absurd (let same : Gray ≡ White = sym is ∙ (ap (colour_at t) (sym (only k j from to)) ∙ begins) in cc)
    ects (Some g) j from to begins = subst (λ i. end_from t i (suc k) (Some g) ≤ℤ ((task_at t k).est +ℤ (task_at t k).p)) (sym (only k j from to))
        (subst (λ i. end_from t k (suc k) (Some i) ≤ℤ ((task_at t k).est +ℤ (task_at t k).p)) (sym (only k g (omega (arith, from, begins.0)) begins.1)) (omega (arith, ints, sum_here t k Gray is)))

leaf_holds : (t : Leaves) (k : ℕ) (c : Colour) → pos 0 ≤ℤ (task_at t k).p → colour_at t k ≡ c → HoldsPart t k (suc k) (leaf_node (task_at t k) c k)
leaf_holds t k Out size is = out_holds t k is
leaf_holds t k White size is = white_holds t k is
leaf_holds t k Gray size is = gray_holds t k size is

-- all places below a node: the leaves of a node of this height are as many as

abbrev pub leaf_count : ℕ → ℕ
leaf_count zero = 1
leaf_count (suc h) = leaf_count h + leaf_count h

pub count_is : (h : ℕ) → leaf_count h ≡ 2 ^ h
count_is zero = refl
count_is (suc h) = omega (arith, count_is h, pow-suc 2 h)

pub count_some : (h : ℕ) → 1 ≤ leaf_count h
count_some zero = omega arith
count_some (suc h) = omega (arith, count_some h)

-- a node with leaves below it is no leaf
inner : (j s lo width : ℕ) → 1 ≤ s → lo + width ≡ j * (s + s) → lo + (s + s) ≤ width → j < width
inner j s lo width some at within =
    let grown : j ≤ j * s = le-mul_of_pos_right j some in
    omega (arith, grown, at, within)

some_node : (j s lo width : ℕ) → 1 ≤ width → lo + width ≡ j * s → 0 < j
some_node zero s lo width some at = omega (arith, some, at)
some_node (suc j) s lo width some at = omega arith

holds_below : (t : Leaves) (width : ℕ) (ns : List Node) → IsTree t width ns → (h j lo hi : ℕ) → lo + width ≡ j * leaf_count h → hi ≡ lo + leaf_count h → hi ≤ width → HoldsPart t lo hi (node_at ns j)
holds_below t width ns tree zero j lo hi at end within =
    let place : j ≡ width + lo = omega (arith, at) in
    let next : hi ≡ suc lo = omega (arith, end) in
    subst (λ i. HoldsPart t lo hi (node_at ns i)) (sym place) (subst (λ n. HoldsPart t lo hi n) (sym (tree.leaves lo (omega (arith, end, within))))
    (subst (λ i. HoldsPart t lo i (leaf_node (task_at t lo) (colour_at t lo) lo)) (sym next) (leaf_holds t lo (colour_at t lo) (size_from t.tasks tree.tasks lo) refl)))
holds_below t width ns tree (suc h) j lo hi at end within =
    let s = leaf_count h in
    let some = count_some h in
    let mid = lo + s in
    let low : j < width = inner j s lo width some at (omega (arith, end, within)) in
    let first : 0 < j = some_node j (s + s) lo width (omega (arith, low)) at in
    let left = holds_below t width ns tree h (2 * j) lo mid (omega (arith, at)) refl (omega (arith, end, within)) in
    let right = holds_below t width ns tree h (2 * j + 1) mid hi (omega (arith, at)) (omega (arith, end)) within in
    subst (λ n. HoldsPart t lo hi n) (sym (tree.joins j first low))
    (joined_holds t lo mid hi (node_at ns (2 * j)) (node_at ns (2 * j + 1)) (omega arith) (omega (arith, end)) left right)

-- the top holds all of them
pub top_holds : (t : Leaves) (width : ℕ) (ns : List Node) → IsTree t width ns → HoldsPart t 0 width (node_at ns 1)
top_holds t width ns tree =
    let h = tree.power.0 in
    let is : width ≡ leaf_count h = tree.power.1 ∙ sym (count_is h) in
    holds_below t width ns tree h 1 0 width (omega (arith, is)) (omega (arith, is)) (omega arith)
