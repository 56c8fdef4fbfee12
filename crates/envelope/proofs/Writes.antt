-- Writes of one node of a tree.
use Rattle.std.proofs.Common.{◌≡◌, ◌≢◌, ℕ, ◌+◌, ◌*◌, ◌/◌, ◌<◌, ◌≤◌, Bool, false, List, ◌++◌, length, get_or, take, refl, ap, sym, ◌∙◌, subst, inl, inr, arith, length-set}
use Rattle.std.specs.Prelude.{slice_set, slice_index_or, pos}
use Rattle.std.proofs.lemmas.Bool.{cases_eq}
use Rattle.std.proofs.lemmas.List.{get_or-set_same, get_or-set_other, get_or_read_under, get_or_default}
use Rattle.std.proofs.lemmas.Nat.{le-div}
use Rattle.std.proofs.Math.Seq.{take-append_seam}
use Rattle.envelope.specs.declared.bars.Bar.{Bar}
use Rattle.envelope.specs.declared.node.Node.{Node}
use Rattle.envelope.specs.code.Bars.{Bars, bar_at, is_on}
use Rattle.envelope.specs.code.Nodes.{no_node, leaf_node, joined, IsSmall}
use Rattle.envelope.specs.code.Trees.{node_at, whole_room, IsJoin, AreSmall, IsTree}
use Rattle.envelope.proofs.Rooms.{rooms, joined_small, leaf_small}

same_node : (ns : List Node) (i j : ℕ) (x : Node) → j ≡ i → i < length ns → node_at (slice_set ns i x) j ≡ x
same_node ns i j x same within = ap (node_at (slice_set ns i x)) same ∙ get_or-set_same ns i x no_node within

pub other_node : (ns : List Node) (i j : ℕ) (x : Node) → j ≢ i → node_at (slice_set ns i x) j ≡ node_at ns j
other_node ns i j x other = get_or-set_other ns i j x no_node other

-- a write at i leaves the join at j as it was, unless i is one of its three nodes
join_kept : (ns : List Node) (i j : ℕ) (x : Node) → j ≢ i → 2 * j ≢ i → 2 * j + 1 ≢ i → IsJoin ns j → IsJoin (slice_set ns i x) j
join_kept ns i j x top left right is =
    other_node ns i j x top ∙ is ∙ ap (λ r. joined (node_at ns (2 * j)) r) (sym (other_node ns i (2 * j + 1) x right))
    ∙ ap (λ l. joined l (node_at (slice_set ns i x) (2 * j + 1))) (sym (other_node ns i (2 * j) x left))

-- a node that joins the two below it
join_made : (ns : List Node) (i j : ℕ) (x : Node) → j ≡ i → 0 < i → i < length ns → x ≡ joined (node_at ns (2 * i)) (node_at ns (2 * i + 1)) → IsJoin (slice_set ns i x) j
join_made ns i j x same some within is = subst (IsJoin (slice_set ns i x)) (sym same)
    (same_node ns i i x refl within ∙ is ∙ ap (λ r. joined (node_at ns (2 * i)) r) (sym (other_node ns i (2 * i + 1) x (λ e. omega (arith, e, some))))
    ∙ ap (λ l. joined l (node_at (slice_set ns i x) (2 * i + 1))) (sym (other_node ns i (2 * i) x (λ e. omega (arith, e, some)))))

pub small_write : (ns : List Node) (i : ℕ) (x : Node) → i < length ns → IsSmall (whole_room / i) x → AreSmall ns → AreSmall (slice_set ns i x)
small_write ns i x within small before j some in_list = elim (cases_eq j i) [
  | inl same ↦ subst (λ n. IsSmall (whole_room / j) n) (sym (same_node ns i j x same within)) (subst (λ m. IsSmall (whole_room / m) x) (sym same) small)
  | inr other ↦ subst (λ n. IsSmall (whole_room / j) n) (sym (other_node ns i j x other)) (before j some (omega (arith, in_list, length-set ns i x)))
]

-- the step of the way up
pub join_small : (ns : List Node) (i : ℕ) (x : Node) → 0 < i → 2 * i + 1 < length ns → x ≡ joined (node_at ns (2 * i)) (node_at ns (2 * i + 1)) → AreSmall ns → IsSmall (whole_room / i) x
join_small ns i x some within is small = subst (IsSmall (whole_room / i)) (sym is)
    (joined_small (whole_room / (2 * i)) (whole_room / (2 * i + 1)) (whole_room / i) (node_at ns (2 * i)) (node_at ns (2 * i + 1))
    (rooms whole_room i some) (small (2 * i) (omega (arith, some)) (omega (arith, within))) (small (2 * i + 1) (omega arith) within))

pub joins_up : (ns : List Node) (at : ℕ) (x : Node) → 0 < at → at < length ns → x ≡ joined (node_at ns (2 * at)) (node_at ns (2 * at + 1))
    → ((j : ℕ) → 0 < j → j < length ns / 2 → j ≢ at → IsJoin ns j)
    → (j : ℕ) → 0 < j → j < length (slice_set ns at x) / 2 → j ≢ at / 2 → IsJoin (slice_set ns at x) j
joins_up ns at x some within is before j low high other = elim (cases_eq j at) [
  | inl same ↦ join_made ns at j x same some within is
  | inr apart ↦ join_kept ns at j x apart (λ e. other (omega (arith, e))) (λ e. other (omega (arith, e)))
      (before j low (let same : length (slice_set ns at x) ≡ length ns = length-set ns at x in subst (λ n. j < n / 2) same high) apart)
]

-- each node joins the two below it, but for the one above a place
abbrev pub JoinBut : ℕ → List Node → Type 0
JoinBut at ns = (j : ℕ) → 0 < j → j < length ns / 2 → j ≢ at / 2 → IsJoin ns j

-- a written leaf
pub joins_leaf : (ns : List Node) (width at : ℕ) (x : Node) → length ns ≡ 2 * width → width ≤ at
    → ((j : ℕ) → 0 < j → j < width → IsJoin ns j) → JoinBut at (slice_set ns at x)
joins_leaf ns width at x size low before j some high other =
    let same : length (slice_set ns at x) ≡ length ns = length-set ns at x in
    let high' : j < width = omega (arith, high, same, size) in
    join_kept ns at j x (λ e. omega (arith, e, high', low)) (λ e. other (omega (arith, e))) (λ e. other (omega (arith, e))) (before j some high')

-- what a slice of all of a list leaves
pub whole : (n : ℕ) (xs ys : List Node) → n ≡ length xs → take n (xs ++ ys) ≡ xs
whole n xs ys is = ap (λ m. take m (xs ++ ys)) is ∙ take-append_seam xs ys

on_same : (t : Bars) (k j : ℕ) (on : Bool) → j ≡ k → k < length t.on → slice_index_or (slice_set t.on k on) j false ≡ on
on_same t k j on same within = ap (λ i. slice_index_or (slice_set t.on k on) i false) same ∙ get_or-set_same t.on k on false within

on_other : (t : Bars) (k j : ℕ) (on : Bool) → j ≢ k → slice_index_or (slice_set t.on k on) j false ≡ is_on t j
on_other t k j on other = get_or-set_other t.on k j on false other

-- a tree whose leaf at k was painted and whose joins are made anew
pub painted : (t : Bars) (width : ℕ) (ns new : List Node) (k : ℕ) (on : Bool) → IsTree t width ns → k < length t.bars
    → length new ≡ length ns
    → ((j : ℕ) → length ns / 2 ≤ j → node_at new j ≡ node_at (slice_set ns (width + k) (leaf_node t.capacity (bar_at t k) on)) j)
    → ((j : ℕ) → 0 < j → j < length ns / 2 → IsJoin new j) → AreSmall new
    → IsTree (record { bars = t.bars; capacity = t.capacity; on = slice_set t.on k on }) width new
painted t width ns new k on tree within same leaves joins small = record {
  power = tree.power;
  low = tree.low;
  room = tree.room;
  size = same ∙ tree.size;
  same = length-set t.on k on ∙ tree.same;
  capacity = tree.capacity;
  bars = tree.bars;
  leaves = λ j low. leaves (width + j) (omega (arith, tree.size)) ∙ elim (cases_eq j k) [
    | inl at ↦ same_node ns (width + k) (width + j) (leaf_node t.capacity (bar_at t k) on) (omega (arith, at)) (omega (arith, tree.size, tree.room, within))
        ∙ (ap (λ i. leaf_node t.capacity (bar_at t i) on) (sym at) ∙ ap (λ d. leaf_node t.capacity (bar_at t j) d) (sym (on_same t k j on at (omega (arith, tree.same, within)))))
    | inr apart ↦ other_node ns (width + k) (width + j) (leaf_node t.capacity (bar_at t k) on) (λ e. apart (omega (arith, e)))
        ∙ (tree.leaves j low ∙ ap (λ d. leaf_node t.capacity (bar_at t j) d) (sym (on_other t k j on apart)))
  ];
  joins = λ j some high. joins j some (omega (arith, tree.size, high));
  small = small;
}

-- the bar that is read at a place
pub bar_is : (t : Bars) (k : ℕ) (a : Bar) → k < length t.bars → a ≡ get_or t.bars k a → a ≡ bar_at t k
bar_is t k a within read = get_or_read_under t.bars k (length t.bars) a (bar_at t (length t.bars)) read within refl ∙ get_or_default t.bars k (bar_at t (length t.bars)) (record { est = pos 0; energy = pos 0 }) within

-- the node of the leaf that is painted
pub leaf_is : (t : Bars) (k : ℕ) (on : Bool) (a : Bar) (x : Node) → k < length t.bars → a ≡ get_or t.bars k a → x ≡ leaf_node t.capacity a on → x ≡ leaf_node t.capacity (bar_at t k) on
leaf_is t k on a x within read is = is ∙ ap (λ b. leaf_node t.capacity b on) (bar_is t k a within read)

pub paint_small : (t : Bars) (width : ℕ) (ns : List Node) (k : ℕ) (on : Bool) (x : Node) → IsTree t width ns → k < length t.bars → x ≡ leaf_node t.capacity (bar_at t k) on
    → AreSmall (slice_set ns (width + k) x)
paint_small t width ns k on x tree within is = small_write ns (width + k) x (omega (arith, tree.size, tree.room, within))
    (subst (IsSmall (whole_room / (width + k))) (sym is)
    (leaf_small (whole_room / (width + k)) t.capacity (bar_at t k) on
    (le-div 1000000000000000 whole_room (width + k) (omega (arith, tree.room, within)) (omega (arith, tree.low, tree.room, within)))
    tree.capacity (tree.bars.small k within)))
    tree.small
