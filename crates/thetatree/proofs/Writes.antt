-- Writes of one node of a tree.
use Rattle.std.proofs.Common.{◌≡◌, ◌≢◌, ℕ, ◌+◌, ◌*◌, ◌/◌, ◌<◌, ◌≤◌, List, ◌++◌, length, get_or, take, refl, ap, sym, ◌∙◌, subst, inl, inr, arith, length-set}
use Rattle.std.specs.Prelude.{slice_set, slice_index_or}
use Rattle.std.proofs.lemmas.Bool.{cases_eq}
use Rattle.std.proofs.lemmas.List.{get_or-set_same, get_or-set_other, get_or_read_under, get_or_default}
use Rattle.std.proofs.lemmas.Nat.{le-div}
use Rattle.std.proofs.Math.Seq.{take-append_seam}
use Rattle.thetatree.specs.declared.leaves.Task.{Task}
use Rattle.thetatree.specs.declared.leaves.Colour.{Colour}
use Rattle.thetatree.specs.declared.leaves.Colour.TheVariants.{Out}
use Rattle.thetatree.specs.declared.node.Node.{Node}
use Rattle.thetatree.specs.code.Leaves.{Leaves, task_at, colour_at}
use Rattle.std.specs.Prelude.{pos}
use Rattle.std.proofs.lemmas.Int.{ints}
use Rattle.thetatree.specs.code.Nodes.{no_node, leaf_node, joined, IsSmall}
use Rattle.thetatree.specs.code.Trees.{node_at, whole_room, IsJoin, AreSmall, IsTree}
use Rattle.thetatree.proofs.Rooms.{rooms, joined_small, leaf_small}

pub same_node : (ns : List Node) (i j : ℕ) (x : Node) → j ≡ i → i < length ns → node_at (slice_set ns i x) j ≡ x
same_node ns i j x same within = ap (node_at (slice_set ns i x)) same ∙ get_or-set_same ns i x no_node within

pub other_node : (ns : List Node) (i j : ℕ) (x : Node) → j ≢ i → node_at (slice_set ns i x) j ≡ node_at ns j
other_node ns i j x other = get_or-set_other ns i j x no_node other

-- a write at i leaves the join at j as it was, unless i is one of its three nodes
pub join_kept : (ns : List Node) (i j : ℕ) (x : Node) → j ≢ i → 2 * j ≢ i → 2 * j + 1 ≢ i → IsJoin ns j → IsJoin (slice_set ns i x) j
join_kept ns i j x top left right is =
    other_node ns i j x top ∙ is ∙ ap (λ r. joined (node_at ns (2 * j)) r) (sym (other_node ns i (2 * j + 1) x right))
    ∙ ap (λ l. joined l (node_at (slice_set ns i x) (2 * j + 1))) (sym (other_node ns i (2 * j) x left))

-- a node that joins the two below it
pub join_made : (ns : List Node) (i j : ℕ) (x : Node) → j ≡ i → 0 < i → i < length ns → x ≡ joined (node_at ns (2 * i)) (node_at ns (2 * i + 1)) → IsJoin (slice_set ns i x) j
join_made ns i j x same some within is = subst (IsJoin (slice_set ns i x)) (sym same)
    (same_node ns i i x refl within ∙ is ∙ ap (λ r. joined (node_at ns (2 * i)) r) (sym (other_node ns i (2 * i + 1) x (λ e. omega (arith, e, some))))
    ∙ ap (λ l. joined l (node_at (slice_set ns i x) (2 * i + 1))) (sym (other_node ns i (2 * i) x (λ e. omega (arith, e, some)))))

pub small_write : (ns : List Node) (i : ℕ) (x : Node) → i < length ns → IsSmall (whole_room / i) x → AreSmall ns → AreSmall (slice_set ns i x)
small_write ns i x within small before j some in_list = elim (cases_eq j i) [
  | inl same ↦ subst (λ n. IsSmall (whole_room / j) n) (sym (same_node ns i j x same within)) (subst (λ m. IsSmall (whole_room / m) x) (sym same) small)
  | inr other ↦ subst (λ n. IsSmall (whole_room / j) n) (sym (other_node ns i j x other)) (before j some (omega (arith, in_list, length-set ns i x)))
]

-- the step of the way up
pub join_small : (ns : List Node) (i : ℕ) (x : Node) → 0 < i → 2 * i + 1 < length ns → x ≡ joined (node_at ns (2 * i)) (node_at ns (2 * i + 1)) → AreSmall ns → IsSmall (whole_room / i) x
join_small ns i x some within is small = subst (IsSmall (whole_room / i)) (sym is)
    (joined_small (whole_room / (2 * i)) (whole_room / (2 * i + 1)) (whole_room / i) (node_at ns (2 * i)) (node_at ns (2 * i + 1))
    (rooms whole_room i some) (small (2 * i) (omega (arith, some)) (omega (arith, within))) (small (2 * i + 1) (omega arith) within))

pub joins_up : (ns : List Node) (at : ℕ) (x : Node) → 0 < at → at < length ns → x ≡ joined (node_at ns (2 * at)) (node_at ns (2 * at + 1))
    → ((j : ℕ) → 0 < j → j < length ns / 2 → j ≢ at → IsJoin ns j)
    → (j : ℕ) → 0 < j → j < length (slice_set ns at x) / 2 → j ≢ at / 2 → IsJoin (slice_set ns at x) j
joins_up ns at x some within is before j low high other = elim (cases_eq j at) [
  | inl same ↦ join_made ns at j x same some within is
  | inr apart ↦ join_kept ns at j x apart (λ e. other (omega (arith, e))) (λ e. other (omega (arith, e)))
      (before j low (let same : length (slice_set ns at x) ≡ length ns = length-set ns at x in subst (λ n. j < n / 2) same high) apart)
]

-- each node joins the two below it, but for the one above a place
abbrev pub JoinBut : ℕ → List Node → Type 0
JoinBut at ns = (j : ℕ) → 0 < j → j < length ns / 2 → j ≢ at / 2 → IsJoin ns j

-- a written leaf
pub joins_leaf : (ns : List Node) (width at : ℕ) (x : Node) → length ns ≡ 2 * width → width ≤ at
    → ((j : ℕ) → 0 < j → j < width → IsJoin ns j) → JoinBut at (slice_set ns at x)
joins_leaf ns width at x size low before j some high other =
    let same : length (slice_set ns at x) ≡ length ns = length-set ns at x in
    let high' : j < width = omega (arith, high, same, size) in
    join_kept ns at j x (λ e. omega (arith, e, high', low)) (λ e. other (omega (arith, e))) (λ e. other (omega (arith, e))) (before j some high')

-- what a slice of all of a list leaves
pub whole : (n : ℕ) (xs ys : List Node) → n ≡ length xs → take n (xs ++ ys) ≡ xs
whole n xs ys is = ap (λ m. take m (xs ++ ys)) is ∙ take-append_seam xs ys

colour_same : (t : Leaves) (k j : ℕ) (c : Colour) → j ≡ k → k < length t.colours → slice_index_or (slice_set t.colours k c) j Out ≡ c
colour_same t k j c same within = ap (λ i. slice_index_or (slice_set t.colours k c) i Out) same ∙ get_or-set_same t.colours k c Out within

colour_other : (t : Leaves) (k j : ℕ) (c : Colour) → j ≢ k → slice_index_or (slice_set t.colours k c) j Out ≡ colour_at t j
colour_other t k j c other = get_or-set_other t.colours k j c Out other

-- a tree whose leaf at k was painted and whose joins are made anew
pub painted : (t : Leaves) (width : ℕ) (ns new : List Node) (k : ℕ) (c : Colour) → IsTree t width ns → k < length t.tasks
    → length new ≡ length ns
    → ((j : ℕ) → length ns / 2 ≤ j → node_at new j ≡ node_at (slice_set ns (width + k) (leaf_node (task_at t k) c k)) j)
    → ((j : ℕ) → 0 < j → j < length ns / 2 → IsJoin new j) → AreSmall new
    → IsTree (record { tasks = t.tasks; colours = slice_set t.colours k c }) width new
painted t width ns new k c tree within same leaves joins small = record {
  power = tree.power;
  low = tree.low;
  room = tree.room;
  size = same ∙ tree.size;
  same = length-set t.colours k c ∙ tree.same;
  tasks = tree.tasks;
  leaves = λ j low. leaves (width + j) (omega (arith, tree.size)) ∙ elim (cases_eq j k) [
    | inl at ↦ same_node ns (width + k) (width + j) (leaf_node (task_at t k) c k) (omega (arith, at)) (omega (arith, tree.size, tree.room, within))
        ∙ (ap (λ i. leaf_node (task_at t i) c i) (sym at) ∙ ap (λ d. leaf_node (task_at t j) d j) (sym (colour_same t k j c at (omega (arith, tree.same, within)))))
    | inr apart ↦ other_node ns (width + k) (width + j) (leaf_node (task_at t k) c k) (λ e. apart (omega (arith, e)))
        ∙ (tree.leaves j low ∙ ap (λ d. leaf_node (task_at t j) d j) (sym (colour_other t k j c apart)))
  ];
  joins = λ j some high. joins j some (omega (arith, tree.size, high));
  small = small;
}

-- the node of the leaf that is painted
pub leaf_is : (t : Leaves) (k : ℕ) (c : Colour) (a : Task) (x : Node) → k < length t.tasks → a ≡ get_or t.tasks k a → x ≡ leaf_node a c k → x ≡ leaf_node (task_at t k) c k
leaf_is t k c a x within read is =
    is ∙ ap (λ b. leaf_node b c k) (get_or_read_under t.tasks k (length t.tasks) a (task_at t (length t.tasks)) read within refl ∙ same_default)
  where
    same_default : get_or t.tasks k (task_at t (length t.tasks)) ≡ task_at t k
    same_default = get_or_default t.tasks k (task_at t (length t.tasks)) (record { est = pos 0; p = pos 0 }) within

pub paint_small : (t : Leaves) (width : ℕ) (ns : List Node) (k : ℕ) (c : Colour) (x : Node) → IsTree t width ns → k < length t.tasks → x ≡ leaf_node (task_at t k) c k
    → AreSmall (slice_set ns (width + k) x)
paint_small t width ns k c x tree within is = small_write ns (width + k) x (omega (arith, tree.size, tree.room, within))
    (subst (IsSmall (whole_room / (width + k))) (sym is)
    (leaf_small (whole_room / (width + k)) (task_at t k) c k
    (le-div 2000000000 whole_room (width + k) (omega (arith, tree.room, within)) (omega (arith, tree.low, tree.room, within)))
    ((tree.tasks.small k within).est_from, omega (arith, ints, (tree.tasks.small k within).est_to)) (tree.tasks.small k within).p_from (tree.tasks.small k within).p_to))
    tree.small
