-- Nodes, put one behind the other.
use Rattle.std.proofs.Common.{◌≡◌, ◌≢◌, ℤ, pos, ℕ, zero, suc, ◌+◌, ◌/◌, ◌^◌, ◌<◌, ◌≤◌, true, false, List, [], ◌∷◌, ◌++◌, length, map, take, drop, refl, sym, ap, subst, ◌∙◌, arith, inl, inr}
use Rattle.std.specs.Prelude.{All}
use Rattle.std.specs.List.{list_all}
use Rattle.std.proofs.lemmas.Bool.{cases_eq, true≢false, and_parts}
use Rattle.std.proofs.lemmas.List.{get_or_append_left, length-take-le}
use Rattle.std.proofs.lemmas.List.Folds.{list_all-append}
use Rattle.sched_model.specs.Data.{Data}
use Rattle.sched_model.specs.Ranges.{Ends}
use Rattle.region.specs.Cells.{Region}
use Rattle.hull_tree.specs.declared.nodes.Leaf.TheVariants.{Lit}
use Rattle.hull_tree.specs.declared.nodes.Op.{Op}
use Rattle.hull_tree.specs.declared.nodes.Op.TheVariants.{Neg, Add, Times, Greater, Lesser, Compare, Not, Both, Either, Implies}
use Rattle.hull_tree.specs.declared.nodes.Node.{Node}
use Rattle.hull_tree.specs.declared.nodes.Span.{Span}
use Rattle.hull_tree.specs.declared.nodes.Node.TheVariants as node
use Rattle.hull_tree.specs.code.Nodes.{combined, whole, is_joining, is_limited, ends_at, node_at, span_at, IsWithin, node_ends, nothing, AreEnds, IsPlaced, IsPlacedBy, AreNodes, Grown, IsAt, IsJoined}
use Rattle.hull_tree.specs.laws.Halves.{halves, one_added, one_and, one_or}
use Rattle.hull_tree.proofs.Growing.{get_last, longer_by}

abbrev nowhere : Span
nowhere = record { first = 0; last = 0 }

-- a node's place looks at the spans of those before it alone
placed_more : (fs : List Span) (f s : Span) (i : ℕ) (n : Node) → i ≤ length fs → IsPlacedBy fs i s n → IsPlacedBy (fs ++ f ∷ []) i s n
placed_more fs f s i (node.Leaf l) within placed = placed
placed_more fs f s i (node.Pair op a b) within placed =
    let first = get_or_append_left fs (f ∷ []) nowhere a (omega (arith, placed.0, within)) in
    let second = get_or_append_left fs (f ∷ []) nowhere b (omega (arith, placed.1, within)) in
    (placed.0, placed.1, subst (λ t. IsWithin t s) (sym first) placed.2, subst (λ t. IsWithin t s) (sym second) placed.3)

placed_still : (fs : List Span) (f : Span) (i : ℕ) (n : Node) → i < length fs → IsPlaced fs i n → IsPlaced (fs ++ f ∷ []) i n
placed_still fs f i n within placed =
    placed_more fs f (span_at (fs ++ f ∷ []) i) i n (omega (arith, within)) (subst (λ s. IsPlacedBy fs i s n) (sym (get_or_append_left fs (f ∷ []) nowhere i within)) placed)

placed_now : (fs : List Span) (f : Span) (i : ℕ) (n : Node) → length fs ≡ i → IsPlacedBy fs i f n → IsPlaced (fs ++ f ∷ []) i n
placed_now fs f i n size placed =
    placed_more fs f (span_at (fs ++ f ∷ []) i) i n (omega (arith, size)) (subst (λ s. IsPlacedBy fs i s n) (sym (get_last fs f nowhere i size)) placed)

pub put_nodes : (ns : List Node) (fs : List Span) (n : Node) (f : Span) → AreNodes ns fs → IsPlacedBy fs (length ns) f n → AreNodes (ns ++ n ∷ []) (fs ++ f ∷ [])
put_nodes ns fs n f nodes placed = record {
  size = longer_by fs f (length ns) nodes.size ∙ sym (longer_by ns n (length ns) refl);
  each = λ i below. at i (subst (λ k. i < k) (longer_by ns n (length ns) refl) below);
}
  where
    lower : (i k : ℕ) → i < k + 1 → (i ≡ k → ⊥) → i < k
    lower i k h ne = let d : i ≢ k = ne in omega (arith, h, d)

    at : (i : ℕ) → i < length ns + 1 → IsPlaced (fs ++ f ∷ []) i (node_at (ns ++ n ∷ []) i)
    at i below = elim (cases_eq i (length ns)) [
      | inl last ↦ subst (λ j. IsPlaced (fs ++ f ∷ []) j (node_at (ns ++ n ∷ []) j)) (sym last) (subst (IsPlaced (fs ++ f ∷ []) (length ns)) (sym (get_last ns n nothing (length ns) refl)) (placed_now fs f (length ns) n nodes.size placed))
      | inr other ↦ (let under : i < length ns = lower i (length ns) below other in
          subst (IsPlaced (fs ++ f ∷ []) i) (sym (get_or_append_left ns (n ∷ []) nothing i under)) (placed_still fs f i (node_at ns i) (omega (arith, under, nodes.size)) (nodes.each i under)))
    ]

pub put_grown : (ns : List Node) (n : Node) → Grown ns (ns ++ n ∷ [])
put_grown ns n = record { size = let e = longer_by ns n (length ns) refl in omega (arith, e); same = λ i within. get_or_append_left ns (n ∷ []) nothing i within }

pub put_at : (ns : List Node) (n : Node) (i : ℕ) → i ≡ length ns → IsAt (ns ++ n ∷ []) n i
put_at ns n i is = record { within = let e = longer_by ns n (length ns) refl in omega (arith, e, is); is = get_last ns n nothing i (sym is) }

pub pair_placed : (ns : List Node) (fs : List Span) (op : Op) (a b : ℕ) (f : Span) → a < length ns → b < length ns → IsWithin (span_at fs a) f → IsWithin (span_at fs b) f → IsPlacedBy fs (length ns) f (node.Pair op a b)
pair_placed ns fs op a b f first second h i = (first, second, h, i)

pub grown_none : (ns : List Node) → Grown ns ns
grown_none ns = record { size = omega arith; same = λ i within. refl }

pub grown_on : (ns ks ls : List Node) → Grown ns ks → Grown ks ls → Grown ns ls
grown_on ns ks ls g h = record { size = let a = g.size in let b = h.size in omega (arith, a, b); same = λ i within. h.same i (let a = g.size in omega (arith, a, within)) ∙ g.same i within }

-- the ranges of nodes are those of the first of them
pub ends_before : (m : Data) (ns ks : List Node) (r : Region) (hs : List Ends) → Grown ns ks → AreEnds m ks r (length ks) hs → AreEnds m ns r (length ns) hs
ends_before m ns ks r hs g ends = record {
  size = let a = g.size in let b = ends.size in omega (arith, a, b);
  each = λ i within. ends.each i (let a = g.size in omega (arith, a, within)) ∙ ap (node_ends m r hs) (g.same i within);
}

pub joined_itself : (op : Op) (ns : List Node) (i : ℕ) → is_joining op ≡ true → (op ≡ Both → ⊥) → (op ≡ Either → ⊥) → i < length ns → IsJoined op ns (i ∷ []) i
joined_itself op ns i joins not_both not_either within = record { within = within; ends = λ m r hs ends small. at op joins not_both not_either (ends_at hs i) }
  where
    at : (op : Op) → is_joining op ≡ true → (op ≡ Both → ⊥) → (op ≡ Either → ⊥) → (x : Ends) → x ≡ whole op (x ∷ [])
    at Add joins p q x = one_added x
    at Greater joins p q x = refl
    at Lesser joins p q x = refl
    at Both joins p q x = absurd (p refl)
    at Either joins p q x = absurd (q refl)
    at Neg joins p q x = absurd (true≢false (sym joins))
    at Times joins p q x = absurd (true≢false (sym joins))
    at (Compare c) joins p q x = absurd (true≢false (sym joins))
    at Not joins p q x = absurd (true≢false (sym joins))
    at Implies joins p q x = absurd (true≢false (sym joins))

pub joined_and : (ns : List Node) (i j : ℕ) → IsAt ns (node.Pair Both i i) j → IsJoined Both ns (i ∷ []) j
joined_and ns i j at = record { within = at.within; ends = λ m r hs ends small. ends.each j at.within ∙ ap (node_ends m r hs) at.is ∙ one_and (ends_at hs i) (and_parts (is_limited (ends_at hs i)) true small).0 }

pub joined_or : (ns : List Node) (i j : ℕ) → IsAt ns (node.Pair Either i i) j → IsJoined Either ns (i ∷ []) j
joined_or ns i j at = record { within = at.within; ends = λ m r hs ends small. ends.each j at.within ∙ ap (node_ends m r hs) at.is ∙ one_or (ends_at hs i) (and_parts (is_limited (ends_at hs i)) true small).0 }

map_parts : {X Y : Type 0} (f : X → Y) (xs : List X) (k : ℕ) → map f (take k xs) ++ map f (drop k xs) ≡ map f xs
map_parts f [] zero = refl
map_parts f [] (suc k) = refl
map_parts f (x ∷ xs) zero = refl
map_parts f (x ∷ xs) (suc k) = ap (λ ys. f x ∷ ys) (map_parts f xs k)

mapped_size : {X Y : Type 0} (f : X → Y) (xs : List X) → length (map f xs) ≡ length xs
mapped_size f [] = refl
mapped_size f (x ∷ xs) = ap suc (mapped_size f xs)

-- the law of a join by halves
pub joined_halves : (op : Op) (ns ks ls : List Node) (xs ys list : List ℕ) (k a b i : ℕ) → is_joining op ≡ true → xs ≡ take k list → ys ≡ drop k list → 0 < length xs → 0 < length ys → length xs < 2 ^ 63 → length ys < 2 ^ 63
    → IsJoined op ns xs a → Grown ns ks → IsJoined op ks ys b → Grown ks ls → IsAt ls (node.Pair op a b) i → IsJoined op ls list i
joined_halves op ns ks ls xs ys list k a b i joins left right some others few less first grown second on at = record { within = at.within; ends = ends }
  where
    ends : (m : Data) (r : Region) (hs : List Ends) → AreEnds m ls r (length ls) hs → list_all is_limited (map (ends_at hs) list) ≡ true → ends_at hs i ≡ whole op (map (ends_at hs) list)
    ends m r hs are small =
        let parts : map (ends_at hs) xs ++ map (ends_at hs) ys ≡ map (ends_at hs) list = ap (λ z. map (ends_at hs) z ++ map (ends_at hs) ys) left ∙ ap (λ z. map (ends_at hs) (take k list) ++ map (ends_at hs) z) right ∙ map_parts (ends_at hs) list k in
        let limited = and_parts (list_all is_limited (map (ends_at hs) xs)) (list_all is_limited (map (ends_at hs) ys)) (sym (list_all-append is_limited (map (ends_at hs) xs) (map (ends_at hs) ys)) ∙ subst (λ zs. list_all is_limited zs ≡ true) (sym parts) small) in
        let middle = ends_before m ks ls r hs on are in
        let early = ends_before m ns ks r hs grown middle in
        let size = mapped_size (ends_at hs) xs in
        let size' = mapped_size (ends_at hs) ys in
        are.each i at.within ∙ ap (node_ends m r hs) at.is
        ∙ ap (λ z. combined op z (ends_at hs b)) (first.ends m r hs early limited.0)
        ∙ ap (λ z. combined op (whole op (map (ends_at hs) xs)) z) (second.ends m r hs middle limited.1)
        ∙ halves op (map (ends_at hs) xs) (map (ends_at hs) ys) joins limited.0 limited.1 (omega (arith, some, size)) (omega (arith, few, size)) (omega (arith, others, size')) (omega (arith, less, size'))
        ∙ ap (whole op) parts

pub all_within : (xs : List ℕ) (n k : ℕ) → All (λ i. i < n) xs → n ≤ k → All (λ i. i < k) xs
all_within xs n k all more i there = let h = all i there in omega (arith, h, more)

dropped : {X : Type 0} (xs : List X) (k : ℕ) → k ≤ length xs → k + length (drop k xs) ≡ length xs
dropped xs zero h = omega arith
dropped [] (suc k) h = absurd (omega (arith, h))
dropped (x ∷ xs) (suc k) h = let rest = dropped xs k (omega (arith, h)) in omega (arith, rest)

pub record AreHalves (xs ys list : List ℕ) : Type 0 where
  pub some : 0 < length xs
  pub others : 0 < length ys
  pub few : length xs < 2 ^ 63
  pub less : length ys < 2 ^ 63

pub are_halves : (list : List ℕ) (ys : List ℕ) → 1 < length list → length list < 2 ^ 63 → ys ≡ drop (length list / 2) list → AreHalves (take (length list / 2) list) ys list
are_halves list ys two few right =
    let below : length list / 2 ≤ length list = omega arith in
    let first = length-take-le (length list / 2) list below in
    let second = dropped list (length list / 2) below in
    let size = ap length right in
    record { some = omega (arith, first, two); others = omega (arith, second, size, two); few = omega (arith, first, few); less = omega (arith, second, size, few) }

pub joined_none : (op : Op) (ns : List Node) (i : ℕ) (z : ℤ) → is_joining op ≡ true → (op ≡ Both → z ≡ pos 1) → ((op ≡ Both → ⊥) → z ≡ pos 0) → IsAt ns (node.Leaf (Lit z)) i → IsJoined op ns [] i
joined_none op ns i z joins one none at = record { within = at.within; ends = λ m r hs are small. are.each i at.within ∙ ap (node_ends m r hs) at.is ∙ by_op op joins one none }
  where
    is_none : (z y : ℤ) → z ≡ y → (let e : Ends = (z, z) in e) ≡ (y, y)
    is_none z y h = ap (λ x. let e : Ends = (x, x) in e) h

    by_op : (op : Op) → is_joining op ≡ true → (op ≡ Both → z ≡ pos 1) → ((op ≡ Both → ⊥) → z ≡ pos 0) → (let e : Ends = (z, z) in e) ≡ whole op []
    by_op Add joins one none = is_none z (pos 0) (none (λ h. cc))
    by_op Greater joins one none = is_none z (pos 0) (none (λ h. cc))
    by_op Lesser joins one none = is_none z (pos 0) (none (λ h. cc))
    by_op Both joins one none = is_none z (pos 1) (one refl)
    by_op Either joins one none = is_none z (pos 0) (none (λ h. cc))
    by_op Neg joins one none = absurd (true≢false (sym joins))
    by_op Times joins one none = absurd (true≢false (sym joins))
    by_op (Compare c) joins one none = absurd (true≢false (sym joins))
    by_op Not joins one none = absurd (true≢false (sym joins))
    by_op Implies joins one none = absurd (true≢false (sym joins))
