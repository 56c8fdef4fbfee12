-- What the nodes of an expression stand for, from what those of its parts stand for.
use Rattle.std.proofs.Common.{◌≡◌, ℕ, zero, suc, add-one, take, drop, fold, get_or, ◌+◌, ◌<◌, ℤ, pos, negsuc, neg_ℤ, ◌-ℤ◌, Bool, true, false, ◌&&◌, ◌||◌, List, [], ◌∷◌, ◌++◌, length, map, Option, Some, None, refl, sym, ap, subst, ◌∙◌, arith}
use Rattle.std.specs.Prelude.{All, option_map, option_and_then, Result, Ok, Err, IfOk, OnOk}
use Rattle.std.specs.Int.{saturate_signed, w128}
use Rattle.std.specs.List.{list_all}
use Rattle.std.proofs.lemmas.Int.{ints}
use Rattle.std.proofs.lemmas.Bool.{and_parts}
use Rattle.std.proofs.lemmas.List.{at_drop_more, length_push}
use Rattle.std.proofs.lemmas.Option.{option_and_then_some}
use Rattle.sched_model.specs.declared.types.CompareOp.{CompareOp}
use Rattle.sched_model.specs.declared.types.Expr.{Expr}
use Rattle.sched_model.specs.declared.types.Expr.TheVariants as full
use Rattle.sched_model.specs.declared.types.Expr.TheVariants.{rolls-StartOf, rolls-EndOf, rolls-SizeOf, rolls-LengthOf, rolls-PresenceOf, rolls-Neg, rolls-Sum, rolls-Product, rolls-Max, rolls-Min, rolls-Compare, rolls-Not, rolls-And, rolls-Or, rolls-Implies}
use Rattle.sched_model.specs.declared.types.Expr.TheOpen.{Expr-F}
use Rattle.sched_model.specs.declared.types.Expr.TheOpen.Expr-F.{StartOf, EndOf, SizeOf, LengthOf, PresenceOf, Neg, Sum, Product, Max, Min, Compare, Not, And, Or, Implies}
use Rattle.sched_model.specs.declared.types.Expr.TheFolds.{fold-roll-Expr, map-Expr}
use Rattle.sched_model.specs.declared.types.Expr.TheViews.{roll-Expr}
use Rattle.sched_base.specs.declared.ids.Itv.{Itv}
use Rattle.sched_model.specs.Words.{all_of}
use Rattle.sched_model.specs.Bounds.{is_small}
use Rattle.sched_model.specs.Data.{Data}
use Rattle.sched_model.specs.Valid.{IsValid}
use Rattle.sched_model.specs.Ranges.{Ends, negated, total_range, greatest_range, least_range}
use Rattle.sched_model.specs.Hull.{limited, hull_step, hull_of, truth_of}
use Rattle.sched_model.specs.laws.Held.{all_of_first}
use Rattle.sched_model.specs.laws.Products.{ranges_same}
use Rattle.region.specs.Cells.{Region}
use Rattle.region.specs.Looks.{IsRegionOf}
use Rattle.look_hull.specs.LookHull.{look_step, look_hull}
use Rattle.sched_model.specs.code.Saturated.{saturated_range}
use Rattle.sched_model.specs.code.Names.{Each, all_names, names_step, names_of}
use Rattle.sched_model.specs.laws.Names.{each_left, each_right}
use Rattle.sched_model.specs.Data.{has, same}
use Rattle.region.specs.laws.OneSequence.{same_is}
use Rattle.look_hull.specs.code.Saturated.{saturated}
use Rattle.look_hull.specs.laws.Hulls.{Kept, look_kept}
use Rattle.look_hull.specs.laws.Saturation.{pair_kept}
use Rattle.hull_tree.specs.declared.nodes.Leaf.{Leaf}
use Rattle.hull_tree.specs.declared.nodes.Leaf.TheVariants as leaf
use Rattle.hull_tree.specs.declared.nodes.Op.{Op}
use Rattle.hull_tree.specs.declared.nodes.Op.TheVariants as op
use Rattle.hull_tree.specs.declared.nodes.Node.{Node}
use Rattle.hull_tree.specs.declared.nodes.Node.TheVariants as node
use Rattle.hull_tree.specs.code.Nodes.{interval_of, named, leaf_ends, combined, joined_truth, negation, whole, is_limited, ends_at, node_ends, AreEnds, Grown, IsAt, IsJoined}
use Rattle.hull_tree.specs.code.Meaning.{IsNamed, Means, MeanEach, IsProductFrom, times_near}
use Rattle.hull_tree.specs.laws.Halves.{limited_kept}
use Rattle.hull_tree.proofs.Placing.{ends_before, all_within}

hull_at : (m : Data) (e : Expr) (y : Expr-F Expr) → roll-Expr y ≡ e → hull_of m e ≡ hull_step m (map-Expr Expr (Option Ends) (hull_of m) y)
hull_at m e y is = ap (hull_of m) (sym is) ∙ fold-roll-Expr (Option Ends) (hull_step m) y

look_at : (m : Data) (r : Region) (e : Expr) (y : Expr-F Expr) → roll-Expr y ≡ e → look_hull m r e ≡ look_step m r (map-Expr Expr Ends (look_hull m r) y)
look_at m r e y is = ap (look_hull m r) (sym is) ∙ fold-roll-Expr Ends (look_step m r) y

at_node : (m : Data) (ns : List Node) (n : Node) (i : ℕ) (r : Region) (hs : List Ends) → IsAt ns n i → AreEnds m ns r (length ns) hs → ends_at hs i ≡ node_ends m r hs n
at_node m ns n i r hs at are = are.each i at.within ∙ ap (node_ends m r hs) at.is

-- the intervals that an expression names
names_at : (e : Expr) (y : Expr-F Expr) → roll-Expr y ≡ e → names_of e ≡ names_step (map-Expr Expr (List Itv) names_of y)
names_at e y is = ap names_of (sym is) ∙ fold-roll-Expr (List Itv) names_step y

named_on : (ns ks : List Node) (xs : List Itv) → Grown ns ks → Each (IsNamed ns) xs → Each (IsNamed ks) xs
named_on ns ks xs g each x here =
    let one = each x here in
    let within = one.within in
    let more = g.size in
    record { at = one.at; within = omega (arith, within, more); names = ap named (g.same one.at one.within) ∙ one.names }

each_of_one : (P : Itv → Type 0) (x : Itv) → P x → Each P (x ∷ [])
each_of_one P x holds z here = subst P (sym (same_is z x (alone (same z x) here))) holds
  where
    alone : (b : Bool) → (b || false) ≡ true → b ≡ true
    alone true h = refl
    alone false h = h

each_both : (P : Itv → Type 0) (xs ys : List Itv) → Each P xs → Each P ys → Each P (xs ++ ys)
each_both P [] ys first second z here = second z here
each_both P (x ∷ xs) ys first second z here = at (same z x) refl (each_both P xs ys (each_right P (x ∷ []) xs first) second z) here
  where
    at : (b : Bool) → same z x ≡ b → (has (xs ++ ys) z ≡ true → P z) → (b || has (xs ++ ys) z) ≡ true → P z
    at true is rest h = first z (ap (λ b. b || has xs z) is)
    at false is rest h = rest h

each_more : (P : Itv → Type 0) (es : List Expr) (e : Expr) → Each P (all_names (map names_of es)) → Each P (names_of e) → Each P (all_names (map names_of (es ++ e ∷ [])))
each_more P [] e first last = each_both P (names_of e) [] last first
each_more P (f ∷ fs) e first last =
    each_both P (names_of f) (all_names (map names_of (fs ++ e ∷ []))) (each_left P (names_of f) (all_names (map names_of fs)) first) (each_more P fs e (each_right P (names_of f) (all_names (map names_of fs)) first) last)

-- a leaf
pub means_leaf : (m : Data) (ns : List Node) (i : ℕ) (e : Expr) (y : Expr-F Expr) (l : Leaf) → roll-Expr y ≡ e → Each (λ x. interval_of l ≡ Some x) (names_step (map-Expr Expr (List Itv) names_of y)) → ((r : Region) → leaf_ends m r l ≡ look_step m r (map-Expr Expr Ends (look_hull m r) y)) → IsAt ns (node.Leaf l) i → Means m ns i e
means_leaf m ns i e y l is own same at = record { within = at.within; names = λ x here. record { at = i; within = at.within; names = ap named at.is ∙ own x (rw (sym (names_at e y is)) here) }; ends = λ h there valid r hs of are. at_node m ns (node.Leaf l) i r hs at are ∙ same r ∙ sym (look_at m r e y is) }

pub means_start : (ns : List Node) (i : ℕ) (x : Itv) (d c : ℤ) (e : Expr) → e ≡ full.StartOf x d → c ≡ d → IsAt ns (node.Leaf (leaf.Start x c)) i → (m : Data) → Means m ns i e
means_start ns i x d c e is same_d at m = means_leaf m ns i e (StartOf x d) (leaf.Start x d) (rolls-StartOf x d ∙ sym is) (each_of_one (λ z. Some x ≡ Some z) x refl) (λ r. refl) (subst (λ z. IsAt ns (node.Leaf (leaf.Start x z)) i) same_d at)

pub means_end : (ns : List Node) (i : ℕ) (x : Itv) (d c : ℤ) (e : Expr) → e ≡ full.EndOf x d → c ≡ d → IsAt ns (node.Leaf (leaf.End x c)) i → (m : Data) → Means m ns i e
means_end ns i x d c e is same_d at m = means_leaf m ns i e (EndOf x d) (leaf.End x d) (rolls-EndOf x d ∙ sym is) (each_of_one (λ z. Some x ≡ Some z) x refl) (λ r. refl) (subst (λ z. IsAt ns (node.Leaf (leaf.End x z)) i) same_d at)

pub means_size : (ns : List Node) (i : ℕ) (x : Itv) (d c : ℤ) (e : Expr) → e ≡ full.SizeOf x d → c ≡ d → IsAt ns (node.Leaf (leaf.Size x c)) i → (m : Data) → Means m ns i e
means_size ns i x d c e is same_d at m = means_leaf m ns i e (SizeOf x d) (leaf.Size x d) (rolls-SizeOf x d ∙ sym is) (each_of_one (λ z. Some x ≡ Some z) x refl) (λ r. refl) (subst (λ z. IsAt ns (node.Leaf (leaf.Size x z)) i) same_d at)

pub means_length : (ns : List Node) (i : ℕ) (x : Itv) (d c : ℤ) (e : Expr) → e ≡ full.LengthOf x d → c ≡ d → IsAt ns (node.Leaf (leaf.Size x c)) i → (m : Data) → Means m ns i e
means_length ns i x d c e is same_d at m = means_leaf m ns i e (LengthOf x d) (leaf.Size x d) (rolls-LengthOf x d ∙ sym is) (each_of_one (λ z. Some x ≡ Some z) x refl) (λ r. refl) (subst (λ z. IsAt ns (node.Leaf (leaf.Size x z)) i) same_d at)

pub means_presence : (ns : List Node) (i : ℕ) (x : Itv) (e : Expr) → e ≡ full.PresenceOf x → IsAt ns (node.Leaf (leaf.Presence x)) i → (m : Data) → Means m ns i e
means_presence ns i x e is at m = means_leaf m ns i e (PresenceOf x) (leaf.Presence x) (rolls-PresenceOf x ∙ sym is) (each_of_one (λ z. Some x ≡ Some z) x refl) (λ r. refl) at

some_of_one : (o : Option Ends) (h : Ends) → truth_of (o ∷ []) ≡ Some h → (x : Ends) × (o ≡ Some x)
some_of_one None h is = cc
some_of_one (Some x) h is = (x, refl)

some_of_two : (o p : Option Ends) (h : Ends) → truth_of (o ∷ p ∷ []) ≡ Some h → (x : Ends) × (y : Ends) × (o ≡ Some x) × (p ≡ Some y)
some_of_two None p h is = cc
some_of_two (Some x) None h is = cc
some_of_two (Some x) (Some y) h is = (x, y, refl, refl)

-- 64 bits hold the look hull of an expression that has a hull
look_same : (m : Data) (r : Region) → IsValid m → IsRegionOf m r → (e : Expr) (h : Ends) → hull_of m e ≡ Some h → saturated (look_hull m r e) ≡ look_hull m r e
look_same m r valid of e h is = let small = look_kept m r valid of e h is in pair_kept (look_hull m r e) small.low small.high

-- two parts that a truth value needs
pub means_pair : (m : Data) (ns ks ls : List Node) (i j k : ℕ) (a b e : Expr) (o : Op) (y : Expr-F Expr) → roll-Expr y ≡ e
    → names_step (map-Expr Expr (List Itv) names_of y) ≡ names_of a ++ names_of b
    → hull_step m (map-Expr Expr (Option Ends) (hull_of m) y) ≡ truth_of (hull_of m a ∷ hull_of m b ∷ [])
    → ((r s : Ends) → combined o r s ≡ joined_truth o (saturated r) (saturated s))
    → ((r : Region) → joined_truth o (look_hull m r a) (look_hull m r b) ≡ look_step m r (map-Expr Expr Ends (look_hull m r) y))
    → Means m ns i a → Grown ns ks → Means m ks j b → Grown ks ls → IsAt ls (node.Pair o i j) k → Means m ls k e
means_pair m ns ks ls i j k a b e o y is names hull truth same first g second h at = record {
  within = at.within;
  names = subst (Each (IsNamed ls)) (sym (names_at e y is ∙ names)) (each_both (IsNamed ls) (names_of a) (names_of b) (named_on ks ls (names_of a) h (named_on ns ks (names_of a) g first.names)) (named_on ks ls (names_of b) h second.names));
  ends = λ x there valid r hs of are.
      let w = some_of_two (hull_of m a) (hull_of m b) x (sym (hull_at m e y is ∙ hull) ∙ there) in
      let middle = ends_before m ks ls r hs h are in
      at_node m ls (node.Pair o i j) k r hs at are
      ∙ ap (λ z. combined o z (ends_at hs j)) (first.ends w.0 w.2 valid r hs of (ends_before m ns ks r hs g middle))
      ∙ ap (λ z. combined o (look_hull m r a) z) (second.ends w.1 w.3 valid r hs of middle)
      ∙ truth (look_hull m r a) (look_hull m r b)
      ∙ ap (λ z. joined_truth o z (saturated (look_hull m r b))) (look_same m r valid of a w.0 w.2)
      ∙ ap (λ z. joined_truth o (look_hull m r a) z) (look_same m r valid of b w.1 w.3)
      ∙ same r ∙ sym (look_at m r e y is);
}

pub means_not : (m : Data) (ns ks : List Node) (i k : ℕ) (a : Expr) → Means m ns i a → Grown ns ks → IsAt ks (node.Pair op.Not i i) k → Means m ks k (full.Not a)
means_not m ns ks i k a first g at = record {
  within = at.within;
  names = subst (Each (IsNamed ks)) (sym (names_at (full.Not a) (Not a) (rolls-Not a))) (named_on ns ks (names_of a) g first.names);
  ends = λ x there valid r hs of are.
      let w = some_of_one (hull_of m a) x (sym (hull_at m (full.Not a) (Not a) (rolls-Not a)) ∙ there) in
      at_node m ks (node.Pair op.Not i i) k r hs at are
      ∙ ap (λ z. combined op.Not z z) (first.ends w.0 w.1 valid r hs of (ends_before m ns ks r hs g are))
      ∙ ap (λ z. joined_truth op.Not z z) (look_same m r valid of a w.0 w.1)
      ∙ sym (look_at m r (full.Not a) (Not a) (rolls-Not a));
}

held : (z : ℤ) → is_small z ≡ true → saturate_signed w128 z ≡ z
held (pos n) h = grind (arith, ints)
held (negsuc n) h = grind (arith, ints)

zero_less : (z : ℤ) → pos 0 -ℤ z ≡ neg_ℤ z
zero_less z = omega (arith, ints)

negation_same : (l : Ends) → is_small (negated l).0 ≡ true → is_small (negated l).1 ≡ true → negation l ≡ negated l
negation_same l h i =
    ap (λ z. let e : Ends = (saturate_signed w128 z, saturate_signed w128 (pos 0 -ℤ l.0)) in e) (zero_less l.1)
    ∙ ap (λ z. let e : Ends = (saturate_signed w128 (neg_ℤ l.1), saturate_signed w128 z) in e) (zero_less l.0)
    ∙ ap (λ z. let e : Ends = (z, saturate_signed w128 (neg_ℤ l.0)) in e) (held (neg_ℤ l.1) h)
    ∙ ap (λ z. let e : Ends = (neg_ℤ l.1, z) in e) (held (neg_ℤ l.0) i)

pub means_neg : (m : Data) (ns ks : List Node) (i k : ℕ) (a : Expr) → Means m ns i a → Grown ns ks → IsAt ks (node.Pair op.Neg i i) k → Means m ks k (full.Neg a)
means_neg m ns ks i k a first g at = record {
  within = at.within;
  names = subst (Each (IsNamed ks)) (sym (names_at (full.Neg a) (Neg a) (rolls-Neg a))) (named_on ns ks (names_of a) g first.names);
  ends = λ x there valid r hs of are.
      let is = hull_at m (full.Neg a) (Neg a) (rolls-Neg a) in
      let looks = look_at m r (full.Neg a) (Neg a) (rolls-Neg a) in
      let small = subst (Kept x) looks (look_kept m r valid of (full.Neg a) x there) in
      option_and_then_some _ (hull_of m a) x (sym is ∙ there) (λ y part limit.
      at_node m ks (node.Pair op.Neg i i) k r hs at are
      ∙ ap (λ z. combined op.Neg z z) (first.ends y part valid r hs of (ends_before m ns ks r hs g are))
      ∙ negation_same (look_hull m r a) small.low small.high
      ∙ sym looks);
}

-- the look hulls of parts that have hulls are within the limits
each_limited : (m : Data) (r : Region) → IsValid m → IsRegionOf m r → (es : List Expr) (xs : List Ends) → all_of (map (hull_of m) es) ≡ Some xs → list_all is_limited (map (look_hull m r) es) ≡ true
each_limited m r valid of [] xs h = refl
each_limited m r valid of (e ∷ es) xs h =
    let w = all_of_first (hull_of m e) (map (hull_of m) es) xs h in
    let small = look_kept m r valid of e w.0 w.2 in
    ap (λ b. (b && is_small (look_hull m r e).1) && list_all is_limited (map (look_hull m r) es)) small.low
    ∙ ap (λ b. b && list_all is_limited (map (look_hull m r) es)) small.high
    ∙ each_limited m r valid of es w.1 w.3

-- parts that an operation joins
pub means_joined : (m : Data) (ns ks : List Node) (is : List ℕ) (es : List Expr) (k : ℕ) (e : Expr) (o : Op) (y : Expr-F Expr) → roll-Expr y ≡ e
    → names_step (map-Expr Expr (List Itv) names_of y) ≡ all_names (map names_of es)
    → ((h : Ends) → hull_step m (map-Expr Expr (Option Ends) (hull_of m) y) ≡ Some h → (xs : List Ends) × (all_of (map (hull_of m) es) ≡ Some xs))
    → ((r : Region) → whole o (map (look_hull m r) es) ≡ look_step m r (map-Expr Expr Ends (look_hull m r) y))
    → MeanEach m ns is es → Grown ns ks → IsJoined o ks is k → Means m ks k e
means_joined m ns ks is es k e o y rolls names hulls same each g joined = record {
  within = joined.within;
  names = subst (Each (IsNamed ks)) (sym (names_at e y rolls ∙ names)) (named_on ns ks (all_names (map names_of es)) g each.names);
  ends = λ h there valid r hs of are.
      let w = hulls h (sym (hull_at m e y rolls) ∙ there) in
      let parts = each.ends w.0 w.1 valid r hs of (ends_before m ns ks r hs g are) in
      joined.ends m r hs are (ap (list_all is_limited) parts ∙ each_limited m r valid of es w.0 w.1)
      ∙ ap (whole o) parts ∙ same r ∙ sym (look_at m r e y rolls);
}

pub product_begun : (ns : List Node) (is : List ℕ) (i : ℕ) → IsAt ns (node.Leaf (leaf.Lit (pos 1))) i → IsProductFrom ns is 0 i
product_begun ns is i at = record { within = at.within; ends = λ m r hs are. ap (λ z. fold times_near z (map (ends_at hs) is)) (at_node m ns (node.Leaf (leaf.Lit (pos 1))) i r hs at are) }

pub product_more : (ns ks : List Node) (is : List ℕ) (k i x j : ℕ) → IsProductFrom ns is k i → k < length is → x ≡ get_or is k x → Grown ns ks → IsAt ks (node.Pair op.Times i x) j → IsProductFrom ks is (k + 1) j
product_more ns ks is k i x j before within at_k g at = record {
  within = at.within;
  ends = λ m r hs are.
      ap (λ z. fold times_near z (map (ends_at hs) (drop (k + 1) is))) (at_node m ks (node.Pair op.Times i x) j r hs at are)
      ∙ ap (λ z. fold times_near (times_near (ends_at hs i) (ends_at hs z)) (map (ends_at hs) (drop (k + 1) is))) at_k
      ∙ sym (at_drop_more (λ ys. fold times_near (ends_at hs i) (map (ends_at hs) ys)) is k x within)
      ∙ before.ends m r hs (ends_before m ns ks r hs g are);
}

-- factors within the limits
times_kept : (rs : List Ends) (a : Ends) → list_all is_limited rs ≡ true → fold times_near a rs ≡ fold saturated_range a rs
times_kept [] a h = refl
times_kept (r ∷ rs) a h =
    let w = and_parts (is_limited r) (list_all is_limited rs) h in
    ap (λ z. fold times_near (saturated_range a z) rs) (limited_kept r w.0) ∙ times_kept rs (saturated_range a r) w.1

pub means_product : (m : Data) (ns ks : List Node) (is : List ℕ) (es : List Expr) (n k : ℕ) → n ≡ length is → MeanEach m ns is es → Grown ns ks → IsProductFrom ks is n k → Means m ks k (full.Product es)
means_product m ns ks is es n k whole each g product = record {
  within = product.within;
  names = subst (Each (IsNamed ks)) (sym (names_at (full.Product es) (Product es) (rolls-Product es))) (named_on ns ks (all_names (map names_of es)) g each.names);
  ends = λ h there valid r hs of are.
      let looks = look_at m r (full.Product es) (Product es) (rolls-Product es) in
      let small = subst (Kept h) looks (look_kept m r valid of (full.Product es) h there) in
      option_and_then_some _ (all_of (map (hull_of m) es)) h (sym (hull_at m (full.Product es) (Product es) (rolls-Product es)) ∙ there) (λ xs hulls limit.
      sym (ap (λ ys. fold times_near (ends_at hs k) (map (ends_at hs) ys)) (ap (λ j. drop j is) whole ∙ all_dropped is))
      ∙ product.ends m r hs are
      ∙ ap (fold times_near (pos 1, pos 1)) (each.ends xs hulls valid r hs of (ends_before m ns ks r hs g are))
      ∙ times_kept (map (look_hull m r) es) (pos 1, pos 1) (each_limited m r valid of es xs hulls)
      ∙ ranges_same (map (look_hull m r) es) small.low small.high
      ∙ sym looks);
}
  where
    all_dropped : (xs : List ℕ) → drop (length xs) xs ≡ []
    all_dropped [] = refl
    all_dropped (x ∷ xs) = all_dropped xs

-- one more part
all_of_last : (os : List (Option Ends)) (o : Option Ends) (xs : List Ends) → all_of (os ++ o ∷ []) ≡ Some xs → ((ys : List Ends) × (all_of os ≡ Some ys)) × ((y : Ends) × (o ≡ Some y))
all_of_last [] o xs h = let w = all_of_first o [] xs h in (([], refl), (w.0, w.2))
all_of_last (p ∷ os) o xs h =
    let w = all_of_first p (os ++ o ∷ []) xs h in
    let rest = all_of_last os o w.1 w.3 in
    ((w.0 ∷ rest.0.0, ap (λ q. all_of (q ∷ os)) w.2 ∙ ap (option_map (λ ys. w.0 ∷ ys)) rest.0.1), rest.1)

map_more : {X Y : Type 0} (f : X → Y) (xs : List X) (x : X) → map f (xs ++ x ∷ []) ≡ map f xs ++ f x ∷ []
map_more f [] x = refl
map_more f (y ∷ ys) x = ap (λ zs. f y ∷ zs) (map_more f ys x)

all_more : (is : List ℕ) (i n : ℕ) → All (λ j. j < n) is → i < n → All (λ j. j < n) (is ++ i ∷ [])
all_more [] i n all within zero d there = within
all_more [] i n all within (suc k) d there = absurd (omega (arith, there))
all_more (y ∷ ys) i n all within zero d there = all zero d (omega arith)
all_more (y ∷ ys) i n all within (suc k) d there = all_more ys i n (λ j e below. all (suc j) e (omega (arith, below))) within k d (omega (arith, there))

pub mean_each_more : (m : Data) (ns ks : List Node) (is : List ℕ) (es : List Expr) (i : ℕ) (e : Expr) → MeanEach m ns is es → Grown ns ks → Means m ks i e → MeanEach m ks (is ++ i ∷ []) (es ++ e ∷ [])
mean_each_more m ns ks is es i e each g mean = record {
  within = all_more is i (length ks) (all_within is (length ns) (length ks) each.within g.size) mean.within;
  size = length_push is i ∙ ap (λ n. n + 1) each.size ∙ sym (length_push es e);
  names = each_more (IsNamed ks) es e (named_on ns ks (all_names (map names_of es)) g each.names) mean.names;
  ends = λ xs there valid r hs of are.
      let w = all_of_last (map (hull_of m) es) (hull_of m e) xs (ap all_of (sym (map_more (hull_of m) es e)) ∙ there) in
      map_more (ends_at hs) is i
      ∙ ap (λ ys. ys ++ ends_at hs i ∷ []) (each.ends w.0.0 w.0.1 valid r hs of (ends_before m ns ks r hs g are))
      ∙ ap (λ z. map (look_hull m r) es ++ z ∷ []) (mean.ends w.1.0 w.1.1 valid r hs of are)
      ∙ sym (map_more (look_hull m r) es e);
}

take_more : {X : Type 0} (xs : List X) (k : ℕ) (x : X) → k < length xs → x ≡ get_or xs k x → take (suc k) xs ≡ take k xs ++ x ∷ []
take_more [] k x h at = absurd (omega (arith, h))
take_more (y ∷ ys) zero x h at = ap (λ z. z ∷ []) (sym at)
take_more (y ∷ ys) (suc k) x h at = ap (λ zs. y ∷ zs) (take_more ys k x (omega (arith, h)) at)

-- one more turn of a walk over parts
pub mean_turn : (ns ks : List Node) (is is' : List ℕ) (es : List Expr) (k i : ℕ) (e : Expr) → ((m : Data) → MeanEach m ns is (take k es)) → Grown ns ks → ((m : Data) → Means m ks i e) → k < length es → e ≡ get_or es k e
    → is' ≡ is ++ i ∷ [] → (m : Data) → MeanEach m ks is' (take (k + 1) es)
mean_turn ns ks is is' es k i e each g mean within at more m =
    rw add-one (subst (λ ys. MeanEach m ks ys (take (suc k) es)) (sym more)
    (subst (MeanEach m ks (is ++ i ∷ [])) (sym (take_more es k e within at)) (mean_each_more m ns ks is (take k es) i e (each m) g (mean m))))

-- a clause about a result, from two others
pub on_ok : {E : Type 0} {G : Type 0} {P Q : ℕ → Type 0} (res : Result ℕ E) → OnOk res G → IfOk res P → ((i : ℕ) → G → P i → Q i) → IfOk res Q
on_ok (Ok i) g p f = f i g p
on_ok (Err e) g p f = tt

some_parts : (f : List Ends → Ends) (o : Option (List Ends)) (h : Ends) → option_and_then (λ rs. limited (f rs)) o ≡ Some h → (xs : List Ends) × (o ≡ Some xs)
some_parts f None h is = cc
some_parts f (Some xs) h is = (xs, refl)

truth_parts : (o : Option (List Ends)) (h : Ends) → option_map (λ rs. let e : Ends = (pos 0, pos 1) in e) o ≡ Some h → (xs : List Ends) × (o ≡ Some xs)
truth_parts None h is = cc
truth_parts (Some xs) h is = (xs, refl)

pub means_sum : (m : Data) (ns ks : List Node) (is : List ℕ) (es : List Expr) (k : ℕ) → MeanEach m ns is es → Grown ns ks → IsJoined op.Add ks is k → Means m ks k (full.Sum es)
means_sum m ns ks is es k each g joined = means_joined m ns ks is es k (full.Sum es) op.Add (Sum es) (rolls-Sum es) refl (λ h there. some_parts total_range (all_of (map (hull_of m) es)) h there) (λ r. refl) each g joined

pub means_max : (m : Data) (ns ks : List Node) (is : List ℕ) (es : List Expr) (k : ℕ) → MeanEach m ns is es → Grown ns ks → IsJoined op.Greater ks is k → Means m ks k (full.Max es)
means_max m ns ks is es k each g joined = means_joined m ns ks is es k (full.Max es) op.Greater (Max es) (rolls-Max es) refl (λ h there. some_parts greatest_range (all_of (map (hull_of m) es)) h there) (λ r. refl) each g joined

pub means_min : (m : Data) (ns ks : List Node) (is : List ℕ) (es : List Expr) (k : ℕ) → MeanEach m ns is es → Grown ns ks → IsJoined op.Lesser ks is k → Means m ks k (full.Min es)
means_min m ns ks is es k each g joined = means_joined m ns ks is es k (full.Min es) op.Lesser (Min es) (rolls-Min es) refl (λ h there. some_parts least_range (all_of (map (hull_of m) es)) h there) (λ r. refl) each g joined

pub means_and : (m : Data) (ns ks : List Node) (is : List ℕ) (es : List Expr) (k : ℕ) → MeanEach m ns is es → Grown ns ks → IsJoined op.Both ks is k → Means m ks k (full.And es)
means_and m ns ks is es k each g joined = means_joined m ns ks is es k (full.And es) op.Both (And es) (rolls-And es) refl (λ h there. truth_parts (all_of (map (hull_of m) es)) h there) (λ r. refl) each g joined

pub means_or : (m : Data) (ns ks : List Node) (is : List ℕ) (es : List Expr) (k : ℕ) → MeanEach m ns is es → Grown ns ks → IsJoined op.Either ks is k → Means m ks k (full.Or es)
means_or m ns ks is es k each g joined = means_joined m ns ks is es k (full.Or es) op.Either (Or es) (rolls-Or es) refl (λ h there. truth_parts (all_of (map (hull_of m) es)) h there) (λ r. refl) each g joined

pub means_compare : (m : Data) (ns ks ls : List Node) (i j k : ℕ) (a b : Expr) (c : CompareOp) → Means m ns i a → Grown ns ks → Means m ks j b → Grown ks ls → IsAt ls (node.Pair (op.Compare c) i j) k → Means m ls k (full.Compare c a b)
means_compare m ns ks ls i j k a b c first g second h at = means_pair m ns ks ls i j k a b (full.Compare c a b) (op.Compare c) (Compare c a b) (rolls-Compare c a b) refl refl (λ r s. refl) (λ r. refl) first g second h at

pub means_implies : (m : Data) (ns ks ls : List Node) (i j k : ℕ) (a b : Expr) → Means m ns i a → Grown ns ks → Means m ks j b → Grown ks ls → IsAt ls (node.Pair op.Implies i j) k → Means m ls k (full.Implies a b)
means_implies m ns ks ls i j k a b first g second h at = means_pair m ns ks ls i j k a b (full.Implies a b) op.Implies (Implies a b) (rolls-Implies a b) refl refl (λ r s. refl) (λ r. refl) first g second h at

pub within_turn : (ns ks : List Node) (is is' : List ℕ) (i : ℕ) → All (λ j. j < length ns) is → Grown ns ks → i < length ks → is' ≡ is ++ i ∷ [] → All (λ j. j < length ks) is'
within_turn ns ks is is' i all g within more = subst (All (λ j. j < length ks)) (sym more) (all_more is i (length ks) (all_within is (length ns) (length ks) all g.size) within)
