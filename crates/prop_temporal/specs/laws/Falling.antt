-- Heights are tested along one name after another.
use Rattle.std.specs.Prelude.{◌≡◌, ℕ, ◌+◌, ◌*◌, ◌<◌, ◌≤◌, ℤ, pos, ◌+ℤ◌, ◌-ℤ◌, ◌≤ℤ◌, Bool, true, false, not, ◌&&◌, ◌||◌, List, length, get_or, Option, Some, None, is_none, option_and_then, if◌then◌else◌, slice_get, int_le, int_lt}
use Rattle.std.proofs.Common.{inl, inr, refl, sym, ap, subst, ◌∙◌, arith, take}
use Rattle.std.proofs.lemmas.Bool.{true≢false}
use Rattle.std.proofs.lemmas.Int.{ints}
use Rattle.std.proofs.lemmas.List.{take_all}
use Rattle.sched_base.specs.declared.ids.Itv.{Itv}
use Rattle.sched_base.specs.declared.ids.Seq.{Seq}
use Rattle.sched_base.specs.declared.ids.Mat.{Mat}
use Rattle.sched_model.specs.declared.types.Constraint.{Constraint}
use Rattle.sched_model.specs.declared.types.Constraint.TheVariants.{Temporal, NoOverlap}
use Rattle.sched_model.specs.declared.types.End.{End}
use Rattle.sched_model.specs.declared.types.End.TheVariants.{Start, Finish}
use Rattle.sched_model.specs.Data.{Data, gap}
use Rattle.region.specs.Orders.{SequenceCells, known_order, order_in}
use Rattle.region.specs.Cells.{Region, bounds_of, cells_of, is_there}
use Rattle.region.specs.Looks.{IsRegionOf}
use Rattle.region.specs.laws.Lists.{both_true, true_both}
use Rattle.refute_basic.specs.declared.arc_name.ArcName.{ArcName}
use Rattle.refute_basic.specs.Standing.{precedes, stand}
use Rattle.refute_basic.specs.Cycle.{point, itv, edge, edge_if, forth, back, along, edge_of}
use Rattle.refute_basic.specs.laws.Cycle.{no_edge, chosen}
use Rattle.refute_basic.specs.laws.Told.{AreTold, told}
use Rattle.refute_basic.specs.laws.Walks.{AllLose}
use Rattle.refute_seq.specs.laws.Ordered.{one_way}
use Rattle.prop_temporal.specs.code.Members.{members_at, light_in}
use Rattle.prop_temporal.specs.code.Shown.{member_name, OfConstraint, IsOfConstraint, IsOfInterval, IsOfPrecedence, IsOfOrder, IsOfOrderFrom, IsOfSide, IsOfSideOf}
use Rattle.prop_temporal.specs.code.Heights.{breaks, keeps_precedence, Falls, FallsAlong}
use Rattle.prop_temporal.specs.laws.Named.{ordered, tried_all}
use Rattle.prop_temporal.specs.laws.Kinds.{precedence_names, interval_names, side_next, side_among, order_next, order_among}
use Rattle.base_laws.specs.laws.Numbers.{below_or_last}

-- along those of a precedence
pub falls_precedence : (m : Data) (r : Region) (h : ℕ → ℤ) (u : ℕ) → keeps_precedence r h (slice_get m.constraints u) ≡ true → FallsAlong m r h (IsOfPrecedence u)
falls_precedence m r h u low i of e shown = elim (precedence_names m r i e u of shown) [
  | inl is ↦ forwards (slice_get m.constraints u) low (ap (edge_of m r) (sym is) ∙ shown)
  | inr is ↦ backwards (slice_get m.constraints u) low (ap (edge_of m r) (sym is) ∙ shown)
]
  where
    first_falls : (t w : ℤ) (back there : Bool) → there ≡ true → ((not (int_lt t w) && back) || not there) ≡ true → w ≤ℤ t
    first_falls t w back true here h = let low : not (int_lt t w) ≡ true = (both_true (not (int_lt t w)) back (left (not (int_lt t w) && back) h)).0 in grind (arith, ints)
      where
        left : (b : Bool) → (b || false) ≡ true → b ≡ true
        left true h = refl
        left false h = h
    first_falls t w back false here h = absurd (true≢false (sym here))

    second_falls : (t z a : ℤ) (forth equal there : Bool) → equal ≡ true → there ≡ true → ((forth && (not equal || not (int_lt (z +ℤ a) t))) || not there) ≡ true → ((pos 0 -ℤ z) +ℤ t) ≤ℤ a
    second_falls t z a true true true is here h = let low : not (int_lt (z +ℤ a) t) ≡ true = left (not (int_lt (z +ℤ a) t)) h in grind (arith, ints)
      where
        left : (b : Bool) → (b || false) ≡ true → b ≡ true
        left true h = refl
        left false h = h
    second_falls t z a false true true is here h = absurd (true≢false (sym h))
    second_falls t z a forth false there is here h = absurd (true≢false (sym is))
    second_falls t z a forth true false is here h = absurd (true≢false (sym here))

    forwards : (o : Option Constraint) → keeps_precedence r h o ≡ true → option_and_then (forth r) o ≡ Some e → (e.weight +ℤ h e.head) ≤ℤ h e.tail
    forwards None low shown = no_edge e shown
    forwards (Some (Temporal from to equal a b z)) low shown =
        let two = chosen (is_there r a && is_there r b) (edge from a z to b) e shown in
        rw two.1 (first_falls (h (point from a)) (z +ℤ h (point to b)) (not equal || not (int_lt (z +ℤ h (point to b)) (h (point from a)))) (is_there r a && is_there r b) two.0 low)
    forwards (Some c) low shown = no_edge e shown

    backwards : (o : Option Constraint) → keeps_precedence r h o ≡ true → option_and_then (back r) o ≡ Some e → (e.weight +ℤ h e.head) ≤ℤ h e.tail
    backwards None low shown = no_edge e shown
    backwards (Some (Temporal from to equal a b z)) low shown =
        let two = chosen (equal && is_there r a && is_there r b) (edge to b (pos 0 -ℤ z) from a) e shown in
        let three = both_true (equal && is_there r a) (is_there r b) two.0 in
        let first = both_true equal (is_there r a) three.0 in
        rw two.1 (second_falls (h (point from a)) z (h (point to b)) (not (int_lt (h (point from a)) (z +ℤ h (point to b)))) equal (is_there r a && is_there r b) first.0 (true_both (is_there r a) (is_there r b) first.1 three.1) low)
    backwards (Some c) low shown = no_edge e shown

-- along those of an interval
pub falls_sizes : (m : Data) (r : Region) (h : ℕ → ℤ) (x : ℕ) → ((not (int_lt (h (2 * x)) ((bounds_of r (itv x)).pmin +ℤ h (2 * x + 1))) && not (int_lt (h (2 * x + 1)) ((pos 0 -ℤ (bounds_of r (itv x)).pmax) +ℤ h (2 * x)))) || not (is_there r (itv x))) ≡ true → FallsAlong m r h (IsOfInterval x)
falls_sizes m r h x low i of e shown = elim (interval_names m r i e x of shown) [
  | inl is ↦ by_size Start Finish (bounds_of r (itv x)).pmin (λ there. on_time (h (2 * x)) ((bounds_of r (itv x)).pmin +ℤ h (2 * x + 1)) (both_true _ _ (fallen there)).0) (ap (edge_of m r) (sym is) ∙ shown)
  | inr is ↦ by_size Finish Start (pos 0 -ℤ (bounds_of r (itv x)).pmax) (λ there. on_time (h (2 * x + 1)) ((pos 0 -ℤ (bounds_of r (itv x)).pmax) +ℤ h (2 * x)) (both_true _ _ (fallen there)).1) (ap (edge_of m r) (sym is) ∙ shown)
]
  where
    on_time : (t w : ℤ) → not (int_lt t w) ≡ true → w ≤ℤ t
    on_time t w h = grind (arith, ints)

    left : (a b : Bool) → b ≡ true → (a || not b) ≡ true → a ≡ true
    left true b there h = refl
    left false b there h = absurd (true≢false (sym h ∙ ap not there))

    fallen : is_there r (itv x) ≡ true → (not (int_lt (h (2 * x)) ((bounds_of r (itv x)).pmin +ℤ h (2 * x + 1))) && not (int_lt (h (2 * x + 1)) ((pos 0 -ℤ (bounds_of r (itv x)).pmax) +ℤ h (2 * x)))) ≡ true
    fallen there = left _ (is_there r (itv x)) there low

    by_size : (from to : End) (w : ℤ) → (is_there r (itv x) ≡ true → (w +ℤ h (point to (itv x))) ≤ℤ h (point from (itv x))) → edge_if (is_there r (itv x)) (edge from (itv x) w to (itv x)) ≡ Some e → (e.weight +ℤ h e.head) ≤ℤ h e.tail
    by_size from to w fall shown = let two = chosen (is_there r (itv x)) (edge from (itv x) w to (itv x)) e shown in rw two.1 (fall two.0)

weightless : (m : Data) (p : Seq) (matrix : Option Mat) (direct : Bool) (x y : Itv) → (direct || is_none matrix) ≡ true → (if direct then pos 0 else gap m p matrix x y) ≡ pos 0
weightless m p matrix true x y h = refl
weightless m p None false x y h = refl
weightless m p (Some k) false x y h = absurd (true≢false (sym h))

falls_weightless : (m : Data) (r : Region) (h : ℕ → ℤ) (u : ℕ) (p : Seq) (x y : Itv) (past : Bool) → light_in (slice_get m.constraints u) ≡ Some p → (stand r p x y ≡ true → past ≡ false) → (int_le (h (2 * y.0)) (h (2 * x.0 + 1)) || past) ≡ true
    → Falls m r h (member_name false u x.0 y.0)
falls_weightless m r h u p x y past light here low e shown = by_constraint (slice_get m.constraints u) light shown
  where
    low_enough : (a b : ℤ) (t : Bool) → t ≡ false → (int_le a b || t) ≡ true → (pos 0 +ℤ a) ≤ℤ b
    low_enough a b true off h = absurd (true≢false off)
    low_enough a b false off h = let le : int_le a b ≡ true = right (int_le a b) h in grind (arith, ints)
      where
        right : (t : Bool) → (t || false) ≡ true → t ≡ true
        right true h = refl
        right false h = h

    by_stand : (q : Seq) (w : ℤ) → q ≡ p → w ≡ pos 0 → stand r q x y ≡ true → e ≡ edge Finish x w Start y → (e.weight +ℤ h e.head) ≤ℤ h e.tail
    by_stand q w same zero told is = rw (is, zero) (low_enough (h (2 * y.0)) (h (2 * x.0 + 1)) past (here (subst (λ s. stand r s x y ≡ true) same told)) low)

    by_light : (q : Seq) (matrix : Option Mat) (direct : Bool) (b : Bool) → (direct || is_none matrix) ≡ b → (if b then Some q else None) ≡ Some p → along m r x y (NoOverlap q matrix direct) ≡ Some e → (e.weight +ℤ h e.head) ≤ℤ h e.tail
    by_light q matrix direct true free is shown =
        let two = chosen (stand r q x y) (edge Finish x (if direct then pos 0 else gap m q matrix x y) Start y) e shown in
        by_stand q (if direct then pos 0 else gap m q matrix x y) (one q p is) (weightless m q matrix direct x y free) two.0 two.1
      where
        one : (q p : Seq) → Some q ≡ Some p → q ≡ p
        one q p h = cc
    by_light q matrix direct false free is shown = cc

    by_constraint : (o : Option Constraint) → light_in o ≡ Some p → option_and_then (along m r x y) o ≡ Some e → (e.weight +ℤ h e.head) ≤ℤ h e.tail
    by_constraint None light shown = no_edge e shown
    by_constraint (Some (NoOverlap q matrix direct)) light shown = by_light q matrix direct (direct || is_none matrix) refl light shown
    by_constraint (Some c) light shown = no_edge e shown

-- along both of two members: of these orders one at most is told
abbrev pub fall_both : SequenceCells → Itv → Itv → Bool → Bool → Bool → Bool
fall_both s x y forth back there = (forth && back) || not (breaks (order_in s x y) forth back && there)

pub falls_forth : (m : Data) (r : Region) (h : ℕ → ℤ) (u : ℕ) (p : Seq) (x y : Itv) (back : Bool) → light_in (slice_get m.constraints u) ≡ Some p → fall_both (cells_of r p) x y (int_le (h (2 * y.0)) (h (2 * x.0 + 1))) back (is_there r y) ≡ true
    → Falls m r h (member_name false u x.0 y.0)
falls_forth m r h u p x y back light low = falls_weightless m r h u p x y (not (precedes r p x y && is_there r y)) light
    (λ h. let t : AreTold r p x y = told r p x y h in ap not (true_both (precedes r p x y) (is_there r y) t.order t.second))
    (one (int_le (h (2 * y.0)) (h (2 * x.0 + 1))) back (is_there r y) (precedes r p x y) (precedes r p y x) low)
  where
    one : (forth back there f b : Bool) → ((forth && back) || not (breaks (known_order f b) forth back && there)) ≡ true → (forth || not (f && there)) ≡ true
    one true back there f b h = refl
    one false back there true b h = h
    one false back there false b h = refl

pub falls_back : (m : Data) (r : Region) (h : ℕ → ℤ) (u : ℕ) (p : Seq) (x y : Itv) (forth : Bool) → light_in (slice_get m.constraints u) ≡ Some p → fall_both (cells_of r p) x y forth (int_le (h (2 * x.0)) (h (2 * y.0 + 1))) (is_there r y) ≡ true
    → Falls m r h (member_name false u y.0 x.0)
falls_back m r h u p x y forth light low = falls_weightless m r h u p y x (not (precedes r p y x && is_there r y)) light
    (λ h. let t : AreTold r p y x = told r p y x h in ap not (true_both (precedes r p y x) (is_there r y) t.order t.first))
    (one forth (int_le (h (2 * x.0)) (h (2 * y.0 + 1))) (is_there r y) (precedes r p x y) (precedes r p y x) (one_way (cells_of r p) x y) low)
  where
    one : (forth back there f b : Bool) → (f ≡ true → b ≡ true → ⊥) → ((forth && back) || not (breaks (known_order f b) forth back && there)) ≡ true → (back || not (b && there)) ≡ true
    one forth true there f b other h = refl
    one forth false there f false other h = refl
    one forth false there true true other h = absurd (other refl refl)
    one true false there false true other h = h
    one false false there false true other h = h

pub falls_side_more : (m : Data) (r : Region) (h : ℕ → ℤ) (u x : ℕ) (ys : List Itv) (k : ℕ) (y : Itv) → k < length ys → y ≡ get_or ys k y → FallsAlong m r h (IsOfSideOf false u x (take k ys)) → Falls m r h (member_name false u x y.0)
    → FallsAlong m r h (IsOfSideOf false u x (take (k + 1) ys))
falls_side_more m r h u x ys k y within at before last i of e shown = elim (side_next false u x ys k y i within at of) [
  | inl is ↦ last e (ap (edge_of m r) (sym is) ∙ shown)
  | inr earlier ↦ before i earlier e shown
]

pub falls_side_all : (m : Data) (r : Region) (h : ℕ → ℤ) (u x : ℕ) (ys : List Itv) (k : ℕ) → IsRegionOf m r → ys ≡ members_at m (slice_get m.constraints u) → length ys ≤ k → FallsAlong m r h (IsOfSideOf false u x (take k ys)) → FallsAlong m r h (IsOfSide false u x)
falls_side_all m r h u x ys k of are past before i mine e shown = before i (subst (λ zs. IsOfSideOf false u x zs i) (sym (take_all k ys past)) (side_among m r false u x ys i e of are mine shown)) e shown

pub falls_order_more : (m : Data) (r : Region) (h : ℕ → ℤ) (u : ℕ) (xs : List Itv) (k : ℕ) (x : Itv) → k < length xs → x ≡ get_or xs k x → FallsAlong m r h (IsOfOrderFrom u (take k xs)) → FallsAlong m r h (IsOfSide false u x.0)
    → FallsAlong m r h (IsOfOrderFrom u (take (k + 1) xs))
falls_order_more m r h u xs k x within at before last i of e shown = elim (order_next u xs k x i within at of) [
  | inl here ↦ last i here e shown
  | inr earlier ↦ before i earlier e shown
]

pub falls_order_past : (m : Data) (r : Region) (h : ℕ → ℤ) (u : ℕ) (xs : List Itv) (k : ℕ) (x : Itv) → IsRegionOf m r → k < length xs → x ≡ get_or xs k x → is_there r x ≡ false → FallsAlong m r h (IsOfOrderFrom u (take k xs))
    → FallsAlong m r h (IsOfOrderFrom u (take (k + 1) xs))
falls_order_past m r h u xs k x of within at away before = falls_order_more m r h u xs k x within at before (λ i here e shown.
    absurd (true≢false (sym (ordered m r i e of here.0 shown).present ∙ ap (λ n. is_there r (itv n)) here.2 ∙ away)))

pub falls_order_all : (m : Data) (r : Region) (h : ℕ → ℤ) (u : ℕ) (xs : List Itv) (k : ℕ) → IsRegionOf m r → xs ≡ members_at m (slice_get m.constraints u) → length xs ≤ k → FallsAlong m r h (IsOfOrderFrom u (take k xs)) → FallsAlong m r h (IsOfOrder u)
falls_order_all m r h u xs k of are past before i mine e shown = before i (subst (λ zs. IsOfOrderFrom u zs i) (sym (take_all k xs past)) (order_among m r u xs i e of are mine shown)) e shown

-- along those of all constraints and intervals
abbrev pub AreConstraints : ℕ → ArcName → Type 0
AreConstraints u i = OfConstraint i × (i.x < u)

abbrev pub AreIntervals : ℕ → ArcName → Type 0
AreIntervals x i = (OfConstraint i → ⊥) × (i.x < x)

pub falls_none_yet : (m : Data) (r : Region) (h : ℕ → ℤ) (kind : ArcName → Type 0) → FallsAlong m r h (λ i. kind i × (i.x < 0))
falls_none_yet m r h kind i of = absurd (omega (arith, of.1))

pub falls_next_constraint : (m : Data) (r : Region) (h : ℕ → ℤ) (u : ℕ) → FallsAlong m r h (IsOfConstraint u) → FallsAlong m r h (AreConstraints u) → FallsAlong m r h (AreConstraints (u + 1))
falls_next_constraint m r h u last before i of e shown = elim (below_or_last i.x u of.1) [
  | inl less ↦ before i (of.0, less) e shown
  | inr same ↦ last i (of.0, same) e shown
]

pub falls_next_interval : (m : Data) (r : Region) (h : ℕ → ℤ) (x : ℕ) → FallsAlong m r h (IsOfInterval x) → FallsAlong m r h (AreIntervals x) → FallsAlong m r h (AreIntervals (x + 1))
falls_next_interval m r h x last before i of e shown = elim (below_or_last i.x x of.1) [
  | inl less ↦ before i (of.0, less) e shown
  | inr same ↦ last i (of.0, same) e shown
]

pub falls_fewer : (m : Data) (r : Region) (h : ℕ → ℤ) (u n : ℕ) → n ≤ u → FallsAlong m r h (AreConstraints u) → FallsAlong m r h (AreConstraints n)
falls_fewer m r h u n less all i of = all i (of.0, omega (arith, of.1, less))

pub all_fallen : (m : Data) (r : Region) (h : ℕ → ℤ) (x : ℕ) → length r.bounds ≤ x → FallsAlong m r h (AreConstraints (length m.constraints)) → FallsAlong m r h (AreIntervals x) → AllLose m r h
all_fallen m r h x all constraints intervals i e shown = elim (tried_all m r i e shown) [
  | inl of ↦ constraints i of e shown
  | inr of ↦ intervals i (of.0, omega (arith, of.1, all)) e shown
]
