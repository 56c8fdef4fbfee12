-- On a settled region whose sizes are right, the look hull of an expression is its one value.
use Rattle.std.specs.Prelude.{◌≡◌, ℕ, zero, suc, ℤ, pos, ◌+ℤ◌, ◌-ℤ◌, ◌*ℤ◌, Bool, true, false, not, ◌&&◌, ◌||◌, List, [], ◌∷◌, map, slice_get, slice_index_or, fold, int_le, int_lt}
use Rattle.std.specs.Int.{int_max, int_min}
use Rattle.std.specs.Ordering.{int_eq}
use Rattle.std.specs.List.{list_any, list_all}
use Rattle.std.proofs.Common.{refl, sym, ap, subst, ◌∙◌, arith, cond}
use Rattle.std.proofs.lemmas.Int.{ints}
use Rattle.sched_model.specs.declared.types.IntervalDef.{IntervalDef}
use Rattle.sched_model.specs.declared.types.Slot.{Slot}
use Rattle.sched_model.specs.declared.types.Slot.TheVariants as slot
use Rattle.sched_model.specs.declared.types.CompareOp.{CompareOp}
use Rattle.sched_model.specs.declared.types.CompareOp.TheVariants.{Eq, Ne, Le, Ge, Lt, Gt}
use Rattle.sched_model.specs.declared.types.Expr.{Expr}
use Rattle.sched_model.specs.declared.types.Expr.TheOpen.{Expr-F}
use Rattle.sched_model.specs.declared.types.Expr.TheOpen.Expr-F.{Lit, StartOf, EndOf, SizeOf, LengthOf, PresenceOf, Neg, Sum, Product, Max, Min, Compare, Not, And, Or, Implies}
use Rattle.sched_model.specs.declared.types.Expr.TheFolds.{fold-roll-Expr, ind-Expr, map-Expr}
use Rattle.sched_model.specs.declared.types.Expr.TheViews.{roll-Expr}
use Rattle.sched_model.specs.Words.{◌implies◌, total, least, greatest, placewise}
use Rattle.sched_model.specs.Data.{Data}
use Rattle.sched_model.specs.Ranges.{Ends, lows, highs, negated, total_range, times_range, product_range, greatest_range, least_range}
use Rattle.sched_model.specs.Value.{start_or, end_or, size_or, truth, is_true, compared, value_step, value_of}
use Rattle.sched_model.specs.laws.Held.{composed, here_or, here_truth}
use Rattle.region.specs.declared.types.Bounds.{Bounds}
use Rattle.region.specs.declared.types.Presence.{Presence}
use Rattle.region.specs.declared.types.Presence.TheVariants as presence
use Rattle.region.specs.Cells.{Region, unknown, is_fixed, is_ordered, is_settled, settled_slot, settled_slots}
use Rattle.region.specs.Looks.{IsRegionOf, is_narrowed}
use Rattle.region.specs.laws.Lists.{both_true}
use Rattle.look_hull.specs.LookHull.{unless_empty, unless_absent, start_look, end_look, size_look, presence_look, range_of_listed, truth_range, surely_true, surely_false, compare_range, not_range, and_range, or_range, implies_range, look_step, look_hull}
use Rattle.refute_basic.specs.Leaf.{settled_alone, has_size, all_sized}
use Rattle.base_laws.specs.laws.Truth.{nor}

-- the range of one number
abbrev pub point : ℤ → Ends
point z = (z, z)

pair_is : (a b z : ℤ) → a ≡ z → b ≡ z → (a, b) ≡ point z
pair_is a b z h k = rw (h, k) refl

-- the range of a number of an interval, and the number in its slot
record Tells (f : Bounds → Ends) (get : ℤ → Slot → ℤ) : Type 0 where
  absent : (d : ℤ) → get d slot.Absent ≡ d
  present : (a b e g lo hi d : ℤ) → let c : Bounds = record { presence = presence.Present; smin = a; smax = b; emin = e; emax = g; pmin = lo; pmax = hi } in is_fixed c ≡ true → has_size c ≡ true → f c ≡ point (get d (slot.Present a e))

chosen : (l u z : ℤ) (instead : Ends) → l ≡ z → u ≡ z → unless_empty (l, u) instead ≡ point z
chosen l u z instead h k = rw (h, k) (by_case (int_le z z) (itself z))
  where
    itself : (z : ℤ) → int_le z z ≡ true
    itself z = grind (arith, ints)

    by_case : (b : Bool) → b ≡ true → cond b (point z) instead ≡ point z
    by_case true h = refl
    by_case false h = cc

tells_start : Tells start_look start_or
tells_start = record { absent = λ d. refl; present = λ a b e f lo hi d fixed sized. chosen a (int_min b (f -ℤ lo)) a (a, b) refl (last a b e f lo hi fixed sized) }
  where
    last : (a b e f lo hi : ℤ) → (int_eq a b && int_eq e f) ≡ true → (int_le lo (e -ℤ a) && int_le (e -ℤ a) hi) ≡ true → int_min b (f -ℤ lo) ≡ a
    last a b e f lo hi fixed sized = grind (arith, ints)

tells_end : Tells end_look end_or
tells_end = record { absent = λ d. refl; present = λ a b e f lo hi d fixed sized. chosen (int_max e (a +ℤ lo)) f e (e, f) (first a b e f lo hi fixed sized) (same a b e f fixed) }
  where
    first : (a b e f lo hi : ℤ) → (int_eq a b && int_eq e f) ≡ true → (int_le lo (e -ℤ a) && int_le (e -ℤ a) hi) ≡ true → int_max e (a +ℤ lo) ≡ e
    first a b e f lo hi fixed sized = grind (arith, ints)

    same : (a b e f : ℤ) → (int_eq a b && int_eq e f) ≡ true → f ≡ e
    same a b e f fixed = grind (arith, ints)

tells_size : Tells size_look size_or
tells_size = record { absent = λ d. refl; present = λ a b e f lo hi d fixed sized. chosen (int_max lo (e -ℤ b)) (int_min hi (f -ℤ a)) (e -ℤ a) (lo, hi) (shortest a b e f lo hi fixed sized) (longest a b e f lo hi fixed sized) }
  where
    shortest : (a b e f lo hi : ℤ) → (int_eq a b && int_eq e f) ≡ true → (int_le lo (e -ℤ a) && int_le (e -ℤ a) hi) ≡ true → int_max lo (e -ℤ b) ≡ e -ℤ a
    shortest a b e f lo hi fixed sized = grind (arith, ints)

    longest : (a b e f lo hi : ℤ) → (int_eq a b && int_eq e f) ≡ true → (int_le lo (e -ℤ a) && int_le (e -ℤ a) hi) ≡ true → int_min hi (f -ℤ a) ≡ e -ℤ a
    longest a b e f lo hi fixed sized = grind (arith, ints)

tells_here : Tells presence_look here_or
tells_here = record { absent = λ d. refl; present = λ a b e f lo hi d fixed sized. refl }

at_cells : (f : Bounds → Ends) (get : ℤ → Slot → ℤ) → Tells f get → (p : Presence) (a b e g lo hi d : ℤ)
    → let c : Bounds = record { presence = p; smin = a; smax = b; emin = e; emax = g; pmin = lo; pmax = hi } in is_fixed c ≡ true → has_size c ≡ true → unless_absent p d (f c) ≡ point (get d (settled_slot c))
at_cells f get tells presence.Absent a b e g lo hi d fixed sized = ap point (sym (tells.absent d))
at_cells f get tells presence.Maybe a b e g lo hi d fixed sized = cc
at_cells f get tells presence.Present a b e g lo hi d fixed sized = tells.present a b e g lo hi d fixed sized

-- an interval that isn't listed is absent on both sides
at_place : (f : Bounds → Ends) (get : ℤ → Slot → ℤ) → Tells f get → (is : List IntervalDef) (cs : List Bounds) → placewise is_narrowed is cs ≡ true → list_all is_fixed cs ≡ true → list_all has_size cs ≡ true → (n : ℕ) (d : ℤ)
    → range_of_listed f d (slice_get is n) (slice_index_or cs n unknown) ≡ point (get d (slice_index_or (map settled_slot cs) n slot.Absent))
at_place f get tells [] [] narrow fixed sized n d = ap point (sym (tells.absent d))
at_place f get tells (i ∷ is) (c ∷ cs) narrow fixed sized zero d =
    at_cells f get tells c.presence c.smin c.smax c.emin c.emax c.pmin c.pmax d (both_true (is_fixed c) (list_all is_fixed cs) fixed).0 (both_true (has_size c) (list_all has_size cs) sized).0
at_place f get tells (i ∷ is) (c ∷ cs) narrow fixed sized (suc n) d =
    at_place f get tells is cs (both_true (is_narrowed i c) (placewise is_narrowed is cs) narrow).1 (both_true (is_fixed c) (list_all is_fixed cs) fixed).1 (both_true (has_size c) (list_all has_size cs) sized).1 n d
at_place f get tells [] (c ∷ cs) narrow fixed sized n d = cc
at_place f get tells (i ∷ is) [] narrow fixed sized n d = cc

-- arithmetic on points
lows_are : (zs : List ℤ) → lows (map point zs) ≡ zs
lows_are [] = refl
lows_are (z ∷ zs) = ap (λ (ys : List ℤ). z ∷ ys) (lows_are zs)

highs_are : (zs : List ℤ) → highs (map point zs) ≡ zs
highs_are [] = refl
highs_are (z ∷ zs) = ap (λ (ys : List ℤ). z ∷ ys) (highs_are zs)

by_ends : (f : List ℤ → ℤ) (zs : List ℤ) → (f (lows (map point zs)), f (highs (map point zs))) ≡ point (f zs)
by_ends f zs = pair_is (f (lows (map point zs))) (f (highs (map point zs))) (f zs) (ap f (lows_are zs)) (ap f (highs_are zs))

times_point : (y z : ℤ) → times_range (point y) (point z) ≡ point (y *ℤ z)
times_point y z = pair_is _ _ (y *ℤ z) (lowest (y *ℤ z)) (highest (y *ℤ z))
  where
    lowest : (p : ℤ) → int_min (int_min (int_min p p) p) p ≡ p
    lowest p = grind (arith, ints)

    highest : (p : ℤ) → int_max (int_max (int_max p p) p) p ≡ p
    highest p = grind (arith, ints)

product_from : (y : ℤ) (zs : List ℤ) → fold times_range (point y) (map point zs) ≡ point (fold (λ p z. p *ℤ z) y zs)
product_from y [] = refl
product_from y (z ∷ zs) = ap (λ (r : Ends). fold times_range r (map point zs)) (times_point y z) ∙ product_from (y *ℤ z) zs

-- truth values of points: each is surely true or surely false
truth_point : (always never b : Bool) → always ≡ b → never ≡ not b → truth_range always never ≡ point (truth b)
truth_point always never true h k = rw h refl
truth_point always never false h k = rw (h, k) refl

true_at : (z : ℤ) → surely_true (point z) ≡ is_true z
true_at z = grind (arith, ints)

pub false_at : (z : ℤ) → surely_false (point z) ≡ not (is_true z)
false_at z = grind (arith, ints)

compare_point : (op : CompareOp) (y z : ℤ) → compare_range op (point y) (point z) ≡ point (truth (compared op y z))
compare_point Eq y z = truth_point _ _ (int_eq y z) (grind (arith, ints)) (grind (arith, ints))
compare_point Ne y z = truth_point _ _ (not (int_eq y z)) (grind (arith, ints)) (grind (arith, ints))
compare_point Le y z = truth_point _ _ (int_le y z) refl (grind (arith, ints))
compare_point Ge y z = truth_point _ _ (int_le z y) refl (grind (arith, ints))
compare_point Lt y z = truth_point _ _ (int_lt y z) refl (grind (arith, ints))
compare_point Gt y z = truth_point _ _ (int_lt z y) refl (grind (arith, ints))

not_not : (b : Bool) → b ≡ not (not b)
not_not true = refl
not_not false = refl

not_point : (z : ℤ) → not_range (point z) ≡ point (truth (not (is_true z)))
not_point z = truth_point _ _ (not (is_true z)) (false_at z) (true_at z ∙ not_not (is_true z))

all_true : (zs : List ℤ) → list_all surely_true (map point zs) ≡ list_all is_true zs
all_true [] = refl
all_true (z ∷ zs) = rw (true_at z, all_true zs) refl

any_true : (zs : List ℤ) → list_any surely_true (map point zs) ≡ list_any is_true zs
any_true [] = refl
any_true (z ∷ zs) = rw (true_at z, any_true zs) refl

neither : (b c : Bool) → (not b || not c) ≡ not (b && c)
neither true c = refl
neither false c = refl

any_false : (zs : List ℤ) → list_any surely_false (map point zs) ≡ not (list_all is_true zs)
any_false [] = refl
any_false (z ∷ zs) = rw (false_at z, any_false zs) (neither (is_true z) (list_all is_true zs))

all_false : (zs : List ℤ) → list_all surely_false (map point zs) ≡ not (list_any is_true zs)
all_false [] = refl
all_false (z ∷ zs) = rw (false_at z, all_false zs) (nor (is_true z) (list_any is_true zs))

and_point : (zs : List ℤ) → and_range (map point zs) ≡ point (truth (list_all is_true zs))
and_point zs = truth_point _ _ (list_all is_true zs) (all_true zs) (any_false zs)

or_point : (zs : List ℤ) → or_range (map point zs) ≡ point (truth (list_any is_true zs))
or_point zs = truth_point _ _ (list_any is_true zs) (any_true zs) (all_false zs)

implied : (b c : Bool) → (not b || c) ≡ (b implies c)
implied true c = refl
implied false c = refl

broken : (b c : Bool) → (b && not c) ≡ not (b implies c)
broken true c = refl
broken false c = refl

implies_point : (y z : ℤ) → implies_range (point y) (point z) ≡ point (truth (is_true y implies is_true z))
implies_point y z = truth_point _ _ (is_true y implies is_true z)
    (rw (false_at y, true_at z) (implied (is_true y) (is_true z)))
    (rw (true_at y, false_at z) (broken (is_true y) (is_true z)))

-- a region of the model with nothing open and right sizes
record AllSized (m : Data) (r : Region) : Type 0 where
  narrow : placewise is_narrowed m.intervals r.bounds ≡ true
  fixed : list_all is_fixed r.bounds ≡ true
  sized : list_all has_size r.bounds ≡ true

abbrev Fine : Data → Region → Expr → Type 0
Fine m r e = look_hull m r e ≡ point (value_of (settled_alone r) e)

abbrev Part : Data → Region → Type 0
Part m r = (e : Expr) × Fine m r e

each_point : (m : Data) (r : Region) (ps : List (Part m r)) → map (λ p. look_hull m r p.0) ps ≡ map point (map (λ p. value_of (settled_alone r) p.0) ps)
each_point m r [] = refl
each_point m r (p ∷ ps) = rw (p.1, each_point m r ps) refl

level : (m : Data) (r : Region) → AllSized m r → (y : Expr-F (Part m r))
    → look_step m r (map-Expr (Part m r) Ends (λ p. look_hull m r p.0) y) ≡ point (value_step (settled_alone r) (map-Expr (Part m r) ℤ (λ p. value_of (settled_alone r) p.0) y))
level m r h (Lit n) = refl
level m r h (StartOf x d) = at_place start_look start_or tells_start m.intervals r.bounds h.narrow h.fixed h.sized x.0 d
level m r h (EndOf x d) = at_place end_look end_or tells_end m.intervals r.bounds h.narrow h.fixed h.sized x.0 d
level m r h (SizeOf x d) = at_place size_look size_or tells_size m.intervals r.bounds h.narrow h.fixed h.sized x.0 d
level m r h (LengthOf x d) = at_place size_look size_or tells_size m.intervals r.bounds h.narrow h.fixed h.sized x.0 d
level m r h (PresenceOf x) = at_place presence_look here_or tells_here m.intervals r.bounds h.narrow h.fixed h.sized x.0 (pos 0)
    ∙ ap point (here_truth (slice_index_or (settled_slots r) x.0 slot.Absent))
level m r h (Neg p) = ap negated p.1
level m r h (Sum ps) = ap total_range (each_point m r ps) ∙ by_ends total (map (λ p. value_of (settled_alone r) p.0) ps)
level m r h (Product ps) = ap product_range (each_point m r ps) ∙ product_from (pos 1) (map (λ p. value_of (settled_alone r) p.0) ps)
level m r h (Max ps) = ap greatest_range (each_point m r ps) ∙ by_ends greatest (map (λ p. value_of (settled_alone r) p.0) ps)
level m r h (Min ps) = ap least_range (each_point m r ps) ∙ by_ends least (map (λ p. value_of (settled_alone r) p.0) ps)
level m r h (Compare op p q) = ap (λ (s : Ends). compare_range op s (look_hull m r q.0)) p.1 ∙ ap (compare_range op (point (value_of (settled_alone r) p.0))) q.1 ∙ compare_point op (value_of (settled_alone r) p.0) (value_of (settled_alone r) q.0)
level m r h (Not p) = ap not_range p.1 ∙ not_point (value_of (settled_alone r) p.0)
level m r h (And ps) = ap and_range (each_point m r ps) ∙ and_point (map (λ p. value_of (settled_alone r) p.0) ps)
level m r h (Or ps) = ap or_range (each_point m r ps) ∙ or_point (map (λ p. value_of (settled_alone r) p.0) ps)
level m r h (Implies p q) = ap (λ (s : Ends). implies_range s (look_hull m r q.0)) p.1 ∙ ap (implies_range (point (value_of (settled_alone r) p.0))) q.1 ∙ implies_point (value_of (settled_alone r) p.0) (value_of (settled_alone r) q.0)

each_is : (m : Data) (r : Region) → AllSized m r → (e : Expr) → Fine m r e
each_is m r h = ind-Expr (Fine m r) (λ x y is. subst (λ z. Fine m r (roll-Expr z)) is
    (rw (fold-roll-Expr ℤ (value_step (settled_alone r)), composed (Fine m r) ℤ (value_of (settled_alone r)) y, fold-roll-Expr Ends (look_step m r), composed (Fine m r) Ends (look_hull m r) y)
    (level m r h y)))

-- the law
pub hull_is_value : (m : Data) (r : Region) (e : Expr) → IsRegionOf m r → is_settled r ≡ true → all_sized r ≡ true → look_hull m r e ≡ point (value_of (settled_alone r) e)
hull_is_value m r e of settled sized = each_is m r (record { narrow = of.bounds; fixed = (both_true (list_all is_fixed r.bounds) (list_all (is_ordered r) r.orders) settled).0; sized = sized }) e
