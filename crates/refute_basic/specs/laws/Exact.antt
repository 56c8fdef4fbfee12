-- LEAF is told by the other kinds: on a settled look that none of them refutes, it passes.
use Rattle.std.specs.Prelude.{◌≡◌, ℕ, ◌<◌, ◌≤◌, ℤ, ◌+ℤ◌, ◌-ℤ◌, Bool, true, false, not, ◌&&◌, ◌||◌, length, Option, Some, None, slice_get, int_lt}
use Rattle.std.specs.List.{list_all}
use Rattle.std.proofs.Common.{refl, sym, ap, subst, ◌∙◌, arith}
use Rattle.std.proofs.lemmas.Int.{ints}
use Rattle.std.proofs.lemmas.Bool.Decides.{nat_tests}
use Rattle.std.proofs.lemmas.Option.{slice_get_within, get_or_from_slice_get}
use Rattle.base_laws.specs.laws.Items.{all_at, all_listed}
use Rattle.base_laws.specs.laws.Truth.{other_fails}
use Rattle.sched_base.specs.declared.ids.Itv.{Itv}
use Rattle.sched_model.specs.declared.types.End.{End}
use Rattle.sched_model.specs.declared.types.End.TheVariants.{Start, Finish}
use Rattle.sched_model.specs.declared.types.Sense.{Sense}
use Rattle.sched_model.specs.declared.types.Sense.TheVariants.{Minimize, Maximize}
use Rattle.sched_model.specs.declared.types.Expr.{Expr}
use Rattle.sched_model.specs.declared.types.Constraint.{Constraint}
use Rattle.sched_model.specs.declared.types.Constraint.TheVariants.{Temporal, Logic}
use Rattle.sched_model.specs.declared.types.Objective.{Objective}
use Rattle.sched_model.specs.Words.{passes}
use Rattle.sched_model.specs.Bounds.{is_small, is_number}
use Rattle.sched_model.specs.Data.{Data}
use Rattle.sched_model.specs.Valid.{is_itv, IsValid}
use Rattle.sched_model.specs.Value.{is_present, point_of, is_true, value_of}
use Rattle.sched_model.specs.Temporal.{reaches}
use Rattle.sched_model.specs.Solution.{beats}
use Rattle.sched_model.specs.laws.Listed.{valid_at}
use Rattle.sched_model.specs.laws.Words.{if_implied}
use Rattle.region.specs.declared.types.Presence.{Presence}
use Rattle.region.specs.declared.types.Presence.TheVariants as presence
use Rattle.region.specs.declared.types.Bounds.{Bounds}
use Rattle.region.specs.Cells.{Region, unknown, is_there, is_fixed, is_ordered, is_settled}
use Rattle.region.specs.Looks.{Seen, IsRegionOf, is_narrowed}
use Rattle.region.specs.laws.Lists.{both_true, true_both, placewise-length}
use Rattle.region.specs.laws.Pinned.{IsSettledTo, Pinned, pinned}
use Rattle.look_hull.specs.LookHull.{surely_false, look_hull}
use Rattle.refute_basic.specs.declared.witness.BasicWitness.{BasicWitness}
use Rattle.refute_basic.specs.declared.witness.BasicWitness.TheVariants.{Size, Arc, Expr as OfExpr, Obj}
use Rattle.refute_basic.specs.Witness.{is_valid}
use Rattle.refute_basic.specs.Size.{has_no_size}
use Rattle.refute_basic.specs.Arc.{earliest, latest, is_too_late}
use Rattle.refute_basic.specs.Expr.{is_never_true}
use Rattle.refute_basic.specs.Obj.{never_beats}
use Rattle.refute_basic.specs.Leaf.{settled_alone, has_size, all_sized, keeps, PassesLeaf}
use Rattle.refute_basic.specs.Basic.{row_of, refutes}
use Rattle.refute_basic.specs.Listed.{is_derived}
use Rattle.refute_basic.specs.laws.Fits.{settled_fits, few_of}
use Rattle.refute_basic.specs.laws.Points.{point, false_at, hull_is_value}

-- a settled look, which no witness of a kind but LEAF refutes
record Unrefuted (m : Data) (l : Seen) : Type 0 where
  valid : IsValid m
  of : IsRegionOf m l.region
  settled : is_settled l.region ≡ true
  none : (w : BasicWitness) → is_derived w ≡ true → refutes m l w ≡ false

-- so no row of a valid one holds
no_row : (m : Data) (l : Seen) (w : BasicWitness) → Unrefuted m l → is_derived w ≡ true → is_valid w ≡ true → row_of m l w ≡ false
no_row m l w h of valid = other_fails (is_valid w) (row_of m l w) (h.none w of) valid

number_below : (n k : ℕ) → n < k → k ≤ 20000 → is_number n ≡ true
number_below n k h few = grind (arith, nat_tests)

-- sizes are right, since no SIZE refutes

sized_cell : (p : Presence) (a b e f lo hi : ℤ)
    → let c : Bounds = record { presence = p; smin = a; smax = b; emin = e; emax = f; pmin = lo; pmax = hi } in is_fixed c ≡ true → has_no_size c ≡ false → has_size c ≡ true
sized_cell presence.Absent a b e f lo hi fixed some = refl
sized_cell presence.Maybe a b e f lo hi fixed some = cc
sized_cell presence.Present a b e f lo hi fixed some = grind (arith, ints)

sizes_are_right : (m : Data) (l : Seen) → Unrefuted m l → all_sized l.region ≡ true
sizes_are_right m l h = all_listed has_size l.region.bounds at
  where
    at : (n : ℕ) (c : Bounds) → slice_get l.region.bounds n ≡ Some c → has_size c ≡ true
    at n c is =
        let few : length l.region.bounds ≤ 20000 = omega (arith, (few_of m h.valid).0, placewise-length is_narrowed m.intervals l.region.bounds h.of.bounds) in
        let fixed = all_at is_fixed l.region.bounds n c (both_true (list_all is_fixed l.region.bounds) (list_all (is_ordered l.region) l.region.orders) h.settled).0 is in
        let some : has_no_size c ≡ false = subst (λ b. has_no_size b ≡ false) (get_or_from_slice_get l.region.bounds n c unknown is)
        (no_row m l (Size n) h refl (number_below n (length l.region.bounds) (slice_get_within l.region.bounds n c is) few)) in
        sized_cell c.presence c.smin c.smax c.emin c.emax c.pmin c.pmax fixed some

-- a precedence holds, since no ARC of it refutes

settled_to : (m : Data) (l : Seen) → Unrefuted m l → IsSettledTo m l.region (settled_alone l.region)
settled_to m l h = record { of = h.of; settled = h.settled; slots = refl; fits = settled_fits m l.region h.of h.settled (sizes_are_right m l h) }

-- the point of an interval that is present is its least and its greatest moment
record PointsAt (r : Region) (end : End) (x : Itv) : Type 0 where
  least : point_of (settled_alone r) end x ≡ earliest r end x
  greatest : point_of (settled_alone r) end x ≡ latest r end x

points_at : (r : Region) (end : End) (x : Itv) → Pinned r (settled_alone r) x → is_present (settled_alone r) x ≡ true → PointsAt r end x
points_at r Start x h here = record { least = h.start here; greatest = h.start here ∙ sym (h.latest here) }
points_at r Finish x h here = record { least = h.end here ∙ sym (h.earliest here); greatest = h.end here }

-- y + z isn't above w; nor, of an equality, w - z above y
reached : (equal : Bool) (y z w : ℤ) → int_lt w (y +ℤ z) ≡ false → (equal && int_lt y (w -ℤ z)) ≡ false → reaches equal (y +ℤ z) w ≡ true
reached true y z w h k = grind (arith, ints)
reached false y z w h k = grind (arith, ints)

not_later : (s t q e u : Bool) → s ≡ true → t ≡ true → (s && t && ((true && q) || (false && e && u))) ≡ false → q ≡ false
not_later s t true e u h k some = rw (h, k) at some
not_later s t false e u h k some = refl

not_earlier : (s t q e u : Bool) → s ≡ true → t ≡ true → (s && t && ((false && q) || (true && e && u))) ≡ false → (e && u) ≡ false
not_earlier s t q e u h k some = rw (h, k) at some

precedence_holds : (m : Data) (l : Seen) (c : ℕ) (from to : End) (equal : Bool) (x y : Itv) (z : ℤ) → Unrefuted m l → is_number c ≡ true → slice_get m.constraints c ≡ Some (Temporal from to equal x y z)
    → is_present (settled_alone l.region) x ≡ true → is_present (settled_alone l.region) y ≡ true → reaches equal (point_of (settled_alone l.region) from x +ℤ z) (point_of (settled_alone l.region) to y) ≡ true
precedence_holds m l c from to equal x y z h number is first second =
    let itvs = both_true (is_itv m x) (is_itv m y) (both_true (is_itv m x && is_itv m y) (is_small z) (valid_at m m.constraints c (Temporal from to equal x y z) h.valid refl is)).0 in
    let one = pinned m l.region (settled_alone l.region) x (settled_to m l h) itvs.0 in
    let two = pinned m l.region (settled_alone l.region) y (settled_to m l h) itvs.1 in
    let late = ap (passes (is_too_late l.region 0)) (sym is) ∙ no_row m l (Arc c 0) h refl (true_both (is_number c) (is_number 0) number refl) in
    let soon = ap (passes (is_too_late l.region 1)) (sym is) ∙ no_row m l (Arc c 1) h refl (true_both (is_number c) (is_number 1) number refl) in
    let x_there = sym one.there ∙ first in
    let y_there = sym two.there ∙ second in
    let q = int_lt (latest l.region to y) (earliest l.region from x +ℤ z) in
    let u = int_lt (latest l.region from x) (earliest l.region to y -ℤ z) in
    let begins = points_at l.region from x one first in
    let ends = points_at l.region to y two second in
    reached equal (point_of (settled_alone l.region) from x) z (point_of (settled_alone l.region) to y)
    (rw (begins.least, ends.greatest) (not_later (is_there l.region x) (is_there l.region y) q equal u x_there y_there late))
    (rw (begins.greatest, ends.least) (not_earlier (is_there l.region x) (is_there l.region y) q equal u x_there y_there soon))

-- an expression is true, since no EXPR of it refutes

true_unless : (b : Bool) → not b ≡ false → b ≡ true
true_unless true h = refl
true_unless false h = cc

expression_holds : (m : Data) (l : Seen) (c : ℕ) (e : Expr) → Unrefuted m l → is_number c ≡ true → slice_get m.constraints c ≡ Some (Logic e) → is_true (value_of (settled_alone l.region) e) ≡ true
expression_holds m l c e h number is =
    true_unless (is_true (value_of (settled_alone l.region) e)) (sym (false_at (value_of (settled_alone l.region) e))
    ∙ ap surely_false (sym (hull_is_value m l.region e h.of h.settled (sizes_are_right m l h)))
    ∙ ap (passes (is_never_true m l.region)) (sym is) ∙ no_row m l (OfExpr c) h refl number)

kept_at : (m : Data) (l : Seen) (c : ℕ) (d : Constraint) → Unrefuted m l → is_number c ≡ true → slice_get m.constraints c ≡ Some d → keeps m l.region d ≡ true
kept_at m l c (Temporal from to equal x y z) h number is = if_implied (is_present (settled_alone l.region) x && is_present (settled_alone l.region) y) _
    (λ there. let two = both_true (is_present (settled_alone l.region) x) (is_present (settled_alone l.region) y) there in precedence_holds m l c from to equal x y z h number is two.0 two.1)
kept_at m l c (Logic e) h number is = expression_holds m l c e h number is
kept_at m l c other h number is = refl

all_kept : (m : Data) (l : Seen) → Unrefuted m l → list_all (keeps m l.region) m.constraints ≡ true
all_kept m l h = all_listed (keeps m l.region) m.constraints (λ c d is. kept_at m l c d h (number_below c (length m.constraints) (slice_get_within m.constraints c d is) (few_of m h.valid).1) is)

-- the objective is better, since OBJ doesn't refute

never_at : (s : Sense) (best z : ℤ) → never_beats s best (point z) ≡ not (beats s z best)
never_at Minimize best z = grind (arith, ints)
never_at Maximize best z = grind (arith, ints)

objective_at : (m : Data) (l : Seen) → Unrefuted m l → (best : ℤ) (o : Option Objective)
    → passes (λ p. never_beats p.sense best (look_hull m l.region p.expr)) o ≡ passes (λ p. not (beats p.sense (value_of (settled_alone l.region) p.expr) best)) o
objective_at m l h best None = refl
objective_at m l h best (Some o) = ap (never_beats o.sense best) (hull_is_value m l.region o.expr h.of h.settled (sizes_are_right m l h)) ∙ never_at o.sense best (value_of (settled_alone l.region) o.expr)

best_at : (m : Data) (l : Seen) → Unrefuted m l → (b : Option ℤ)
    → passes (λ best. passes (λ p. never_beats p.sense best (look_hull m l.region p.expr)) m.objective) b ≡ passes (λ best. passes (λ p. not (beats p.sense (value_of (settled_alone l.region) p.expr) best)) m.objective) b
best_at m l h None = refl
best_at m l h (Some best) = objective_at m l h best m.objective

-- the law
pub unrefuted_passes : (m : Data) (l : Seen) → IsValid m → IsRegionOf m l.region → is_settled l.region ≡ true → ((w : BasicWitness) → is_derived w ≡ true → refutes m l w ≡ false) → PassesLeaf m l
unrefuted_passes m l valid of settled none =
    let h : Unrefuted m l = record { valid = valid; of = of; settled = settled; none = none } in
    record {
      sized = sizes_are_right m l h;
      kept = all_kept m l h;
      better = sym (best_at m l h l.best) ∙ no_row m l Obj h refl refl;
    }
