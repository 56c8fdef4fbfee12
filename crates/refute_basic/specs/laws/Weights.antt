-- Why a sum of weights fits a number of 128 bits: each is of magnitude at most 2^62, and a walk has at most 4,000 arcs.
use Rattle.std.specs.Prelude.{◌≡◌, ℕ, ◌*◌, ◌^◌, ◌<◌, ◌≤◌, ℤ, pos, neg_ℤ, ◌-ℤ◌, ◌≤ℤ◌, Bool, true, false, ◌&&◌, List, [], ◌∷◌, length, Option, Some, None, option_and_then, slice_get, nat_eq, int_le, if◌then◌else◌}
use Rattle.std.proofs.Common.{refl, sym, subst, arith, get_or}
use Rattle.std.proofs.lemmas.Int.{ints}
use Rattle.std.proofs.lemmas.Option.{slice_get-get_or}
use Rattle.base_laws.specs.laws.Items.{all_at}
use Rattle.sched_base.specs.declared.ids.Itv.{Itv}
use Rattle.sched_model.specs.declared.types.End.TheVariants.{Start, Finish}
use Rattle.sched_model.specs.declared.types.IntervalDef.{IntervalDef}
use Rattle.sched_model.specs.declared.types.Constraint.{Constraint}
use Rattle.sched_model.specs.declared.types.Constraint.TheVariants.{Temporal, NoOverlap}
use Rattle.sched_model.specs.Data.{Data, gap}
use Rattle.sched_model.specs.Valid.{IsValid, is_constraint, is_itv, is_small, is_span_of_moments, is_interval_def}
use Rattle.region.specs.Cells.{Region, bounds_of, unknown, is_there}
use Rattle.region.specs.Looks.{IsRegionOf, is_narrowed}
use Rattle.region.specs.laws.Lists.{both_true, placewise-length, placewise-at}
use Rattle.region.specs.laws.Standing.{least_is, greatest_is}
use Rattle.refute_basic.specs.declared.edge.Arc.{Arc as Edge}
use Rattle.refute_basic.specs.declared.arc_name.ArcName.{ArcName}
use Rattle.refute_basic.specs.Standing.{stand}
use Rattle.refute_basic.specs.Cycle.{edge, itv, forth, back, longer, shorter, along, edge_of}
use Rattle.region.specs.laws.Present.{there_within}
use Rattle.refute_basic.specs.laws.Gaps.{small_gap}
use Rattle.refute_basic.specs.laws.Cycle.{chosen, either, no_edge}

-- the distance of a precedence is small, and so are sizes
minus_small : (z : ℤ) → is_small z ≡ true → is_small (pos 0 -ℤ z) ≡ true
minus_small z h = grind (arith, ints)

sizes_small : (d : IntervalDef) → is_interval_def d ≡ true → (is_small d.size_lo ≡ true) × (is_small d.size_hi ≡ true)
sizes_small d h = ends d.size_lo d.size_hi (both_true (is_span_of_moments d.start_lo d.start_hi && is_span_of_moments d.end_lo d.end_hi) (is_span_of_moments d.size_lo d.size_hi) (both_true _ (int_le (pos 0) d.size_lo) h).0).1
  where
    ends : (lo hi : ℤ) → is_span_of_moments lo hi ≡ true → (is_small lo ≡ true) × (is_small hi ≡ true)
    ends lo hi h = (grind (arith, ints), grind (arith, ints))

of_some : {X Y Z : Type 0} (f : X → Option Y) (y : Y) (o : Option X) (p : X → Type 0) → ((x : X) → o ≡ Some x → p x) → option_and_then f o ≡ Some y → ((x : X) → p x → f x ≡ Some y → Z) → Z
of_some f y None p known is use_it = cc
of_some f y (Some x) p known is use_it = use_it x (known x refl) is

sizes_at : (m : Data) (r : Region) (x : Itv) → IsValid m → IsRegionOf m r → is_there r x ≡ true → (is_small (bounds_of r x).pmin ≡ true) × (is_small (bounds_of r x).pmax ≡ true)
sizes_at m r x valid of there =
    let within : x.0 < length r.bounds = there_within r x there in
    let inside : x.0 < length m.intervals = omega (arith, within, placewise-length is_narrowed m.intervals r.bounds of.bounds) in
    let d : IntervalDef = get_or m.intervals x.0 no_def in
    let narrow : is_narrowed d (bounds_of r x) ≡ true = placewise-at is_narrowed m.intervals r.bounds x.0 no_def unknown of.bounds inside in
    let small = sizes_small d (all_at is_interval_def m.intervals x.0 d valid.intervals (slice_get-get_or m.intervals x.0 no_def inside)) in
    (subst (λ z. is_small z ≡ true) (least_is d (bounds_of r x) narrow) small.0, subst (λ z. is_small z ≡ true) (greatest_is d (bounds_of r x) narrow) small.1)
  where
    no_def : IntervalDef
    no_def = record { name = []; optional = false; start_lo = pos 0; start_hi = pos 0; end_lo = pos 0; end_hi = pos 0; size_lo = pos 0; size_hi = pos 0 }

pub weight_small : (m : Data) (r : Region) (i : ArcName) (e : Edge) → IsValid m → IsRegionOf m r → edge_of m r i ≡ Some e → is_small e.weight ≡ true
weight_small m r i e valid of is =
    either (nat_eq i.kind 3) _ _ e
    (λ h. of_some (along m r (itv i.y) (itv i.z)) e (slice_get m.constraints i.x) (λ c. is_constraint m c ≡ true) known h (by_along (itv i.y) (itv i.z)))
    (either (nat_eq i.z 0) _ _ e
    (either (nat_eq i.kind 0) _ _ e
    (either (nat_eq i.y 0) _ _ e
    (λ h. of_some (forth r) e (slice_get m.constraints i.x) (λ c. is_constraint m c ≡ true) known h by_forth)
    (either (nat_eq i.y 1) _ _ e (λ h. of_some (back r) e (slice_get m.constraints i.x) (λ c. is_constraint m c ≡ true) known h by_back) (no_edge e)))
    (either (nat_eq i.y 0) _ _ e
    (either (nat_eq i.kind 1) _ _ e by_longer (either (nat_eq i.kind 2) _ _ e by_shorter (no_edge e)))
    (no_edge e)))
    (no_edge e)) is
  where
    known : (c : Constraint) → slice_get m.constraints i.x ≡ Some c → is_constraint m c ≡ true
    known c at = all_at (is_constraint m) m.constraints i.x c valid.constraints at

    weighs : (d : Edge) → e ≡ d → is_small d.weight ≡ true → is_small e.weight ≡ true
    weighs d same small = subst (λ (d : Edge). is_small d.weight ≡ true) (sym same) small

    by_forth : (c : Constraint) → is_constraint m c ≡ true → forth r c ≡ Some e → is_small e.weight ≡ true
    by_forth (Temporal from to equal x y z) fit h = weighs (edge from x z to y) (chosen (is_there r x && is_there r y) (edge from x z to y) e h).1 (both_true (is_itv m x && is_itv m y) (is_small z) fit).1
    by_forth c fit h = no_edge e h

    by_back : (c : Constraint) → is_constraint m c ≡ true → back r c ≡ Some e → is_small e.weight ≡ true
    by_back (Temporal from to equal x y z) fit h =
        weighs (edge to y (pos 0 -ℤ z) from x) (chosen (equal && is_there r x && is_there r y) (edge to y (pos 0 -ℤ z) from x) e h).1 (minus_small z (both_true (is_itv m x && is_itv m y) (is_small z) fit).1)
    by_back c fit h = no_edge e h

    by_along : (x y : Itv) (c : Constraint) → is_constraint m c ≡ true → along m r x y c ≡ Some e → is_small e.weight ≡ true
    by_along x y (NoOverlap p matrix direct) fit h =
        weighs (edge Finish x (if direct then pos 0 else gap m p matrix x y) Start y) (chosen (stand r p x y) (edge Finish x (if direct then pos 0 else gap m p matrix x y) Start y) e h).1 (small direct)
      where
        small : (d : Bool) → is_small (if d then pos 0 else gap m p matrix x y) ≡ true
        small true = refl
        small false = small_gap m p matrix x y valid
    by_along x y c fit h = no_edge e h

    by_longer : longer r (itv i.x) ≡ Some e → is_small e.weight ≡ true
    by_longer h =
        let two = chosen (is_there r (itv i.x)) (edge Start (itv i.x) (bounds_of r (itv i.x)).pmin Finish (itv i.x)) e h in
        weighs (edge Start (itv i.x) (bounds_of r (itv i.x)).pmin Finish (itv i.x)) two.1 (sizes_at m r (itv i.x) valid of two.0).0

    by_shorter : shorter r (itv i.x) ≡ Some e → is_small e.weight ≡ true
    by_shorter h =
        let two = chosen (is_there r (itv i.x)) (edge Finish (itv i.x) (pos 0 -ℤ (bounds_of r (itv i.x)).pmax) Start (itv i.x)) e h in
        weighs (edge Finish (itv i.x) (pos 0 -ℤ (bounds_of r (itv i.x)).pmax) Start (itv i.x)) two.1 (minus_small (bounds_of r (itv i.x)).pmax (sizes_at m r (itv i.x) valid of two.0).1)

-- the weights of a walk; a name of no arc has none
abbrev pub weight_or_none : Option Edge → ℤ
weight_or_none None = pos 0
weight_or_none (Some e) = e.weight

abbrev pub weights_of : Data → Region → List ArcName → List ℤ
weights_of m r [] = []
weights_of m r (i ∷ is) = weight_or_none (edge_of m r i) ∷ weights_of m r is

one_small : (m : Data) (r : Region) (i : ArcName) → IsValid m → IsRegionOf m r → is_small (weight_or_none (edge_of m r i)) ≡ true
one_small m r i valid of = by_case (edge_of m r i) refl
  where
    by_case : (o : Option Edge) → edge_of m r i ≡ o → is_small (weight_or_none o) ≡ true
    by_case None is = refl
    by_case (Some e) is = weight_small m r i e valid of is

record IsWithin (n : ℕ) (z : ℤ) : Type 0 where
  low : neg_ℤ (pos (2 ^ 62 * n)) ≤ℤ z
  high : z ≤ℤ pos (2 ^ 62 * n)
