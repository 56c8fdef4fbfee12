-- What the passes of a side tell.
use Rattle.std.specs.Prelude.{◌≡◌, ℕ, zero, suc, ◌<◌, ◌≤◌, ℤ, pos, ◌+ℤ◌, ◌≤ℤ◌, ◌-ℤ◌, Bool, true, false, not, nat_lt, List, [], length, Option, None}
use Rattle.std.proofs.Common.{refl, sym, ap, subst, ◌∙◌, arith}
use Rattle.std.specs.Int.{int_min, int_max}
use Rattle.std.proofs.lemmas.Int.{ints}
use Rattle.std.proofs.lemmas.Bool.Decides.{nat_tests}
use Rattle.std.proofs.lemmas.List.{get_or_past}
use Rattle.sched_base.specs.declared.ids.TheConstants.{H}
use Rattle.sched_base.specs.declared.ids.Itv.{Itv}
use Rattle.sched_base.specs.declared.ids.Seq.{Seq}
use Rattle.sched_model.specs.Data.{Data}
use Rattle.region.specs.declared.types.Bounds.{Bounds}
use Rattle.region.specs.Cells.{Region, bounds_of}
use Rattle.task_sets.specs.Times.{Times, IsSized}
use Rattle.refute_seq.specs.declared.witness.SeqWitness.TheVariants.{Overload, Edge, NotEnd, Detect}
use Rattle.theta_passes.specs.declared.rows.Row.{Row}
use Rattle.theta_passes.specs.code.Rows.{row_at, is_candidate, times_at, IsNearRow}
use Rattle.theta_passes.specs.code.Edge.{PassOrNone}
use Rattle.theta_passes.specs.code.Late.{LatePass}
use Rattle.theta_passes.specs.code.Over.{NoOverloads}
use Rattle.theta_passes.specs.code.Rows.{IsByEst}
use Rattle.theta_passes.specs.code.Late.{IsLow, lowest}
use Rattle.prop_sets.specs.code.Orders.{AreSpanned, IsByStart}
use Rattle.prop_sets.specs.code.Rows.{seen, asked_bounds, asks_early, asks_late, chosen_row, side_of, member_at, AreRows}
use Rattle.prop_sets.specs.code.Sides.{NoFull, NoEdge, NoDetect, NoNotEnd, IsSideQuiet}
use Rattle.prop_sets.specs.code.Given.{IsOf, IsRowed}
use Rattle.prop_sets.specs.code.Busy.{IsBusy, IsLateFound, IsOverFound, IsEdgeFound, name_at, ids_of}
use Rattle.prop_sets.specs.laws.Under.{IsNarrow, IsMoment, narrow}
use Rattle.prop_sets.specs.laws.Members.{those_apart}
use Rattle.prop_sets.specs.laws.Placed.{IsNoted, row_base, rows_sized}
use Rattle.prop_sets.specs.laws.Found.{IsHit, edge_busy, detect_busy, not_end_busy, overload_busy}

-- the rows of members, as they are noted
noted : (m : Data) (c : ℕ) (p : Seq) (r : Region) (xs : List Itv) (side : ℕ) (chosen early : Bool) (rows : List Row) → IsOf m c p r xs → AreRows (chosen_row chosen side early) r xs rows → IsNoted side chosen early r xs rows
noted m c p r xs side chosen early rows of are = record {
  are = are;
  narrow = λ x. narrow m r x of.valid of.of;
  apart = those_apart m p xs of.valid of.members;
}

pub rows_few : (r : Region) (xs : List Itv) (make : Bounds → Row) (rows : List Row) → length xs ≤ 500 → AreRows make r xs rows → length rows ≤ 500
rows_few r xs make rows few are = let size = are.size in omega (arith, few, size)

pub rows_are_sized : (m : Data) (c : ℕ) (p : Seq) (r : Region) (xs : List Itv) (side : ℕ) (chosen early : Bool) (rows : List Row) → IsOf m c p r xs → AreRows (chosen_row chosen side early) r xs rows → IsSized (times_at rows)
rows_are_sized m c p r xs side chosen early rows of are = rows_sized side chosen early r xs rows (noted m c p r xs side chosen early rows of are)

-- their earliest starts and sizes are near
seen_near : (side : ℕ) (c : Bounds) → IsNarrow c → IsMoment (seen side c).est × (pos 0 ≤ℤ (seen side c).p) × ((seen side c).p ≤ℤ H)
seen_near zero c low = (low.start, low.size, low.length)
seen_near (suc n) c low =
    let from = low.end.from in
    let to = low.end.to in
    (record { from = omega (arith, ints, to); to = omega (arith, ints, from) }, low.size, low.length)

near_of : (w : Row) (t : Times) → w.est ≡ t.est → w.p ≡ t.p → IsMoment t.est × (pos 0 ≤ℤ t.p) × (t.p ≤ℤ H) → IsNearRow w
near_of w t est size h =
    let from = h.0.from in
    let to = h.0.to in
    let low = h.1 in
    let high = h.2 in
    record { est_from = omega (arith, ints, est, from); est_to = omega (arith, ints, est, to); p_from = omega (arith, ints, size, low); p_to = omega (arith, ints, size, high, low) }

pub rows_near : (m : Data) (c : ℕ) (p : Seq) (r : Region) (xs : List Itv) (side : ℕ) (chosen early : Bool) (rows : List Row) → IsOf m c p r xs → AreRows (chosen_row chosen side early) r xs rows → (k : ℕ) → IsNearRow (row_at rows k)
rows_near m c p r xs side chosen early rows of are k = by_case (nat_lt k (length xs)) refl
  where
    below : nat_lt k (length xs) ≡ true → k < length xs
    below h = grind (arith, nat_tests)

    past : nat_lt k (length xs) ≡ false → length xs ≤ k
    past h = grind (arith, nat_tests)

    by_case : (b : Bool) → nat_lt k (length xs) ≡ b → IsNearRow (row_at rows k)
    by_case true is =
        let c = bounds_of r (member_at xs k) in
        let low = narrow m r (member_at xs k) of.valid of.of in
        let base = row_base chosen side early c low in
        subst IsNearRow (sym (are.each k (below is))) (near_of (chosen_row chosen side early c) (seen side c) base.est base.size (seen_near side c low))
    by_case false is =
        let beyond = past is in
        let size = are.size in
        subst IsNearRow (sym (get_or_past rows k _ (omega (arith, beyond, size)))) (record { est_from = omega (arith, ints); est_to = omega (arith, ints); p_from = omega (arith, ints); p_to = omega (arith, ints) })

-- two sides
two : (back : Bool) → nat_lt (side_of back) 2 ≡ true
two true = refl
two false = refl

early_is : (back : Bool) → not back ≡ asks_early (side_of back)
early_is true = refl
early_is false = refl

late_is : (back : Bool) → back ≡ asks_late (side_of back)
late_is true = refl
late_is false = refl

hit : (m : Data) (c : ℕ) (p : Seq) (r : Region) (xs : List Itv) (side : ℕ) (chosen early : Bool) (rows : List Row) (k : ℕ) → IsOf m c p r xs → AreRows (chosen_row chosen side early) r xs rows → is_candidate rows k ≡ true → IsHit m c p r xs side chosen early rows k
hit m c p r xs side chosen early rows k of are one = record { of = of; noted = noted m c p r xs side chosen early rows of are; candidate = one }

pub busy_overload : (m : Data) (c : ℕ) (p : Seq) (r : Region) (best : Option ℤ) (xs : List Itv) (back chosen early : Bool) (rows : List Row) (k : ℕ) (s : List ℕ) → IsRowed m c p r xs back chosen early rows → IsOverFound rows k s
    → IsBusy m r best (member_at xs k) (Overload c (ids_of xs s (length m.intervals)))
busy_overload m c p r best xs back chosen early rows k s h found = overload_busy m c p r best xs (side_of back) chosen early rows k s (hit m c p r xs (side_of back) chosen early rows k h.of h.are found.candidate) found.there found.row

pub busy_edge : (m : Data) (c : ℕ) (p : Seq) (r : Region) (best : Option ℤ) (xs : List Itv) (back : Bool) (rows : List Row) (k : ℕ) (s u v : List ℕ) → IsRowed m c p r xs back true (not back) rows → IsEdgeFound rows k s u v
    → IsBusy m r best (member_at xs k) (Edge c (side_of back) (name_at xs k) (ids_of xs s (length m.intervals)) (ids_of xs u (length m.intervals)) (ids_of xs v (length m.intervals)))
busy_edge m c p r best xs back rows k s u v h found =
    edge_busy m c p r best xs (side_of back) rows k s u v (two back)
    (hit m c p r xs (side_of back) true (asks_early (side_of back)) rows k h.of (subst (λ e. AreRows (chosen_row true (side_of back) e) r xs rows) (early_is back) h.are) found.candidate) found.row

pub busy_detect : (m : Data) (c : ℕ) (p : Seq) (r : Region) (best : Option ℤ) (xs : List Itv) (back : Bool) (rows : List Row) (k : ℕ) (s : List ℕ) → IsRowed m c p r xs back false (not back) rows → IsLateFound rows k s
    → IsBusy m r best (member_at xs k) (Detect c (side_of back) (name_at xs k) (ids_of xs s (length m.intervals)))
busy_detect m c p r best xs back rows k s h found =
    detect_busy m c p r best xs (side_of back) rows k s (two back)
    (hit m c p r xs (side_of back) false (asks_early (side_of back)) rows k h.of (subst (λ e. AreRows (chosen_row false (side_of back) e) r xs rows) (early_is back) h.are) found.candidate) found.behind

pub busy_not_end : (m : Data) (c : ℕ) (p : Seq) (r : Region) (best : Option ℤ) (xs : List Itv) (back : Bool) (rows : List Row) (k : ℕ) (s : List ℕ) → IsRowed m c p r xs back false back rows → IsLateFound rows k s
    → IsBusy m r best (member_at xs k) (NotEnd c (side_of back) (name_at xs k) (ids_of xs s (length m.intervals)))
busy_not_end m c p r best xs back rows k s h found =
    not_end_busy m c p r best xs (side_of back) rows k s (two back)
    (hit m c p r xs (side_of back) false (asks_late (side_of back)) rows k h.of (subst (λ e. AreRows (chosen_row false (side_of back) e) r xs rows) (late_is back) h.are) found.candidate) found.behind

pub no_full : (m : Data) (c : ℕ) (p : Seq) (r : Region) (xs : List Itv) (rows : List Row) → IsRowed m c p r xs false false true rows → NoOverloads rows → NoFull 0 r xs
no_full m c p r xs rows rowed none = record { rows = rows; are = record { size = rowed.are.size; each = rowed.are.each }; overloads = none }

pub no_edge : (m : Data) (c : ℕ) (p : Seq) (r : Region) (xs : List Itv) (back : Bool) (rows : List Row) → IsRowed m c p r xs back true (not back) rows → NoOverloads rows → PassOrNone rows None → NoEdge (side_of back) r xs
no_edge m c p r xs back rows rowed none pass =
    let h = subst (λ e. AreRows (chosen_row true (side_of back) e) r xs rows) (early_is back) rowed.are in
    record { rows = rows; are = record { size = h.size; each = h.each }; overloads = none; pass = pass }

pub no_detect : (m : Data) (c : ℕ) (p : Seq) (r : Region) (xs : List Itv) (back : Bool) (rows : List Row) → IsRowed m c p r xs back false (not back) rows → LatePass rows None → NoDetect (side_of back) r xs
no_detect m c p r xs back rows rowed pass =
    let h = subst (λ e. AreRows (chosen_row false (side_of back) e) r xs rows) (early_is back) rowed.are in
    record { rows = rows; are = record { size = h.size; each = h.each }; pass = pass }

pub no_not_end : (m : Data) (c : ℕ) (p : Seq) (r : Region) (xs : List Itv) (back : Bool) (rows : List Row) → IsRowed m c p r xs back false back rows → LatePass rows None → NoNotEnd (side_of back) r xs
no_not_end m c p r xs back rows rowed pass =
    let h = subst (λ e. AreRows (chosen_row false (side_of back) e) r xs rows) (late_is back) rowed.are in
    record { rows = rows; are = record { size = h.size; each = h.each }; pass = pass }

pub first_quiet : (r : Region) (xs : List Itv) → NoFull 0 r xs → NoDetect 0 r xs → IsSideQuiet false 0 r xs
first_quiet r xs full detect = (full, detect)

pub later_quiet : (side : ℕ) (r : Region) (xs : List Itv) → NoEdge side r xs → NoNotEnd side r xs → IsSideQuiet true side r xs
later_quiet side r xs edge not_end = (edge, not_end)

-- rows as they are made for a side
pub rowed : (m : Data) (c : ℕ) (p : Seq) (r : Region) (xs : List Itv) (back chosen early : Bool) (rows : List Row) → IsOf m c p r xs → AreRows (chosen_row chosen (side_of back) early) r xs rows → IsRowed m c p r xs back chosen early rows
rowed m c p r xs back chosen early rows of are = record { of = of; are = are }

pub few_rowed : (m : Data) (c : ℕ) (p : Seq) (r : Region) (xs : List Itv) (back chosen early : Bool) (rows : List Row) → length xs ≤ 500 → IsRowed m c p r xs back chosen early rows → length rows ≤ 500
few_rowed m c p r xs back chosen early rows few h = rows_few r xs (chosen_row chosen (side_of back) early) rows few h.are

pub near_rowed : (m : Data) (c : ℕ) (p : Seq) (r : Region) (xs : List Itv) (back chosen early : Bool) (rows : List Row) → IsRowed m c p r xs back chosen early rows → (k : ℕ) → IsNearRow (row_at rows k)
near_rowed m c p r xs back chosen early rows h = rows_near m c p r xs (side_of back) chosen early rows h.of h.are

pub sized_rowed : (m : Data) (c : ℕ) (p : Seq) (r : Region) (xs : List Itv) (back chosen early : Bool) (rows : List Row) → IsRowed m c p r xs back chosen early rows → IsSized (times_at rows)
sized_rowed m c p r xs back chosen early rows h = rows_are_sized m c p r xs (side_of back) chosen early rows h.of h.are

-- a fact of each row, from one of each member's bounds, and of no row
each_row : (m : Data) (c : ℕ) (p : Seq) (r : Region) (xs : List Itv) (side : ℕ) (chosen early : Bool) (rows : List Row) (P : Row → Type 0) → IsOf m c p r xs → AreRows (chosen_row chosen side early) r xs rows
    → ((c : Bounds) → IsNarrow c → P (chosen_row chosen side early c)) → P (row_at [] 0) → (k : ℕ) → P (row_at rows k)
each_row m c p r xs side chosen early rows P of are holds none k = by_case (nat_lt k (length xs)) refl
  where
    below : nat_lt k (length xs) ≡ true → k < length xs
    below h = grind (arith, nat_tests)

    past : nat_lt k (length xs) ≡ false → length xs ≤ k
    past h = grind (arith, nat_tests)

    by_case : (b : Bool) → nat_lt k (length xs) ≡ b → P (row_at rows k)
    by_case true is = subst P (sym (are.each k (below is))) (holds (bounds_of r (member_at xs k)) (narrow m r (member_at xs k) of.valid of.of))
    by_case false is = let beyond = past is in let size = are.size in subst P (sym (get_or_past rows k _ (omega (arith, beyond, size)))) none

seen_lct : (side : ℕ) (c : Bounds) → IsNarrow c → IsMoment (seen side c).lct
seen_lct zero c low = low.end
seen_lct (suc n) c low =
    let from = low.start.from in
    let to = low.start.to in
    record { from = omega (arith, ints, to); to = omega (arith, ints, from) }

pub spanned_rowed : (m : Data) (c : ℕ) (p : Seq) (r : Region) (xs : List Itv) (back chosen early : Bool) (rows : List Row) → IsRowed m c p r xs back chosen early rows → AreSpanned rows
spanned_rowed m c p r xs back chosen early rows h = each_row m c p r xs (side_of back) chosen early rows (λ w. IsMoment w.lct) h.of h.are
    (λ b low. subst IsMoment (sym (row_base chosen (side_of back) early b low).lct) (seen_lct (side_of back) b low)) (record { from = omega (arith, ints); to = omega (arith, ints) })

-- what is asked of an interval is narrow too
asked_narrow : (early : Bool) (c : Bounds) → IsNarrow c → IsNarrow (asked_bounds early c)
asked_narrow true c low = record { starts = omega (arith, ints); ends = low.ends; size = low.size; start = low.start; end = low.end; length = low.length }
asked_narrow false c low = record { starts = low.starts; ends = omega (arith, ints); size = low.size; start = low.start; end = low.end; length = low.length }

record IsLowRow (start end : ℤ) : Type 0 where
  lst : lowest ≤ℤ start
  ect : lowest ≤ℤ end

min_low : (t x y : ℤ) → t ≤ℤ x → t ≤ℤ y → t ≤ℤ int_min x y
min_low t x y a b = grind (arith, ints, a, b)

max_high : (t x y : ℤ) → x ≤ℤ t → y ≤ℤ t → int_max x y ≤ℤ t
max_high t x y a b = grind (arith, ints, a, b)

max_low : (t x y : ℤ) → t ≤ℤ y → t ≤ℤ int_max x y
max_low t x y b = grind (arith, ints, b)

min_high : (t x y : ℤ) → y ≤ℤ t → int_min x y ≤ℤ t
min_high t x y b = grind (arith, ints, b)

seen_low : (side : ℕ) (c : Bounds) → IsNarrow c → IsLowRow (seen side c).lst (seen side c).ect
seen_low zero c low =
    let starts = low.starts in
    let size = low.size in
    let from = low.start.from in
    let end = low.end.from in
    let long = low.length in
    record {
      lst = min_low lowest c.smax (c.emax -ℤ c.pmin) (omega (arith, ints, starts, from)) (omega (arith, ints, end, long));
      ect = max_low lowest c.emin (c.smin +ℤ c.pmin) (omega (arith, ints, from, size));
    }
seen_low (suc n) c low =
    let ends = low.ends in
    let size = low.size in
    let to = low.start.to in
    let end = low.end.to in
    let long = low.length in
    let most : int_max c.emin (c.smin +ℤ c.pmin) ≤ℤ pos 4000000000 = max_high (pos 4000000000) c.emin (c.smin +ℤ c.pmin) (omega (arith, ints, ends, end)) (omega (arith, ints, to, long)) in
    let least : int_min c.smax (c.emax -ℤ c.pmin) ≤ℤ pos 4000000000 = min_high (pos 4000000000) c.smax (c.emax -ℤ c.pmin) (omega (arith, ints, end, size)) in
    record { lst = omega (arith, ints, most); ect = omega (arith, ints, least) }

row_low : (chosen : Bool) (side : ℕ) (early : Bool) (c : Bounds) → IsNarrow c → IsLowRow (chosen_row chosen side early c).lst (chosen_row chosen side early c).reach
row_low true side early c low = let h = seen_low side (asked_bounds early c) (asked_narrow early c low) in record { lst = h.lst; ect = h.ect }
row_low false side early c low = record { lst = (seen_low side c low).lst; ect = (seen_low side (asked_bounds early c) (asked_narrow early c low)).ect }

pub low_rowed : (m : Data) (c : ℕ) (p : Seq) (r : Region) (xs : List Itv) (back chosen early : Bool) (rows : List Row) → IsRowed m c p r xs back chosen early rows → IsLow rows
low_rowed m c p r xs back chosen early rows h = record { lst = λ k. (each k).lst; reach = λ k. (each k).ect }
  where
    each : (k : ℕ) → IsLowRow (row_at rows k).lst (row_at rows k).reach
    each k = each_row m c p r xs (side_of back) chosen early rows (λ w. IsLowRow w.lst w.reach) h.of h.are (λ b low. row_low chosen (side_of back) early b low) (record { lst = omega (arith, ints); ect = omega (arith, ints) }) k

-- the rows of members in the order of their earliest starts
pub sorted_rowed : (m : Data) (c : ℕ) (p : Seq) (r : Region) (xs : List Itv) (back chosen early : Bool) (rows : List Row) → IsByStart (side_of back) r xs → IsRowed m c p r xs back chosen early rows → IsByEst rows
sorted_rowed m c p r xs back chosen early rows sorted h j k le low =
    let size = h.are.size in
    let in_k : k < length xs = omega (arith, low, size) in
    let in_j : j < length xs = omega (arith, le, in_k) in
    subst (λ z. z ≤ℤ (row_at rows k).est) (sym (est j in_j)) (subst (λ z. (seen (side_of back) (bounds_of r (member_at xs j))).est ≤ℤ z) (sym (est k in_k)) (sorted j k le in_k))
  where
    est : (i : ℕ) → i < length xs → (row_at rows i).est ≡ (seen (side_of back) (bounds_of r (member_at xs i))).est
    est i within = ap (λ (w : Row). w.est) (h.are.each i within) ∙ (row_base chosen (side_of back) early (bounds_of r (member_at xs i)) (narrow m r (member_at xs i) h.of.valid h.of.of)).est
