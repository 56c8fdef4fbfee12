-- The settled slots fit their intervals where sizes are right, and a valid model has few things.
use Rattle.std.specs.Prelude.{◌≡◌, ◌≤◌, ℤ, true, List, [], ◌∷◌, map, length, nat_le}
use Rattle.std.specs.List.{list_all}
use Rattle.std.proofs.Common.{refl, arith}
use Rattle.std.proofs.lemmas.Int.{ints}
use Rattle.std.proofs.lemmas.Bool.{leb-true}
use Rattle.sched_model.specs.declared.types.IntervalDef.{IntervalDef}
use Rattle.sched_model.specs.Words.{placewise}
use Rattle.sched_model.specs.Data.{Data}
use Rattle.sched_model.specs.Domain.{fits_def}
use Rattle.sched_model.specs.Valid.{IsValid}
use Rattle.region.specs.declared.types.Presence.{Presence}
use Rattle.region.specs.declared.types.Presence.TheVariants as presence
use Rattle.region.specs.declared.types.Bounds.{Bounds}
use Rattle.region.specs.Cells.{Region, is_fixed, is_ordered, is_settled, settled_slot, settled_slots}
use Rattle.region.specs.Looks.{IsRegionOf, is_narrowed}
use Rattle.region.specs.laws.Lists.{both_true, true_both}
use Rattle.refute_basic.specs.Leaf.{has_size, all_sized}

def_slot : (p : Presence) (d : IntervalDef) (a b e f lo hi : ℤ)
    → let c : Bounds = record { presence = p; smin = a; smax = b; emin = e; emax = f; pmin = lo; pmax = hi } in is_narrowed d c ≡ true → is_fixed c ≡ true → has_size c ≡ true → fits_def d (settled_slot c) ≡ true
def_slot presence.Absent d a b e f lo hi narrowed fixed sized = grind (arith, ints)
def_slot presence.Maybe d a b e f lo hi narrowed fixed sized = cc
def_slot presence.Present d a b e f lo hi narrowed fixed sized = grind (arith, ints)

each_def : (ds : List IntervalDef) (bs : List Bounds) → placewise is_narrowed ds bs ≡ true → list_all is_fixed bs ≡ true → list_all has_size bs ≡ true → placewise fits_def ds (map settled_slot bs) ≡ true
each_def [] [] narrowed fixed sized = refl
each_def (d ∷ ds) [] narrowed fixed sized = cc
each_def [] (b ∷ bs) narrowed fixed sized = cc
each_def (d ∷ ds) (b ∷ bs) narrowed fixed sized =
    let first = both_true (is_narrowed d b) (placewise is_narrowed ds bs) narrowed in
    let second = both_true (is_fixed b) (list_all is_fixed bs) fixed in
    let third = both_true (has_size b) (list_all has_size bs) sized in
    true_both (fits_def d (settled_slot b)) _ (def_slot b.presence d b.smin b.smax b.emin b.emax b.pmin b.pmax first.0 second.0 third.0) (each_def ds bs first.1 second.1 third.1)

pub settled_fits : (m : Data) (r : Region) → IsRegionOf m r → is_settled r ≡ true → all_sized r ≡ true → placewise fits_def m.intervals (settled_slots r) ≡ true
settled_fits m r of settled sized = each_def m.intervals r.bounds of.bounds (both_true (list_all is_fixed r.bounds) (list_all (is_ordered r) r.orders) settled).0 sized

pub few_of : (m : Data) → IsValid m → (length m.intervals ≤ 2000) × (length m.constraints ≤ 20000)
few_of m valid =
    let h7 = (both_true _ _ valid.limits).0 in
    let h6 = both_true _ (nat_le (length m.constraints) 20000) (both_true _ _ h7).0 in
    let h5 = (both_true _ _ h6.0).0 in
    let h4 = (both_true _ _ h5).0 in
    let h3 = (both_true _ _ h4).0 in
    let h2 = (both_true (nat_le (length m.intervals) 2000) _ h3).0 in
    (leb-true _ _ h2, leb-true _ _ h6.1)
