-- A look hull is never empty.
use Rattle.std.specs.Prelude.{◌≡◌, ℕ, zero, suc, ℤ, pos, ◌-ℤ◌, Bool, true, false, List, [], ◌∷◌, map, slice_get, slice_index_or, int_le}
use Rattle.std.specs.Int.{int_max, int_min}
use Rattle.std.specs.List.{list_all}
use Rattle.std.proofs.Common.{refl, sym, arith, cond, ◌≤ℤ◌}
use Rattle.std.proofs.lemmas.Int.{ints}
use Rattle.std.proofs.lemmas.Bool.{true≢false, and_parts}
use Rattle.sched_model.specs.declared.types.IntervalDef.{IntervalDef}
use Rattle.sched_model.specs.declared.types.CompareOp.{CompareOp}
use Rattle.sched_model.specs.declared.types.CompareOp.TheVariants.{Eq, Ne, Le, Ge, Lt, Gt}
use Rattle.sched_model.specs.declared.types.Expr.{Expr}
use Rattle.sched_model.specs.declared.types.Expr.TheOpen.{Expr-F}
use Rattle.sched_model.specs.declared.types.Expr.TheOpen.Expr-F.{Lit, StartOf, EndOf, SizeOf, LengthOf, PresenceOf, Neg, Sum, Product, Max, Min, Compare, Not, And, Or, Implies}
use Rattle.sched_model.specs.declared.types.Expr.TheFolds.{map-Expr}
use Rattle.sched_model.specs.Words.{placewise}
use Rattle.sched_model.specs.Data.{Data}
use Rattle.sched_model.specs.Ranges.{Ends}
use Rattle.sched_model.specs.Valid.{is_interval_def}
use Rattle.region.specs.declared.types.Bounds.{Bounds}
use Rattle.region.specs.declared.types.Presence.{Presence}
use Rattle.region.specs.declared.types.Presence.TheVariants as presence
use Rattle.region.specs.Cells.{Region, unknown}
use Rattle.region.specs.Looks.{is_narrowed, est_in, lst_in, ect_in, lct_in}
use Rattle.region.specs.laws.Standing.{least_is, greatest_is}
use Rattle.look_hull.specs.LookHull.{unless_empty, unless_absent, start_look, end_look, size_look, presence_look, range_of_listed, truth_range, compare_range, look_step, look_hull}
use Rattle.look_hull.specs.laws.Inside.{Inside, AllInside, negated_inside, total_inside, greatest_inside, least_inside, product_inside, point_inside}
use Rattle.look_hull.specs.laws.Cells.{sizes_ordered}

-- a range that isn't empty lies in itself
proper : (r : Ends) → r.0 ≤ℤ r.1 → Inside r r
proper r h = record { low = record { low = omega (arith, ints); high = h }; high = record { low = h; high = omega (arith, ints) } }

unless_empty_proper : (r instead : Ends) → instead.0 ≤ℤ instead.1 → (unless_empty r instead).0 ≤ℤ (unless_empty r instead).1
unless_empty_proper r instead h = by_case (int_le r.0 r.1) refl
  where
    le_is : (a b : ℤ) → int_le a b ≡ true → a ≤ℤ b
    le_is a b h = grind (arith, ints)

    by_case : (b : Bool) → int_le r.0 r.1 ≡ b → (cond b r instead).0 ≤ℤ (cond b r instead).1
    by_case true is = le_is r.0 r.1 is
    by_case false is = h

-- the range of the number of an interval that is present
record NotEmpty (f : Bounds → Ends) : Type 0 where
  here : (i : IntervalDef) (c : Bounds) → is_interval_def i ≡ true → is_narrowed i c ≡ true → (f c).0 ≤ℤ (f c).1

start_proper : NotEmpty start_look
start_proper = record { here = λ i c valid narrow. unless_empty_proper (est_in c, lst_in c) (c.smin, c.smax) (grind (arith, ints, narrow)) }

end_proper : NotEmpty end_look
end_proper = record { here = λ i c valid narrow. unless_empty_proper (ect_in c, lct_in c) (c.emin, c.emax) (grind (arith, ints, narrow)) }

size_proper : NotEmpty size_look
size_proper = record { here = λ i c valid narrow. unless_empty_proper (int_max c.pmin (c.emin -ℤ c.smax), int_min c.pmax (c.emax -ℤ c.smin)) (c.pmin, c.pmax) (between i.size_lo i.size_hi c.pmin c.pmax (least_is i c narrow) (greatest_is i c narrow) (sizes_ordered i valid)) }
  where
    between : (lo hi pmin pmax : ℤ) → lo ≡ pmin → hi ≡ pmax → lo ≤ℤ hi → pmin ≤ℤ pmax
    between lo hi pmin pmax h i j = omega (arith, ints, h, i, j)

presence_proper : NotEmpty presence_look
presence_proper = record { here = λ i c valid narrow. omega (arith, ints) }

unless_absent_proper : (p : Presence) (d : ℤ) (r : Ends) → r.0 ≤ℤ r.1 → (unless_absent p d r).0 ≤ℤ (unless_absent p d r).1
unless_absent_proper presence.Present d r h = h
unless_absent_proper presence.Absent d r h = omega (arith, ints)
unless_absent_proper presence.Maybe d r h = both r.0 r.1 d
  where
    both : (l u d : ℤ) → int_min l d ≤ℤ int_max u d
    both l u d = grind (arith, ints)

at_place : (f : Bounds → Ends) → NotEmpty f → (is : List IntervalDef) (cs : List Bounds) → list_all is_interval_def is ≡ true → placewise is_narrowed is cs ≡ true → (n : ℕ) (d : ℤ)
    → Inside (range_of_listed f d (slice_get is n) (slice_index_or cs n unknown)) (range_of_listed f d (slice_get is n) (slice_index_or cs n unknown))
at_place f not_empty [] [] valid narrow n d = point_inside d
at_place f not_empty (i ∷ is) (c ∷ cs) valid narrow zero d =
    proper _ (unless_absent_proper c.presence d (f c) (not_empty.here i c (and_parts (is_interval_def i) (list_all is_interval_def is) valid).0 (and_parts (is_narrowed i c) (placewise is_narrowed is cs) narrow).0))
at_place f not_empty (i ∷ is) (c ∷ cs) valid narrow (suc n) d = at_place f not_empty is cs (and_parts (is_interval_def i) (list_all is_interval_def is) valid).1 (and_parts (is_narrowed i c) (placewise is_narrowed is cs) narrow).1 n d
at_place f not_empty [] (c ∷ cs) valid narrow n d = absurd (true≢false (sym narrow))
at_place f not_empty (i ∷ is) [] valid narrow n d = absurd (true≢false (sym narrow))

truth_proper : (always never : Bool) → Inside (truth_range always never) (truth_range always never)
truth_proper true never = point_inside (pos 1)
truth_proper false true = point_inside (pos 0)
truth_proper false false = proper (pos 0, pos 1) (omega (arith, ints))

compare_proper : (op : CompareOp) (a b : Ends) → Inside (compare_range op a b) (compare_range op a b)
compare_proper Eq a b = truth_proper _ _
compare_proper Ne a b = truth_proper _ _
compare_proper Le a b = truth_proper _ _
compare_proper Ge a b = truth_proper _ _
compare_proper Lt a b = truth_proper _ _
compare_proper Gt a b = truth_proper _ _

abbrev Fine : Data → Region → Expr → Type 0
Fine m r e = Inside (look_hull m r e) (look_hull m r e)

abbrev Part : Data → Region → Type 0
Part m r = (e : Expr) × Fine m r e

each_proper : (m : Data) (r : Region) (ps : List (Part m r)) → AllInside (map (λ p. look_hull m r p.0) ps) (map (λ p. look_hull m r p.0) ps)
each_proper m r [] = tt
each_proper m r (p ∷ ps) = (p.1, each_proper m r ps)

level : (m : Data) (r : Region) → list_all is_interval_def m.intervals ≡ true → placewise is_narrowed m.intervals r.bounds ≡ true → (y : Expr-F (Part m r))
    → Inside (look_step m r (map-Expr (Part m r) Ends (λ p. look_hull m r p.0) y)) (look_step m r (map-Expr (Part m r) Ends (λ p. look_hull m r p.0) y))
level m r valid narrow (Lit n) = point_inside n
level m r valid narrow (StartOf x d) = at_place start_look start_proper m.intervals r.bounds valid narrow x.0 d
level m r valid narrow (EndOf x d) = at_place end_look end_proper m.intervals r.bounds valid narrow x.0 d
level m r valid narrow (SizeOf x d) = at_place size_look size_proper m.intervals r.bounds valid narrow x.0 d
level m r valid narrow (LengthOf x d) = at_place size_look size_proper m.intervals r.bounds valid narrow x.0 d
level m r valid narrow (PresenceOf x) = at_place presence_look presence_proper m.intervals r.bounds valid narrow x.0 (pos 0)
level m r valid narrow (Neg p) = negated_inside (look_hull m r p.0) (look_hull m r p.0) p.1
level m r valid narrow (Sum ps) = total_inside _ _ (each_proper m r ps)
level m r valid narrow (Product ps) = product_inside _ _ (each_proper m r ps)
level m r valid narrow (Max ps) = greatest_inside _ _ (each_proper m r ps)
level m r valid narrow (Min ps) = least_inside _ _ (each_proper m r ps)
level m r valid narrow (Compare op p q) = compare_proper op (look_hull m r p.0) (look_hull m r q.0)
level m r valid narrow (Not p) = truth_proper _ _
level m r valid narrow (And ps) = truth_proper _ _
level m r valid narrow (Or ps) = truth_proper _ _
level m r valid narrow (Implies p q) = truth_proper _ _
