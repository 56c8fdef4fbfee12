-- A constraint of a valid model has few parts, and none of them twice.
use Rattle.std.specs.Prelude.{◌≡◌, ℕ, ◌<◌, ◌^◌, pos, true, false, not, ◌&&◌, List, [], ◌∷◌, map, length, Some, slice_get, nat_eq, nat_lt, int_le}
use Rattle.std.specs.List.{list_any, list_all, IsDistinct, AllByRecursion}
use Rattle.std.proofs.Common.{inl, inr, refl, sym, ap, ◌∙◌, arith}
use Rattle.std.proofs.lemmas.Bool.{not-true}
use Rattle.std.proofs.lemmas.Bool.Decides.{nat_tests}
use Rattle.std.proofs.lemmas.List.{length-map}
use Rattle.std.proofs.lemmas.Map.Steps.{length-le_from_distinct_below}
use Rattle.std.proofs.lemmas.Option.{slice_get_within}
use Rattle.sched_base.specs.declared.ids.Itv.{Itv}
use Rattle.sched_model.specs.declared.types.Constraint.{Constraint}
use Rattle.sched_model.specs.Data.{Data, same}
use Rattle.sched_model.specs.Bounds.{is_small}
use Rattle.sched_model.specs.Valid.{IsValid, is_itv, is_constraint, are_parts, are_distinct}
use Rattle.sched_model.specs.laws.Limits.{limits_of}
use Rattle.sched_model.specs.laws.Listed.{valid_at}
use Rattle.region.specs.laws.Lists.{both_true}
use Rattle.region.specs.laws.OneSequence.{has_cases}
use Rattle.region.specs.laws.Found.{never}
use Rattle.refute_hier.specs.declared.family.Kind.{Kind}
use Rattle.refute_hier.specs.declared.family.Kind.TheVariants.{Span, Alternative, Synchronize}
use Rattle.refute_hier.specs.code.Rows.{as_constraint}
use Rattle.refute_hier.specs.laws.Rows.{AreNumbered}

-- constraint c is one on an interval and its parts
pub record IsFamily (m : Data) (c : ℕ) (kind : Kind) (a : Itv) (bs : List Itv) : Type 0 where
  pub is : slice_get m.constraints c ≡ Some (as_constraint kind a bs)
  pub few : AreNumbered bs c
  pub distinct : are_distinct bs ≡ true

abbrev number : Itv → ℕ
number x = x.0

all_apart : (x : Itv) (ys : List Itv) → list_all (λ y. not (same x y)) ys ≡ true → AllByRecursion (λ n. nat_eq x.0 n ≡ false) (map number ys)
all_apart x [] h = tt
all_apart x (y ∷ ys) h = let two = both_true (not (same x y)) (list_all (λ z. not (same x z)) ys) h in (not-true (same x y) two.0, all_apart x ys two.1)

distinct_numbers : (xs : List Itv) → are_distinct xs ≡ true → IsDistinct nat_eq (map number xs)
unfolding IsDistinct
distinct_numbers [] h = tt
distinct_numbers (x ∷ xs) h = let two = both_true (list_all (λ y. not (same x y)) xs) (are_distinct xs) h in (all_apart x xs two.0, distinct_numbers xs two.1)

below : (q k n : ℕ) → nat_eq q k ≡ true → nat_lt k n ≡ true → q < n
below q k n h i = grind (arith, nat_tests)

each_below : (m : Data) (xs : List Itv) → list_all (is_itv m) xs ≡ true → (q : ℕ) → list_any (nat_eq q) (map number xs) ≡ true → q < length m.intervals
each_below m [] all q h = never h
each_below m (x ∷ xs) all q h =
    let two = both_true (is_itv m x) (list_all (is_itv m) xs) all in elim (has_cases (nat_eq q x.0) (list_any (nat_eq q) (map number xs)) h) [
      | inl here ↦ below q x.0 (length m.intervals) here two.0
      | inr later ↦ each_below m xs two.1 q later
    ]

few_parts : (m : Data) (xs : List Itv) → IsValid m → are_parts m xs ≡ true → length xs < 2 ^ 32
few_parts m xs valid h =
    let two = both_true (list_all (is_itv m) xs) (are_distinct xs) h in
    let n = length-le_from_distinct_below (map number xs) (length m.intervals) (distinct_numbers xs two.1) (each_below m xs two.0) in
    let same_length : length (map number xs) ≡ length xs = length-map xs number in
    let few = (limits_of m valid.limits).intervals in
    omega (arith, n, same_length, few)

-- the interval and the parts are the model's
pub family_named : (m : Data) (kind : Kind) (a : Itv) (bs : List Itv) → is_constraint m (as_constraint kind a bs) ≡ true → (is_itv m a && are_parts m bs) ≡ true
family_named m Span a bs h = h
family_named m (Alternative n) a bs h = (both_true (is_itv m a && are_parts m bs) (is_small n) (both_true (is_itv m a && are_parts m bs && is_small n) (int_le (pos 0) n) h).0).0
family_named m Synchronize a bs h = h

pub is_one : (m : Data) (c : ℕ) (kind : Kind) (a : Itv) (bs : List Itv) → IsValid m → slice_get m.constraints c ≡ Some (as_constraint kind a bs) → IsFamily m c kind a bs
is_one m c kind a bs valid is =
    let parts = (both_true (is_itv m a) (are_parts m bs) (family_named m kind a bs (valid_at m m.constraints c (as_constraint kind a bs) valid refl is))).1 in
    let within = slice_get_within m.constraints c (as_constraint kind a bs) is in
    let few = (limits_of m valid.limits).constraints in
    record { is = is; few = record { constraint = omega (arith, within, few); parts = few_parts m bs valid parts }; distinct = (both_true _ (are_distinct bs) parts).1 }

-- so it is where it is read from the list
pub listed : (m : Data) (cs : List Constraint) (c : ℕ) (d : Constraint) (kind : Kind) (a : Itv) (bs : List Itv) → IsValid m → cs ≡ m.constraints → Some d ≡ slice_get cs c → d ≡ as_constraint kind a bs → IsFamily m c kind a bs
listed m cs c d kind a bs valid same at is = is_one m c kind a bs valid (ap (λ ds. slice_get ds c) (sym same) ∙ sym at ∙ ap Some is)
