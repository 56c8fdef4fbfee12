-- The capacities of a model, gathered, and what each says.
use Rattle.std.specs.Prelude.{◌≡◌, ℕ, zero, suc, ◌+◌, ◌<◌, ◌≤◌, ℤ, pos, Bool, true, false, ◌&&◌, ◌++◌, if◌then◌else◌, List, [], ◌∷◌, length, drop, Option, Some, None, slice_get, int_le, nat_lt}
use Rattle.std.specs.List.{Contains}
use Rattle.std.proofs.Common.{refl, sym, ap, ◌∙◌, subst, arith, get_or}
use Rattle.std.proofs.lemmas.Int.{ints}
use Rattle.std.proofs.lemmas.Bool.{and_parts}
use Rattle.std.proofs.lemmas.List.{append_assoc, append-nil, at_drop_all, at_drop_more}
use Rattle.std.proofs.lemmas.Option.{slice_get_within, get_or_from_slice_get}
use Rattle.sched_base.specs.declared.ids.Cum.{Cum}
use Rattle.sched_model.specs.declared.types.Window.TheVariants as window
use Rattle.sched_model.specs.declared.types.Constraint.{Constraint}
use Rattle.sched_model.specs.declared.types.Constraint.TheVariants as constraint
use Rattle.sched_model.specs.Bounds.{is_small}
use Rattle.sched_model.specs.Data.{Data, parts_of}
use Rattle.sched_model.specs.Valid.{IsValid, is_constraint, is_window}
use Rattle.sched_model.specs.laws.Limits.{limits_of}
use Rattle.region.specs.Cells.{Region}
use Rattle.region.specs.laws.Lists.{all-at}
use Rattle.refute_energy.specs.Energy.{is_capacity, overflows, energy_of}
use Rattle.envelope.specs.code.Bars.{IsCapacity}
use Rattle.prop_energy.specs.declared.bounds.Bound.{Bound}
use Rattle.prop_energy.specs.code.Bounds.{bound_of, with_bound, bounds_from, IsBoundIn}

pub few_constraints : (m : Data) → IsValid m → length m.constraints ≤ 20000
few_constraints m valid = (limits_of m valid.limits).constraints

-- the loop that gathers them
pub one_pushed : (m : Data) (cs : List Constraint) (bounds : List Bound) (n : ℕ) (d : Constraint) (b : Bound) → n < length cs → bound_of m n (get_or cs n d) ≡ Some b → (bounds ++ bounds_from m n (drop n cs)) ≡ bounds_from m 0 cs
    → ((bounds ++ b ∷ []) ++ bounds_from m (n + 1) (drop (n + 1) cs)) ≡ bounds_from m 0 cs
one_pushed m cs bounds n d b within is before =
    append_assoc bounds (b ∷ []) (bounds_from m (n + 1) (drop (n + 1) cs))
    ∙ ap (λ k. bounds ++ b ∷ bounds_from m k (drop (n + 1) cs)) (next n)
    ∙ sym (ap (λ o. bounds ++ with_bound o (bounds_from m (suc n) (drop (n + 1) cs))) is)
    ∙ sym (at_drop_more (λ ds. bounds ++ bounds_from m n ds) cs n d within) ∙ before
  where
    next : (n : ℕ) → n + 1 ≡ suc n
    next n = omega arith

pub one_passed : (m : Data) (cs : List Constraint) (bounds : List Bound) (n : ℕ) (d : Constraint) → n < length cs → bound_of m n (get_or cs n d) ≡ None → (bounds ++ bounds_from m n (drop n cs)) ≡ bounds_from m 0 cs
    → (bounds ++ bounds_from m (n + 1) (drop (n + 1) cs)) ≡ bounds_from m 0 cs
one_passed m cs bounds n d within is before =
    ap (λ k. bounds ++ bounds_from m k (drop (n + 1) cs)) (next n)
    ∙ sym (ap (λ o. bounds ++ with_bound o (bounds_from m (suc n) (drop (n + 1) cs))) is)
    ∙ sym (at_drop_more (λ ds. bounds ++ bounds_from m n ds) cs n d within) ∙ before
  where
    next : (n : ℕ) → n + 1 ≡ suc n
    next n = omega arith

pub all_gathered : (m : Data) (cs : List Constraint) (bounds : List Bound) (n : ℕ) → length cs ≤ n → (bounds ++ bounds_from m n (drop n cs)) ≡ bounds_from m 0 cs → bounds ≡ bounds_from m 0 cs
all_gathered m cs bounds n all before = sym (append-nil bounds) ∙ sym (at_drop_all (λ ds. bounds ++ bounds_from m n ds) cs n all) ∙ before

-- the constraint of a bound
pub record OfBound (m : Data) (c : ℕ) (d : Constraint) (b : Bound) : Type 0 where
  pub f : Cum
  pub lo : ℤ
  pub hi : ℤ
  pub is : d ≡ constraint.CumulIn f window.Always lo hi
  pub capacity : is_capacity hi (parts_of m f) ≡ true
  pub made : b ≡ record { c = c; f = f; hi = hi }

taken : (t : Bool) (x b : Bound) → (if t then Some x else None) ≡ Some b → (t ≡ true) × (b ≡ x)
taken true x b h = (refl, cc)
taken false x b h = cc

pub of_bound : (m : Data) (c : ℕ) (d : Constraint) (b : Bound) → bound_of m c d ≡ Some b → OfBound m c d b
of_bound m c (constraint.CumulIn f window.Always lo hi) b h =
    let two = taken (is_capacity hi (parts_of m f)) (record { c = c; f = f; hi = hi }) b h in record { f = f; lo = lo; hi = hi; is = refl; capacity = two.0; made = two.1 }
of_bound m c (constraint.CumulIn f (window.Moments u v) lo hi) b h = cc
of_bound m c (constraint.CumulIn f (window.During x) lo hi) b h = cc
of_bound m c other b h = cc

-- each constraint of which a set can be above its capacity has one
pub has_bound : (m : Data) (c : ℕ) (r : Region) (s : List ℕ) (d : Constraint) → energy_of m r s d ≡ true → (b : Bound) × (bound_of m c d ≡ Some b)
has_bound m c r s (constraint.CumulIn f window.Always lo hi) h =
    (record { c = c; f = f; hi = hi }, ap (λ t. if t then Some (record { c = c; f = f; hi = hi }) else None) (and_parts (is_capacity hi (parts_of m f)) (overflows r (parts_of m f) hi s) h).0)
has_bound m c r s (constraint.CumulIn f (window.Moments u v) lo hi) h = cc
has_bound m c r s (constraint.CumulIn f (window.During x) lo hi) h = cc
has_bound m c r s other h = cc

-- a bound in the list is that of its constraint
record IsFrom (m : Data) (c : ℕ) (ds : List Constraint) (b : Bound) : Type 0 where
  place : ℕ
  item : Constraint
  there : slice_get ds place ≡ Some item
  number : b.c ≡ c + place
  bound : bound_of m b.c item ≡ Some b

from_list : (m : Data) (ds : List Constraint) (c j : ℕ) (e : Bound) → j < length (bounds_from m c ds) → IsFrom m c ds (get_or (bounds_from m c ds) j e)
from_list m [] c j e within = absurd (omega (arith, within))
from_list m (d ∷ ds) c j e within = by_bound (bound_of m c d) refl j (λ i h. later (get_or (bounds_from m (suc c) ds) i e) (from_list m ds (suc c) i e h)) within
  where
    later : (b : Bound) → IsFrom m (suc c) ds b → IsFrom m c (d ∷ ds) b
    later b h = let at = h.number in record { place = suc h.place; item = h.item; there = h.there; number = omega (arith, at); bound = h.bound }

    by_bound : (o : Option Bound) → bound_of m c d ≡ o → (j : ℕ) → ((i : ℕ) → i < length (bounds_from m (suc c) ds) → IsFrom m c (d ∷ ds) (get_or (bounds_from m (suc c) ds) i e))
        → j < length (with_bound o (bounds_from m (suc c) ds)) → IsFrom m c (d ∷ ds) (get_or (with_bound o (bounds_from m (suc c) ds)) j e)
    by_bound None is j rest h = rest j h
    by_bound (Some b) is zero rest h =
        let at : b.c ≡ c = ap (λ (x : Bound). x.c) (of_bound m c d b is).made in
        record { place = 0; item = d; there = refl; number = omega (arith, at); bound = ap (λ k. bound_of m k d) at ∙ is }
    by_bound (Some b) is (suc j) rest h = rest j (omega (arith, h))

pub bound_at : (m : Data) (bounds : List Bound) (k : ℕ) (d : Bound) → bounds ≡ bounds_from m 0 m.constraints → k < length bounds → IsBoundIn m (get_or bounds k d)
bound_at m bounds k d are within =
    let f : IsFrom m 0 m.constraints (get_or bounds k d) = subst (λ (bs : List Bound). IsFrom m 0 m.constraints (get_or bs k d)) (sym are) (from_list m m.constraints 0 k d (subst (λ (bs : List Bound). k < length bs) are within)) in
    let at : (get_or bounds k d).c ≡ f.place = let n = f.number in omega (arith, n) in
    record { constraint = f.item; there = ap (slice_get m.constraints) at ∙ f.there; bound = f.bound }

-- and all of them are in the list
listed : (m : Data) (ds : List Constraint) (c i : ℕ) (d : Constraint) (b : Bound) → slice_get ds i ≡ Some d → bound_of m (c + i) d ≡ Some b → Contains (bounds_from m c ds) b
listed m [] c i d b there is = cc
listed m (x ∷ ds) c zero d b there is =
    let same : x ≡ d = cc in
    let first : bound_of m c x ≡ Some b = ap (bound_of m c) same ∙ ap (λ k. bound_of m k d) (plain c) ∙ is in
    subst (λ o. Contains (with_bound o (bounds_from m (suc c) ds)) b) (sym first) (0, omega arith, refl)
  where
    plain : (c : ℕ) → c ≡ c + 0
    plain c = omega arith
listed m (x ∷ ds) c (suc i) d b there is = behind (bound_of m c x) (listed m ds (suc c) i d b there (ap (λ k. bound_of m k d) (next c i) ∙ is))
  where
    next : (c i : ℕ) → suc c + i ≡ c + suc i
    next c i = omega arith

    behind : (o : Option Bound) → Contains (bounds_from m (suc c) ds) b → Contains (with_bound o (bounds_from m (suc c) ds)) b
    behind None h = h
    behind (Some y) h = (suc h.0, omega (arith, h.1), h.2)

pub in_list : (m : Data) (c : ℕ) (d : Constraint) (b : Bound) → slice_get m.constraints c ≡ Some d → bound_of m c d ≡ Some b → Contains (bounds_from m 0 m.constraints) b
in_list m c d b there is = listed m m.constraints 0 c d b there (ap (λ k. bound_of m k d) (same c) ∙ is)
  where
    same : (c : ℕ) → 0 + c ≡ c
    same c = omega arith

-- what a bound says
pub record IsBound (m : Data) (d : Constraint) (b : Bound) : Type 0 where
  pub capacity : IsCapacity b.hi
  pub row : (r : Region) (s : List ℕ) → energy_of m r s d ≡ overflows r (parts_of m b.f) b.hi s

in_range : (z : ℤ) → int_le (pos 0) z ≡ true → is_small z ≡ true → IsCapacity z
in_range z low high = (grind (arith, ints, low), grind (arith, ints, high))

plain_bound : (m : Data) (c : ℕ) (f : Cum) (lo hi : ℤ) → is_constraint m (constraint.CumulIn f window.Always lo hi) ≡ true → is_capacity hi (parts_of m f) ≡ true → IsBound m (constraint.CumulIn f window.Always lo hi) (record { c = c; f = f; hi = hi })
plain_bound m c f lo hi valid one = record {
  capacity = in_range hi (and_parts (int_le (pos 0) hi) _ one).0 (and_parts (nat_lt f.0 (length m.cumuls) && is_window m window.Always && is_small lo) (is_small hi) (and_parts _ (int_le lo hi) valid).0).1;
  row = λ r s. ap (λ b. b && overflows r (parts_of m f) hi s) one;
}

pub is_bound : (m : Data) (b : Bound) (of : IsBoundIn m b) → IsValid m → IsBound m of.constraint b
is_bound m b of valid =
    let o = of_bound m b.c of.constraint b of.bound in
    let ok : is_constraint m of.constraint ≡ true = subst (λ d. is_constraint m d ≡ true) (get_or_from_slice_get m.constraints b.c of.constraint of.constraint of.there)
    (all-at (is_constraint m) m.constraints b.c of.constraint valid.constraints (slice_get_within m.constraints b.c of.constraint of.there)) in
    subst (λ d. IsBound m d b) (sym o.is) (subst (IsBound m (constraint.CumulIn o.f window.Always o.lo o.hi)) (sym o.made)
    (plain_bound m b.c o.f o.lo o.hi (subst (λ d. is_constraint m d ≡ true) o.is ok) o.capacity))

pub capacity_of : (m : Data) (b : Bound) → IsBoundIn m b → IsValid m → IsCapacity b.hi
capacity_of m b of valid = (is_bound m b of valid).capacity
