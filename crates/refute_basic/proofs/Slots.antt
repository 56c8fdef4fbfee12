-- The settled slots, one by one.
use Rattle.std.specs.Prelude.{◌≡◌, ℕ, zero, suc, ◌^◌, ◌<◌, ◌≤◌, ◌-ℤ◌, Bool, false, not, ◌&&◌, List, [], ◌∷◌, None, Some, map, length, slice_get}
use Rattle.std.proofs.Common.{refl, sym, ap, subst, ◌∙◌, arith, get_or}
use Rattle.std.proofs.lemmas.List.{get_or_past}
use Rattle.std.proofs.lemmas.Option.{slice_get_past, slice_get-get_or}
use Rattle.sched_model.specs.declared.types.Constraint.{Constraint}
use Rattle.sched_model.specs.Data.{Data}
use Rattle.sched_model.specs.Sentences.{holds}
use Rattle.sched_model.specs.Valid.{IsValid}
use Rattle.region.specs.Looks.{IsRegionOf}
use Rattle.sched_base.specs.declared.ids.Itv.{Itv}
use Rattle.sched_model.specs.declared.types.Slot.{Slot}
use Rattle.sched_model.specs.declared.types.Slot.TheVariants as slot
use Rattle.sched_model.specs.Words.{is_between}
use Rattle.sched_model.specs.Value.{slot_of}
use Rattle.region.specs.declared.types.Bounds.{Bounds}
use Rattle.region.specs.declared.types.Presence.TheVariants as presence
use Rattle.region.specs.Cells.{Region, unknown, bounds_of, settled_slot}
use Rattle.region.specs.laws.Narrowing.{as_many_bounds}
use Rattle.refute_basic.specs.Leaf.{is_leaf_constraint, settled_alone, is_unsized_at, fails_at, has_size}
use Rattle.refute_basic.specs.laws.Fits.{few_of}

mapped : (bs : List Bounds) (n : ℕ) → settled_slot (get_or bs n unknown) ≡ get_or (map settled_slot bs) n slot.Absent
mapped [] n = refl
mapped (b ∷ bs) zero = refl
mapped (b ∷ bs) (suc n) = mapped bs n

pub settled_slot_of : (r : Region) (x : Itv) → settled_slot (bounds_of r x) ≡ slot_of (settled_alone r) x
settled_slot_of r x = mapped r.bounds x.0

-- the size of a present interval
pub present_size : (c : Bounds) (b : Bool) → c.presence ≡ presence.Present → b ≡ is_between c.pmin c.pmax (c.emin -ℤ c.smin) → b ≡ has_size c
present_size c b here is = rw here is

-- an interval that isn't there has no size
pub none_past : (r : Region) (u : ℕ) → length r.bounds ≤ u → false ≡ is_unsized_at r u
none_past r u past = rw (slice_get_past r.bounds u past) refl

pub one_within : (r : Region) (u : ℕ) → u < length r.bounds → not (has_size (bounds_of r (record { 0 = u }))) ≡ is_unsized_at r u
one_within r u within = rw (slice_get-get_or r.bounds u unknown within) refl

as_many : (bs : List Bounds) → length (map settled_slot bs) ≡ length bs
as_many [] = refl
as_many (b ∷ bs) = ap suc (as_many bs)

-- nor a slot
pub absent_past : (r : Region) (x : Itv) → length r.bounds ≤ x.0 → slot.Absent ≡ slot_of (settled_alone r) x
absent_past r x past = sym (get_or_past (map settled_slot r.bounds) x.0 slot.Absent (subst (λ n. n ≤ x.0) (sym (as_many r.bounds)) past))

pub few_intervals : (m : Data) (r : Region) → IsValid m → IsRegionOf m r → length r.bounds < 2 ^ 32
few_intervals m r valid of = omega (arith, (few_of m valid).0, as_many_bounds m r of)

pub few_constraints : (m : Data) → IsValid m → length m.constraints < 2 ^ 32
few_constraints m valid = omega (arith, (few_of m valid).1)

-- a constraint that is listed fails where it is found to
pub failing_at : (m : Data) (r : Region) (cs : List Constraint) (u : ℕ) (c : Constraint) (b : Bool) → cs ≡ m.constraints → slice_get cs u ≡ Some c → b ≡ (is_leaf_constraint c && not (holds m (settled_alone r) c)) → b ≡ fails_at m r u
failing_at m r cs u c b same is fails = rw (← same, is) fails

pub missing_at : (m : Data) (r : Region) (cs : List Constraint) (u : ℕ) → cs ≡ m.constraints → slice_get cs u ≡ None → false ≡ fails_at m r u
missing_at m r cs u same is = rw (← same, is) refl

pub settled_slot_at : (r : Region) (x : Itv) (c : Bounds) (s : Slot) → c ≡ bounds_of r x → s ≡ settled_slot c → s ≡ slot_of (settled_alone r) x
settled_slot_at r x c s is slot = slot ∙ ap settled_slot is ∙ settled_slot_of r x
