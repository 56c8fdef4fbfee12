-- Which names can be those of arcs that a region shows, and between which points these lie.
use Rattle.std.specs.Prelude.{◌≡◌, ◌⊎◌, ℕ, zero, suc, ◌*◌, ◌<◌, ℤ, pos, ◌-ℤ◌, Bool, true, false, ◌&&◌, List, [], ◌∷◌, length, Option, Some, None, option_and_then, slice_get, if◌then◌else◌, nat_eq}
use Rattle.std.proofs.Common.{inl, inr, refl, sym, ap, subst, ◌∙◌, arith}
use Rattle.std.proofs.lemmas.Bool.Decides.{nat_tests}
use Rattle.sched_base.specs.declared.ids.Itv.{Itv}
use Rattle.sched_model.specs.declared.types.End.{End}
use Rattle.sched_model.specs.declared.types.End.TheVariants.{Start, Finish}
use Rattle.sched_model.specs.declared.types.Constraint.{Constraint}
use Rattle.sched_model.specs.declared.types.Constraint.TheVariants.{Temporal, NoOverlap}
use Rattle.sched_model.specs.Data.{Data, gap, has}
use Rattle.region.specs.Cells.{Region, bounds_of, cells_of, is_there}
use Rattle.region.specs.Looks.{IsRegionOf}
use Rattle.region.specs.laws.Lists.{both_true}
use Rattle.region.specs.laws.Narrowing.{members_are}
use Rattle.refute_basic.specs.declared.edge.Arc.{Arc as Edge}
use Rattle.refute_basic.specs.declared.arc_name.ArcName.{ArcName}
use Rattle.refute_basic.specs.Standing.{precedes, stand}
use Rattle.refute_basic.specs.Cycle.{point, edge, edge_if, itv, forth, back, along, edge_of}
use Rattle.refute_basic.specs.laws.Told.{AreTold, told, AreMembers, told_members}
use Rattle.refute_seq.specs.laws.Ordered.{one_way}
use Rattle.region.specs.laws.Present.{there_within}
use Rattle.prop_temporal.specs.code.Members.{members_at}
use Rattle.prop_temporal.specs.code.Shown.{name, member_name, this_of, other_of, OfConstraint, IsTried}
use Rattle.refute_basic.specs.laws.Cycle.{no_edge, chosen}

-- a point of an interval that is present
pub record IsPointOf (r : Region) (p : ℕ) : Type 0 where
  pub end : End
  pub of : Itv
  pub is : p ≡ point end of
  pub there : is_there r of ≡ true

pub record HasEnds (r : Region) (e : Edge) : Type 0 where
  pub tail : IsPointOf r e.tail
  pub head : IsPointOf r e.head

-- the name of one of the two arcs of a precedence, of an arc of sizes, or of one of two members
pub record OfPrecedence (m : Data) (i : ArcName) : Type 0 where
  pub kind : i.kind ≡ 0
  pub within : i.x < length m.constraints
  pub way : (i.y ≡ 0) ⊎ (i.y ≡ 1)
  pub last : i.z ≡ 0

pub record OfSize (r : Region) (i : ArcName) : Type 0 where
  pub kind : (i.kind ≡ 1) ⊎ (i.kind ≡ 2)
  pub within : i.x < length r.bounds
  pub second : i.y ≡ 0
  pub last : i.z ≡ 0

pub record OfOrder (m : Data) (i : ArcName) : Type 0 where
  pub kind : i.kind ≡ 3
  pub within : i.x < length m.constraints

pub record IsNamed (m : Data) (r : Region) (i : ArcName) (e : Edge) : Type 0 where
  pub of : OfPrecedence m i ⊎ OfSize r i ⊎ OfOrder m i
  pub ends : HasEnds r e

point_below : (end : End) (x : Itv) (n : ℕ) → x.0 < n → point end x < 2 * n
point_below Start x n h = omega (arith, h)
point_below Finish x n h = omega (arith, h)

pub point_within : (r : Region) (p : ℕ) → IsPointOf r p → p < 2 * length r.bounds
point_within r p of = subst (λ (k : ℕ). k < 2 * length r.bounds) (sym of.is) (point_below of.end of.of (length r.bounds) (there_within r of.of of.there))

either : {Z : Type 0} (a k : ℕ) (x y : Option Edge) (e : Edge) → (a ≡ k → x ≡ Some e → Z) → (y ≡ Some e → Z) → (if nat_eq a k then x else y) ≡ Some e → Z
either {Z = Z} a k x y e f g h = by_case (nat_eq a k) refl h
  where
    by_case : (b : Bool) → nat_eq a k ≡ b → (if b then x else y) ≡ Some e → Z
    by_case true is h = f (grind (arith, nat_tests)) h
    by_case false is h = g h

ends_of : (r : Region) (from to : End) (x y : Itv) (z : ℤ) (e : Edge) → is_there r x ≡ true → is_there r y ≡ true → e ≡ edge from x z to y → HasEnds r e
ends_of r from to x y z e hx hy is = record {
  tail = record { end = from; of = x; is = ap (λ (d : Edge). d.tail) is; there = hx };
  head = record { end = to; of = y; is = ap (λ (d : Edge). d.head) is; there = hy };
}

forth_ends : (r : Region) (c : Constraint) (e : Edge) → forth r c ≡ Some e → HasEnds r e
forth_ends r (Temporal from to equal a b z) e h =
    let two = chosen (is_there r a && is_there r b) (edge from a z to b) e h in
    let shown = both_true (is_there r a) (is_there r b) two.0 in
    ends_of r from to a b z e shown.0 shown.1 two.1
forth_ends r c e h = no_edge e h

back_ends : (r : Region) (c : Constraint) (e : Edge) → back r c ≡ Some e → HasEnds r e
back_ends r (Temporal from to equal a b z) e h =
    let two = chosen (equal && is_there r a && is_there r b) (edge to b (pos 0 -ℤ z) from a) e h in
    let three = both_true (equal && is_there r a) (is_there r b) two.0 in
    ends_of r to from b a (pos 0 -ℤ z) e three.1 (both_true equal (is_there r a) three.0).1 two.1
back_ends r c e h = no_edge e h

along_ends : (m : Data) (r : Region) (x y : Itv) (c : Constraint) (e : Edge) → along m r x y c ≡ Some e → HasEnds r e
along_ends m r x y (NoOverlap p matrix direct) e h =
    let weight = if direct then pos 0 else gap m p matrix x y in
    let two = chosen (stand r p x y) (edge Finish x weight Start y) e h in
    let t : AreTold r p x y = told r p x y two.0 in
    ends_of r Finish Start x y weight e t.first t.second two.1
along_ends m r x y c e h = no_edge e h

at_place : (f : Constraint → Option Edge) (r : Region) (e : Edge) → ((c : Constraint) → f c ≡ Some e → HasEnds r e) → (cs : List Constraint) (k : ℕ) → option_and_then f (slice_get cs k) ≡ Some e → (k < length cs) × HasEnds r e
at_place f r e one [] k h = cc
at_place f r e one (c ∷ cs) zero h = (omega arith, one c h)
at_place f r e one (c ∷ cs) (suc k) h = let rest = at_place f r e one cs k h in (omega (arith, rest.0), rest.1)

pub named : (m : Data) (r : Region) (i : ArcName) (e : Edge) → edge_of m r i ≡ Some e → IsNamed m r i e
named m r i e = either i.kind 3 _ _ e
    (λ k h. let w = at_place (along m r (itv i.y) (itv i.z)) r e (λ c. along_ends m r (itv i.y) (itv i.z) c e) m.constraints i.x h in record { of = inr (inr (record { kind = k; within = w.0 })); ends = w.1 })
    (either i.z 0 _ _ e
    (λ z. either i.kind 0 _ _ e
    (λ k. either i.y 0 _ _ e
    (λ y h. let w = at_place (forth r) r e (λ c. forth_ends r c e) m.constraints i.x h in record { of = inl (record { kind = k; within = w.0; way = inl y; last = z }); ends = w.1 })
    (either i.y 1 _ _ e
    (λ y h. let w = at_place (back r) r e (λ c. back_ends r c e) m.constraints i.x h in record { of = inl (record { kind = k; within = w.0; way = inr y; last = z }); ends = w.1 })
    (no_edge e)))
    (either i.y 0 _ _ e
    (λ y. either i.kind 1 _ _ e
    (λ k h. by_size (edge Start (itv i.x) (bounds_of r (itv i.x)).pmin Finish (itv i.x)) Start Finish (bounds_of r (itv i.x)).pmin z y (inl k) refl h)
    (either i.kind 2 _ _ e
    (λ k h. by_size (edge Finish (itv i.x) (pos 0 -ℤ (bounds_of r (itv i.x)).pmax) Start (itv i.x)) Finish Start (pos 0 -ℤ (bounds_of r (itv i.x)).pmax) z y (inr k) refl h)
    (no_edge e)))
    (no_edge e)))
    (no_edge e))
  where
    by_size : (d : Edge) (from to : End) (w : ℤ) → i.z ≡ 0 → i.y ≡ 0 → ((i.kind ≡ 1) ⊎ (i.kind ≡ 2)) → d ≡ edge from (itv i.x) w to (itv i.x) → edge_if (is_there r (itv i.x)) d ≡ Some e → IsNamed m r i e
    by_size d from to w z y k is h =
        let two = chosen (is_there r (itv i.x)) d e h in
        record { of = inr (inl (record { kind = k; within = there_within r (itv i.x) two.0; second = y; last = z })); ends = ends_of r from to (itv i.x) (itv i.x) w e two.0 two.0 (two.1 ∙ is) }

-- a size is of no constraint
pub no_constraint : (i : ArcName) → (i.kind ≡ 1) ⊎ (i.kind ≡ 2) → OfConstraint i → ⊥
no_constraint i kind of = elim kind [
  | inl k ↦ elim of [ inl h ↦ absurd (omega (arith, k, h)) | inr h ↦ absurd (omega (arith, k, h)) ]
  | inr k ↦ elim of [ inl h ↦ absurd (omega (arith, k, h)) | inr h ↦ absurd (omega (arith, k, h)) ]
]

pub tried_all : (m : Data) (r : Region) (i : ArcName) (e : Edge) → edge_of m r i ≡ Some e → IsTried (length m.constraints) (length r.bounds) i
tried_all m r i e h = elim ((named m r i e h).of) [
  | inl w ↦ inl (inl w.kind, w.within)
  | inr (inl w) ↦ inr (no_constraint i w.kind, w.within)
  | inr (inr w) ↦ inl (inr w.kind, w.within)
]

-- the two intervals of an arc of members are such, and present, and two
pub record AreOrdered (m : Data) (r : Region) (i : ArcName) : Type 0 where
  pub present : is_there r (itv i.y) ≡ true
  pub also : is_there r (itv i.z) ≡ true
  pub apart : i.y ≡ i.z → ⊥
  pub first : has (members_at m (slice_get m.constraints i.x)) (itv i.y) ≡ true
  pub second : has (members_at m (slice_get m.constraints i.x)) (itv i.z) ≡ true

pub ordered : (m : Data) (r : Region) (i : ArcName) (e : Edge) → IsRegionOf m r → i.kind ≡ 3 → edge_of m r i ≡ Some e → AreOrdered m r i
ordered m r i e of kind h = by_constraint (slice_get m.constraints i.x) refl (picked (nat_eq i.kind 3) _ _ (same i.kind kind) h)
  where
    same : (n : ℕ) → n ≡ 3 → nat_eq n 3 ≡ true
    same n is = grind (arith, nat_tests)

    picked : (b : Bool) (x y : Option Edge) → b ≡ true → (if b then x else y) ≡ Some e → x ≡ Some e
    picked true x y is h = h
    picked false x y is h = cc

    by_constraint : (o : Option Constraint) → slice_get m.constraints i.x ≡ o → option_and_then (along m r (itv i.y) (itv i.z)) o ≡ Some e → AreOrdered m r i
    by_constraint None at h = no_edge e h
    by_constraint (Some (NoOverlap p matrix direct)) at h =
        let two = chosen (stand r p (itv i.y) (itv i.z)) (edge Finish (itv i.y) (if direct then pos 0 else gap m p matrix (itv i.y) (itv i.z)) Start (itv i.z)) e h in
        let t : AreTold r p (itv i.y) (itv i.z) = told r p (itv i.y) (itv i.z) two.0 in
        let ms : AreMembers r p (itv i.y) (itv i.z) = told_members m r p (itv i.y) (itv i.z) of t.order in
        record {
          present = t.first;
          also = t.second;
          apart = λ is. let itself = subst (λ n. precedes r p (itv i.y) (itv n) ≡ true) (sym is) t.order in one_way (cells_of r p) (itv i.y) (itv i.y) itself itself;
          first = ap (λ o. has (members_at m o) (itv i.y)) at ∙ subst (λ xs. has xs (itv i.y) ≡ true) (members_are m r p of) ms.first;
          second = ap (λ o. has (members_at m o) (itv i.z)) at ∙ subst (λ xs. has xs (itv i.z) ≡ true) (members_are m r p of) ms.second;
        }
    by_constraint (Some c) at h = no_edge e h

pub same_name : (i : ArcName) (kind x y : ℕ) → i.kind ≡ kind → i.x ≡ x → i.y ≡ y → i.z ≡ 0 → i ≡ name kind x y
same_name i kind x y a b c d = rw (← a, ← b, ← c, ← d) refl

pub same_member : (behind : Bool) (i : ArcName) (u x y : ℕ) → i.kind ≡ 3 → i.x ≡ u → this_of behind i ≡ x → other_of behind i ≡ y → i ≡ member_name behind u x y
same_member true i u x y a b c d = rw (← a, ← b, ← c, ← d) refl
same_member false i u x y a b c d = rw (← a, ← b, ← c, ← d) refl
