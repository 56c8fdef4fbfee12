-- With one interval more, no other arcs are shown than its own, and heights of its two points show that no walk gains.
use Rattle.std.specs.Prelude.{◌≡◌, ℕ, ◌+◌, ◌*◌, ◌<◌, ℤ, ◌+ℤ◌, ◌≤ℤ◌, Bool, true, false, List, [], ◌++◌, ◌⊎◌, length, get_or, Option, Some, None, option_and_then, slice_get, nat_eq, nat_lt}
use Rattle.std.proofs.Common.{inl, inr, refl, sym, ap, ◌∙◌, arith}
use Rattle.std.proofs.lemmas.Bool.{true≢false, or_left, or_right}
use Rattle.std.proofs.lemmas.List.Folds.{list_any-append}
use Rattle.std.proofs.lemmas.Bool.Decides.{nat_tests}
use Rattle.sched_base.specs.declared.ids.Itv.{Itv}
use Rattle.sched_model.specs.declared.types.End.{End}
use Rattle.sched_model.specs.declared.types.End.TheVariants.{Start, Finish}
use Rattle.sched_model.specs.declared.types.Constraint.{Constraint}
use Rattle.sched_model.specs.declared.types.Constraint.TheVariants.{Temporal, NoOverlap}
use Rattle.sched_model.specs.Data.{Data, has, same}
use Rattle.region.specs.declared.types.Presence.{Presence}
use Rattle.region.specs.declared.types.Presence.TheVariants as presence
use Rattle.region.specs.declared.types.Bounds.{Bounds}
use Rattle.region.specs.declared.types.Guess.TheVariants.{Present}
use Rattle.region.specs.Claims.{as_present}
use Rattle.region.specs.Cells.{Region, bounds_of, is_there, says_present, says_maybe}
use Rattle.region.specs.Guesses.{admits, with_bounds, with_guess}
use Rattle.region.specs.Looks.{IsRegionOf, seen_at}
use Rattle.region.specs.laws.Intervals.{bounds_elsewhere}
use Rattle.region.specs.laws.Lists.{both_true}
use Rattle.region.specs.laws.Narrowing.{as_many_bounds, guess_stays}
use Rattle.refute_basic.specs.declared.edge.Arc.{Arc as Edge}
use Rattle.refute_basic.specs.declared.arc_name.ArcName.{ArcName}
use Rattle.refute_basic.specs.Cycle.{point, itv, forth, back, longer, shorter, along, edge_of}
use Rattle.refute_basic.specs.laws.Arc.{ends_of}
use Rattle.refute_basic.specs.laws.Walks.{AllLose}
use Rattle.prop_temporal.specs.code.Members.{members_at}
use Rattle.prop_temporal.specs.code.Shown.{OfConstraint}
use Rattle.prop_temporal.specs.code.Heights.{height_in, height_with, AreTouched, OwnKeep}
use Rattle.prop_temporal.specs.laws.Named.{named, ordered, IsPointOf}
use Rattle.prop_temporal.specs.laws.Collecting.{lose_refute_none}
use Rattle.prop_temporal.specs.laws.Quieting.{NoWalk}
use Rattle.base_laws.specs.laws.Truth.{neither_alone}
use Rattle.base_laws.specs.laws.Numbers.{other_number}
use Rattle.sched_model.specs.laws.Members.{same_not}

abbrev more : Itv → Region → Region
more x r = with_bounds x as_present r

there_elsewhere : (x y : Itv) (r : Region) → (y.0 ≡ x.0 → ⊥) → is_there (more x r) y ≡ is_there r y
there_elsewhere x y r off = ap (λ (c : Bounds). says_present c.presence) (bounds_elsewhere x y as_present r off)

forth_elsewhere : (x : Itv) (r : Region) (c : Constraint) → has (ends_of (Some c)) x ≡ false → forth (more x r) c ≡ forth r c
forth_elsewhere x r (Temporal from to equal a b z) h =
    let two = neither_alone (same x a) (same x b) h in
    rw (there_elsewhere x a r (λ e. same_not x a two.0 (sym e)), there_elsewhere x b r (λ e. same_not x b two.1 (sym e))) refl
forth_elsewhere x r other h = refl

back_elsewhere : (x : Itv) (r : Region) (c : Constraint) → has (ends_of (Some c)) x ≡ false → back (more x r) c ≡ back r c
back_elsewhere x r (Temporal from to equal a b z) h =
    let two = neither_alone (same x a) (same x b) h in
    rw (there_elsewhere x a r (λ e. same_not x a two.0 (sym e)), there_elsewhere x b r (λ e. same_not x b two.1 (sym e))) refl
back_elsewhere x r other h = refl

at_option : (f g : Constraint → Option Edge) (x : Itv) → ((c : Constraint) → has (ends_of (Some c)) x ≡ false → f c ≡ g c) → (o : Option Constraint) → has (ends_of o) x ≡ false → option_and_then f o ≡ option_and_then g o
at_option f g x same None h = refl
at_option f g x same (Some c) h = same c h

longer_elsewhere : (x y : Itv) (r : Region) → (y.0 ≡ x.0 → ⊥) → longer (more x r) y ≡ longer r y
longer_elsewhere x y r off = rw (bounds_elsewhere x y as_present r off) refl

shorter_elsewhere : (x y : Itv) (r : Region) → (y.0 ≡ x.0 → ⊥) → shorter (more x r) y ≡ shorter r y
shorter_elsewhere x y r off = rw (bounds_elsewhere x y as_present r off) refl

along_elsewhere : (m : Data) (x y z : Itv) (r : Region) (c : Constraint) → (y.0 ≡ x.0 → ⊥) → (z.0 ≡ x.0 → ⊥) → along m (more x r) y z c ≡ along m r y z c
along_elsewhere m x y z r (NoOverlap p matrix direct) off out = rw (there_elsewhere x y r off, there_elsewhere x z r out) refl
along_elsewhere m x y z r other off out = refl

order_elsewhere : (m : Data) (x : Itv) (r : Region) (i : ArcName) → nat_eq i.kind 3 ≡ true → (i.y ≡ x.0 → ⊥) → (i.z ≡ x.0 → ⊥) → edge_of m (more x r) i ≡ edge_of m r i
order_elsewhere m x r i kind off out = rw (kind, of_option (slice_get m.constraints i.x)) refl
  where
    of_option : (o : Option Constraint) → option_and_then (along m (more x r) (itv i.y) (itv i.z)) o ≡ option_and_then (along m r (itv i.y) (itv i.z)) o
    of_option None = refl
    of_option (Some c) = along_elsewhere m x (itv i.y) (itv i.z) r c off out

-- an arc that isn't of the interval is shown where it was
constraint_elsewhere : (m : Data) (x : Itv) (r : Region) (i : ArcName) → nat_eq i.kind 3 ≡ false → nat_eq i.kind 0 ≡ true → has (ends_of (slice_get m.constraints i.x)) x ≡ false → edge_of m (more x r) i ≡ edge_of m r i
constraint_elsewhere m x r i other kind h = rw (other, kind, at_option (forth (more x r)) (forth r) x (forth_elsewhere x r) (slice_get m.constraints i.x) h, at_option (back (more x r)) (back r) x (back_elsewhere x r) (slice_get m.constraints i.x) h) refl

interval_elsewhere : (m : Data) (x : Itv) (r : Region) (i : ArcName) → nat_eq i.kind 3 ≡ false → nat_eq i.kind 0 ≡ false → (i.x ≡ x.0 → ⊥) → edge_of m (more x r) i ≡ edge_of m r i
interval_elsewhere m x r i other kind off = rw (other, kind, longer_elsewhere x (itv i.x) r off, shorter_elsewhere x (itv i.x) r off) refl

-- and the heights of its ends are what they were
not_both : (p : Presence) → says_present p ≡ true → says_maybe p ≡ true → ⊥
not_both presence.Present h k = true≢false (sym k)
not_both presence.Absent h k = true≢false (sym k)
not_both presence.Maybe h k = true≢false (sym h)

off_point : (end : End) (x y : ℕ) → (y ≡ x → ⊥) → (nat_eq (point end (record { 0 = y })) (2 * x) ≡ false) × (nat_eq (point end (record { 0 = y })) (2 * x + 1) ≡ false)
off_point Start x y off = (grind (arith, nat_tests), grind (arith, nat_tests))
off_point Finish x y off = (grind (arith, nat_tests), grind (arith, nat_tests))

abbrev itv_at : ℕ → Itv
itv_at n = record { 0 = n }

same_height : (r : Region) (x : Itv) (hs : List ℤ) (start end : ℤ) (p : ℕ) → says_maybe (bounds_of r x).presence ≡ true → IsPointOf r p → height_with hs x.0 start end p ≡ height_in hs p
same_height r x hs start end p maybe of =
    let off : of.of.0 ≡ x.0 → ⊥ = λ e. not_both (bounds_of r x).presence (ap (λ n. is_there r (itv_at n)) (sym e) ∙ of.there) maybe in
    let two = off_point of.end x.0 of.of.0 off in
    rw (ap (λ k. nat_eq k (2 * x.0)) of.is ∙ two.0, ap (λ k. nat_eq k (2 * x.0 + 1)) of.is ∙ two.1) refl

same_number : (i j : ℕ) → nat_eq i j ≡ true → i ≡ j
same_number i j h = grind (arith, nat_tests)

in_either : (xs ys : List Itv) (x : Itv) → (has xs x ≡ true) ⊎ (has ys x ≡ true) → has (xs ++ ys) x ≡ true
in_either xs ys x h = list_any-append (same x) xs ys ∙ elim h [ inl here ↦ or_left (has xs x) (has ys x) here | inr there ↦ or_right (has xs x) (has ys x) there ]

lose_more : (m : Data) (r : Region) (x : Itv) (ts : List (List ℕ)) (hs : List ℤ) → IsRegionOf m (more x r) → x.0 < length m.intervals → AreTouched m ts → says_maybe (bounds_of r x).presence ≡ true → AllLose m r (height_in hs)
    → (own : OwnKeep m (more x r) x.0 (get_or ts x.0 []) hs) → AllLose m (more x r) (height_with hs x.0 own.start own.end)
lose_more m r x ts hs stays within touched maybe lose own i e shown = by_order (nat_eq i.kind 3) refl
  where
    elsewhere : edge_of m (more x r) i ≡ edge_of m r i → (e.weight +ℤ height_with hs x.0 own.start own.end e.head) ≤ℤ height_with hs x.0 own.start own.end e.tail
    elsewhere same =
        let before : edge_of m r i ≡ Some e = sym same ∙ shown in
        let ends = (named m r i e before).ends in
        rw (same_height r x hs own.start own.end e.head maybe ends.head, same_height r x hs own.start own.end e.tail maybe ends.tail) (lose i e before)

    of_constraint : (b : Bool) → has (ends_of (slice_get m.constraints i.x)) x ≡ b → nat_eq i.kind 3 ≡ false → nat_eq i.kind 0 ≡ true → (e.weight +ℤ height_with hs x.0 own.start own.end e.head) ≤ℤ height_with hs x.0 own.start own.end e.tail
    of_constraint true is other kind = own.keep i e (inl (inl (same_number i.kind 0 kind), touched.each x i.x within (in_either (ends_of (slice_get m.constraints i.x)) (members_at m (slice_get m.constraints i.x)) x (inl is)))) shown
    of_constraint false is other kind = elsewhere (constraint_elsewhere m x r i other kind is)

    of_interval : (b : Bool) → nat_eq i.x x.0 ≡ b → nat_eq i.kind 3 ≡ false → nat_eq i.kind 0 ≡ false → (e.weight +ℤ height_with hs x.0 own.start own.end e.head) ≤ℤ height_with hs x.0 own.start own.end e.tail
    of_interval true is other kind = own.keep i e (inr (neither, same_number i.x x.0 is)) shown
      where
        neither : OfConstraint i → ⊥
        neither of = elim of [ inl k ↦ other_number i.kind 0 kind k | inr k ↦ other_number i.kind 3 other k ]
    of_interval false is other kind = elsewhere (interval_elsewhere m x r i other kind (other_number i.x x.0 is))

    member : nat_eq i.kind 3 ≡ true → (i.y ≡ x.0) ⊎ (i.z ≡ x.0) → (e.weight +ℤ height_with hs x.0 own.start own.end e.head) ≤ℤ height_with hs x.0 own.start own.end e.tail
    member kind one =
        let three : i.kind ≡ 3 = same_number i.kind 3 kind in
        let two = ordered m (more x r) i e stays three shown in
        let named_there : has (members_at m (slice_get m.constraints i.x)) x ≡ true = elim one [
          | inl y ↦ ap (λ n. has (members_at m (slice_get m.constraints i.x)) (itv_at n)) (sym y) ∙ two.first
          | inr z ↦ ap (λ n. has (members_at m (slice_get m.constraints i.x)) (itv_at n)) (sym z) ∙ two.second
        ] in
        own.keep i e (inl (inr (three, one), touched.each x i.x within (in_either (ends_of (slice_get m.constraints i.x)) (members_at m (slice_get m.constraints i.x)) x (inr named_there)))) shown

    of_order : (b c : Bool) → nat_eq i.y x.0 ≡ b → nat_eq i.z x.0 ≡ c → nat_eq i.kind 3 ≡ true → (e.weight +ℤ height_with hs x.0 own.start own.end e.head) ≤ℤ height_with hs x.0 own.start own.end e.tail
    of_order true c y z kind = member kind (inl (same_number i.y x.0 y))
    of_order false true y z kind = member kind (inr (same_number i.z x.0 z))
    of_order false false y z kind = elsewhere (order_elsewhere m x r i kind (other_number i.y x.0 y) (other_number i.z x.0 z))

    by_kind : (b : Bool) → nat_eq i.kind 0 ≡ b → nat_eq i.kind 3 ≡ false → (e.weight +ℤ height_with hs x.0 own.start own.end e.head) ≤ℤ height_with hs x.0 own.start own.end e.tail
    by_kind true is other = of_constraint (has (ends_of (slice_get m.constraints i.x)) x) refl other is
    by_kind false is other = of_interval (nat_eq i.x x.0) refl other is

    by_order : (b : Bool) → nat_eq i.kind 3 ≡ b → (e.weight +ℤ height_with hs x.0 own.start own.end e.head) ≤ℤ height_with hs x.0 own.start own.end e.tail
    by_order true is = of_order (nat_eq i.y x.0) (nat_eq i.z x.0) refl refl is
    by_order false is = by_kind (nat_eq i.kind 0) refl is

-- so no walk refutes with it
pub calm : (m : Data) (r : Region) (best : Option ℤ) (x : Itv) (ts : List (List ℕ)) (hs : List ℤ) → IsRegionOf m r → AreTouched m ts → admits r (Present x) ≡ true → AllLose m r (height_in hs)
    → OwnKeep m (with_guess (Present x) r) x.0 (get_or ts x.0 []) hs → NoWalk m r best (Some (Present x))
calm m r best x ts hs of touched free lose own =
    let two = both_true (nat_lt x.0 (length r.bounds)) (says_maybe (bounds_of r x).presence) free in
    let within : x.0 < length m.intervals = let less = below x.0 (length r.bounds) two.0 in omega (arith, less, as_many_bounds m r of) in
    lose_refute_none m (seen_at r best (Some (Present x))) (height_with hs x.0 own.start own.end) (lose_more m r x ts hs (guess_stays (Present x) m r free of) within touched two.1 lose own)
  where
    below : (i n : ℕ) → nat_lt i n ≡ true → i < n
    below i n h = grind (arith, nat_tests)
