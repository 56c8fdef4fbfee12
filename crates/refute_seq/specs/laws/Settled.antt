-- On a settled region where no witness of this crate refutes, what is listed as without overlap has none, by the order of
-- its present members that the region allows.
use Rattle.std.specs.Prelude.{◌≡◌, ◌⊎◌, ℕ, ℤ, pos, ◌+ℤ◌, Bool, true, false, not, ◌&&◌, ◌||◌, Option, Some, None, slice_get, is_some, nat_eq, int_le, int_lt}
use Rattle.std.proofs.Common.{refl, sym, subst, ap, ◌∙◌, inl, inr, arith}
use Rattle.std.proofs.lemmas.Int.{ints}
use Rattle.std.proofs.lemmas.Bool.{true≢false, or_parts}
use Rattle.base_laws.specs.laws.Truth.{other_fails}
use Rattle.sched_base.specs.declared.ids.Itv.{Itv}
use Rattle.sched_base.specs.declared.ids.Seq.{Seq}
use Rattle.sched_base.specs.declared.ids.Mat.{Mat}
use Rattle.sched_model.specs.declared.types.Assignment.{Assignment}
use Rattle.sched_model.specs.declared.types.Constraint.{Constraint}
use Rattle.sched_model.specs.declared.types.Constraint.TheVariants.{NoOverlap}
use Rattle.sched_model.specs.Words.{◌implies◌, pairwise, adjacent, passes}
use Rattle.sched_model.specs.Data.{Data, same, has, gap, members_of}
use Rattle.sched_model.specs.Valid.{IsValid, is_itv}
use Rattle.sched_model.specs.Value.{is_present, start_of, end_of, order_of}
use Rattle.sched_model.specs.Sequence.{stands_before, stands_next, is_apart, has_no_overlap}
use Rattle.sched_model.specs.Sentences.{holds}
use Rattle.region.specs.Orders.{AllowsOrder}
use Rattle.region.specs.Cells.{Region, cells_of, is_there}
use Rattle.region.specs.Looks.{Seen, lst_of, ect_of}
use Rattle.region.specs.laws.Lists.{both_true, true_both}
use Rattle.region.specs.laws.OneSequence.{same_is}
use Rattle.region.specs.laws.Orderly.{Lists, stood_has, not_both, pairs_stood, each_all}
use Rattle.region.specs.laws.Narrowing.{members_are}
use Rattle.region.specs.laws.Pinned.{IsSettledTo, Pinned, pinned}
use Rattle.region.specs.laws.Rows.{Aside, around, all_adjacent, next_before, stood_itself}
use Rattle.refute_seq.specs.declared.witness.SeqWitness.{SeqWitness}
use Rattle.refute_seq.specs.declared.witness.SeqWitness.TheVariants.{Pair}
use Rattle.sched_model.specs.Bounds.{is_number}
use Rattle.refute_seq.specs.Witness.{is_valid}
use Rattle.refute_seq.specs.Standing.{precedes, stand, is_away, is_aside, are_next}
use Rattle.refute_seq.specs.Pair.{pair_of, pair_row}
use Rattle.refute_seq.specs.OnSequence.{refutes}
use Rattle.refute_seq.specs.Listed.{is_derived}
use Rattle.refute_seq.specs.laws.Known.{member_is, IsHere, either_way, interval_number}
use Rattle.sched_model.specs.laws.Limits.{constraint_number}

-- an assignment that a settled region leaves, whose order of a sequence lists the present members as the region allows
pub record IsOrdered (m : Data) (r : Region) (a : Assignment) (p : Seq) : Type 0 where
  pub to : IsSettledTo m r a
  pub lists : Lists (cells_of r p).members a (order_of a p)
  pub allows : AllowsOrder (cells_of r p) a (order_of a p)

-- a present member
record IsMember (m : Data) (r : Region) (a : Assignment) (p : Seq) (x : Itv) : Type 0 where
  here : has (cells_of r p).members x ≡ true
  is : is_itv m x ≡ true
  present : is_present a x ≡ true
  pin : Pinned r a x

member : (m : Data) (r : Region) (a : Assignment) (p : Seq) (x : Itv) → IsValid m → IsOrdered m r a p → has (order_of a p) x ≡ true → IsMember m r a p x
member m r a p x valid ok here =
    let of = ok.lists.members x here in
    let is = member_is m p x valid (subst (λ ms. has ms x ≡ true) (members_are m r p ok.to.of) of.0) in
    record { here = of.0; is = is; present = of.1; pin = pinned m r a x ok.to is }

shown : (m : Data) (r : Region) (a : Assignment) (p : Seq) (x : Itv) → IsMember m r a p x → IsHere r p x
shown m r a p x of = record { here = of.here; there = sym of.pin.there ∙ of.present }

-- who stands before another is told to
stands : (m : Data) (r : Region) (a : Assignment) (p : Seq) (x y : Itv) → IsValid m → IsOrdered m r a p → stands_before (order_of a p) x y ≡ true → stand r p x y ≡ true
stands m r a p x y valid ok h =
    let two = stood_has (order_of a p) x y h in
    let one = member m r a p x valid ok two.0 in
    let other = member m r a p y valid ok two.1 in
    true_both (is_there r x && is_there r y) (precedes r p x y) (true_both (is_there r x) (is_there r y) (sym one.pin.there ∙ one.present) (sym other.pin.there ∙ other.present))
    (by_case one other (same x y) refl)
  where
    by_case : IsMember m r a p x → IsMember m r a p y → (b : Bool) → same x y ≡ b → precedes r p x y ≡ true
    by_case one other true is = absurd (stood_itself (order_of a p) x ok.lists.once (subst (λ z. stands_before (order_of a p) x z ≡ true) (sym (same_is x y is)) h))
    by_case one other false is = elim (either_way r p x y ok.to.settled (shown m r a p x one) (shown m r a p y other) is) [
      | inl forward ↦ forward
      | inr back ↦ absurd (not_both (order_of a p) x y ok.lists.once is h (ok.allows y x other.here one.here other.present one.present back))
    ]

precedes_stood : (m : Data) (r : Region) (a : Assignment) (p : Seq) (x y : Itv) → IsValid m → IsOrdered m r a p → stands_before (order_of a p) x y ≡ true → precedes r p x y ≡ true
precedes_stood m r a p x y valid ok h = (both_true (is_there r x && is_there r y) (precedes r p x y) (stands m r a p x y valid ok h)).1

-- constraint c is a sequence without overlap of which no witness refutes
record IsUnrefuted (m : Data) (l : Seen) (a : Assignment) (c : ℕ) (p : Seq) (matrix : Option Mat) (direct : Bool) : Type 0 where
  valid : IsValid m
  ok : IsOrdered m l.region a p
  is : slice_get m.constraints c ≡ Some (NoOverlap p matrix direct)
  none : (w : SeqWitness) → is_derived w ≡ true → refutes m l w ≡ false

is_named : (m : Data) (c k : ℕ) (x y : Itv) (d : Constraint) → IsValid m → slice_get m.constraints c ≡ Some d → is_itv m x ≡ true → is_itv m y ≡ true → is_number k ≡ true → is_valid (Pair c x.0 y.0 k) ≡ true
is_named m c k x y d valid is one other case =
    true_both (is_number c && is_number x.0 && is_number y.0) (is_number k)
    (true_both (is_number c && is_number x.0) (is_number y.0)
    (true_both (is_number c) (is_number x.0) (constraint_number m c d valid is) (interval_number m x valid one))
    (interval_number m y valid other))
    case

-- a row of two that stand before each other doesn't hold
unheld : (m : Data) (l : Seen) (a : Assignment) (c k : ℕ) (p : Seq) (matrix : Option Mat) (direct : Bool) (x y : Itv) → IsUnrefuted m l a c p matrix direct → is_number k ≡ true → stands_before (order_of a p) x y ≡ true
    → ((nat_eq k 0 && int_lt (lst_of l.region y) (ect_of l.region x))
    || (nat_eq k 1 && is_some matrix && int_lt (lst_of l.region y) (ect_of l.region x +ℤ gap m p matrix x y) && (direct implies are_next m l.region p x y))) ≡ false
unheld m l a c k p matrix direct x y un case h =
    let two = stood_has (order_of a p) x y h in
    let one = member m l.region a p x un.valid un.ok two.0 in
    let other = member m l.region a p y un.valid un.ok two.1 in
    let row : pair_row m l c x.0 y.0 k ≡ false = other_fails (is_valid (Pair c x.0 y.0 k)) (pair_row m l c x.0 y.0 k) (un.none (Pair c x.0 y.0 k) refl) (is_named m c k x y (NoOverlap p matrix direct) un.valid un.is one.is other.is case) in
    other_fails (stand l.region p x y) _ (sym (ap (passes (pair_of m l.region k x y)) un.is) ∙ row) (stands m l.region a p x y un.valid un.ok h)

-- moments
fits : (l e s f d : ℤ) → s ≡ l → f ≡ e → int_lt l (e +ℤ d) ≡ false → int_le (f +ℤ d) s ≡ true
fits l e s f d h i k = grind (arith, ints, h, i, k)

fits_plain : (l e s f : ℤ) → s ≡ l → f ≡ e → int_lt l e ≡ false → int_le (f +ℤ pos 0) s ≡ true
fits_plain l e s f h i k = grind (arith, ints, h, i, k)

starts : (r : Region) (a : Assignment) (x : Itv) → Pinned r a x → is_present a x ≡ true → start_of a x ≡ lst_of r x
starts r a x pin here = pin.start here ∙ sym (pin.latest here)

ends : (r : Region) (a : Assignment) (x : Itv) → Pinned r a x → is_present a x ≡ true → end_of a x ≡ ect_of r x
ends r a x pin here = pin.end here ∙ sym (pin.earliest here)

-- each ends before each later one starts
disjoint : (m : Data) (l : Seen) (a : Assignment) (c : ℕ) (p : Seq) (matrix : Option Mat) (direct : Bool) (x y : Itv) → IsUnrefuted m l a c p matrix direct → stands_before (order_of a p) x y ≡ true → is_apart a (pos 0) x y ≡ true
disjoint m l a c p matrix direct x y un h =
    let two = stood_has (order_of a p) x y h in
    let one = member m l.region a p x un.valid un.ok two.0 in
    let other = member m l.region a p y un.valid un.ok two.1 in
    fits_plain (lst_of l.region y) (ect_of l.region x) (start_of a y) (end_of a x) (starts l.region a y other.pin other.present) (ends l.region a x one.pin one.present)
    (or_parts (int_lt (lst_of l.region y) (ect_of l.region x)) _ (unheld m l a c 0 p matrix direct x y un refl h)).0

-- each keeps its distance from those that it binds
first_fails : (b c : Bool) → c ≡ true → (b && c) ≡ false → b ≡ false
first_fails true c h k = absurd (true≢false (sym h ∙ k))
first_fails false c h k = refl

spaced : (m : Data) (l : Seen) (a : Assignment) (c : ℕ) (p : Seq) (matrix : Option Mat) (direct : Bool) (x y : Itv) → IsUnrefuted m l a c p matrix direct → stands_before (order_of a p) x y ≡ true → (direct implies are_next m l.region p x y) ≡ true
    → is_apart a (gap m p matrix x y) x y ≡ true
spaced m l a c p None direct x y un h next = disjoint m l a c p None direct x y un h
spaced m l a c p (Some k) direct x y un h next =
    let two = stood_has (order_of a p) x y h in
    let one = member m l.region a p x un.valid un.ok two.0 in
    let other = member m l.region a p y un.valid un.ok two.1 in
    fits (lst_of l.region y) (ect_of l.region x) (start_of a y) (end_of a x) (gap m p (Some k) x y) (starts l.region a y other.pin other.present) (ends l.region a x one.pin one.present)
    (first_fails (int_lt (lst_of l.region y) (ect_of l.region x +ℤ gap m p (Some k) x y)) (direct implies are_next m l.region p x y) next (unheld m l a c 1 p (Some k) direct x y un refl h))

-- nobody stands between neighbours
five : (b c d e f : Bool) → (b ≡ true) ⊎ (c ≡ true) ⊎ (d ≡ true) ⊎ (e ≡ true) ⊎ (f ≡ true) → (b || c || d || e || f) ≡ true
five true c d e f h = refl
five false true d e f h = refl
five false false true e f h = refl
five false false false true f h = refl
five false false false false true h = refl
five false false false false false (inl h) = h
five false false false false false (inr (inl h)) = h
five false false false false false (inr (inr (inl h))) = h
five false false false false false (inr (inr (inr (inl h)))) = h
five false false false false false (inr (inr (inr (inr h)))) = h

aside : (m : Data) (r : Region) (a : Assignment) (p : Seq) (x y z : Itv) → IsValid m → IsOrdered m r a p → stands_next (order_of a p) x y ≡ true → has (members_of m p) z ≡ true → is_aside r p x y z ≡ true
aside m r a p x y z valid ok next here = five (same z x) (same z y) (is_away r z) (precedes r p z x) (precedes r p y z) (by_case (is_present a z) refl)
  where
    is : is_itv m z ≡ true
    is = member_is m p z valid here

    told : Aside (order_of a p) x y z → (same z x ≡ true) ⊎ (same z y ≡ true) ⊎ (is_away r z ≡ true) ⊎ (precedes r p z x ≡ true) ⊎ (precedes r p y z ≡ true)
    told (inl e) = inl e
    told (inr (inl e)) = inr (inl e)
    told (inr (inr (inl e))) = inr (inr (inr (inl (precedes_stood m r a p z x valid ok e))))
    told (inr (inr (inr e))) = inr (inr (inr (inr (precedes_stood m r a p y z valid ok e))))

    by_case : (b : Bool) → is_present a z ≡ b → (same z x ≡ true) ⊎ (same z y ≡ true) ⊎ (is_away r z ≡ true) ⊎ (precedes r p z x ≡ true) ⊎ (precedes r p y z ≡ true)
    by_case true there = told (around (order_of a p) x y z ok.lists.once next (ok.lists.all z (subst (λ ms. has ms z ≡ true) (sym (members_are m r p ok.to.of)) here) there))
    by_case false away = let pin = pinned m r a z ok.to is in inr (inr (inl (pin.either ∙ ap not (sym pin.there ∙ away))))

neighbours : (m : Data) (l : Seen) (a : Assignment) (c : ℕ) (p : Seq) (matrix : Option Mat) (x y : Itv) → IsUnrefuted m l a c p matrix true → stands_next (order_of a p) x y ≡ true → is_apart a (gap m p matrix x y) x y ≡ true
neighbours m l a c p matrix x y un next =
    spaced m l a c p matrix true x y un (next_before (order_of a p) x y next) (each_all (is_aside l.region p x y) (members_of m p) (λ z here. aside m l.region a p x y z un.valid un.ok next here))

no_overlap : (m : Data) (l : Seen) (a : Assignment) (c : ℕ) (p : Seq) (matrix : Option Mat) (direct : Bool) → IsUnrefuted m l a c p matrix direct → has_no_overlap m a p matrix direct (order_of a p) ≡ true
no_overlap m l a c p matrix false un = pairs_stood (λ x y. is_apart a (gap m p matrix x y) x y) (order_of a p) (λ x y h. spaced m l a c p matrix false x y un h refl)
no_overlap m l a c p matrix true un =
    true_both (pairwise (is_apart a (pos 0)) (order_of a p)) (adjacent (λ x y. is_apart a (gap m p matrix x y) x y) (order_of a p))
    (pairs_stood (is_apart a (pos 0)) (order_of a p) (λ x y h. disjoint m l a c p matrix true x y un h))
    (all_adjacent (λ x y. is_apart a (gap m p matrix x y) x y) (order_of a p) (λ x y h. neighbours m l a c p matrix x y un h))

-- where no witness refutes, a sequence without overlap has none
pub unrefuted_holds : (m : Data) (l : Seen) (a : Assignment) (c : ℕ) (p : Seq) (matrix : Option Mat) (direct : Bool) → IsValid m → IsOrdered m l.region a p → ((w : SeqWitness) → is_derived w ≡ true → refutes m l w ≡ false)
    → slice_get m.constraints c ≡ Some (NoOverlap p matrix direct) → holds m a (NoOverlap p matrix direct) ≡ true
unrefuted_holds m l a c p matrix direct valid ok none is = no_overlap m l a c p matrix direct (record { valid = valid; ok = ok; is = is; none = none })
