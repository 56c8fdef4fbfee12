-- Relations of the members of a sequence: a witness names a member, and on a settled region where no witness refutes each
-- relation holds of the order that the region allows.
use Rattle.std.specs.Prelude.{◌≡◌, ◌⊎◌, ℕ, Bool, true, false, not, ◌&&◌, ◌||◌, List, length, Some, None, slice_get, nat_lt}
use Rattle.std.specs.List.{list_all}
use Rattle.std.proofs.Common.{inl, inr, refl, sym, subst, ap, ◌∙◌, arith}
use Rattle.std.proofs.lemmas.Bool.{true≢false, not_from_false, false_from_ne_true, not-true}
use Rattle.std.proofs.lemmas.Bool.Decides.{nat_tests}
use Rattle.std.proofs.lemmas.Option.{slice_get_within}
use Rattle.base_laws.specs.laws.Truth.{all_three, three_true}
use Rattle.sched_base.specs.declared.ids.Itv.{Itv}
use Rattle.sched_base.specs.declared.ids.Seq.{Seq}
use Rattle.sched_model.specs.declared.types.Assignment.{Assignment}
use Rattle.sched_model.specs.declared.types.Constraint.{Constraint}
use Rattle.sched_model.specs.declared.types.Constraint.TheVariants as constraint
use Rattle.sched_model.specs.Words.{◌implies◌, pairwise, passes}
use Rattle.sched_model.specs.Bounds.{is_number}
use Rattle.sched_model.specs.Data.{Data, same, has, members_of}
use Rattle.sched_model.specs.Valid.{IsValid, is_itv, is_seq, is_member, is_constraint}
use Rattle.sched_model.specs.Value.{is_present, order_of}
use Rattle.sched_model.specs.Sequence.{stands_before, stands_next, is_first, is_last}
use Rattle.sched_model.specs.Sentences.{holds}
use Rattle.sched_model.specs.laws.Limits.{limits_of}
use Rattle.sched_model.specs.laws.Listed.{valid_at}
use Rattle.sched_model.specs.laws.Small.{number_fits}
use Rattle.sched_model.specs.laws.Words.{implied, if_implied}
use Rattle.region.specs.Orders.{SequenceCells, is_before, known_order, order_in, says_unknown, AllowsOrder}
use Rattle.region.specs.Cells.{Region, cells_of, no_sequence, is_fixed, is_known_order, is_ordered, is_settled}
use Rattle.region.specs.Looks.{Seen, IsRegionOf}
use Rattle.region.specs.laws.Lists.{both_true, true_both, all-at}
use Rattle.region.specs.laws.OneSequence.{same_is, same_self, has_cases, below_is}
use Rattle.region.specs.laws.Orderly.{Lists, stood_has, not_both, one_or_other, pair_stood, each_all}
use Rattle.region.specs.laws.Narrowing.{members_are}
use Rattle.region.specs.laws.Settling.{beyond}
use Rattle.region.specs.laws.Pinned.{IsSettledTo, pinned, present_is}
use Rattle.region.specs.laws.Rows.{Aside, next_from, stood_itself}
use Rattle.refute_hier.specs.declared.witness.HierWitness.{HierWitness}
use Rattle.refute_hier.specs.declared.witness.HierWitness.TheVariants.{SeqRel}
use Rattle.refute_hier.specs.Witness.{is_valid}
use Rattle.refute_hier.specs.Parts.{is_there}
use Rattle.refute_basic.specs.Standing.{stand}
use Rattle.refute_hier.specs.SeqRel.{seqrel_of, seqrel_row, related_in}
use Rattle.refute_hier.specs.Hier.{refutes}
use Rattle.refute_hier.specs.laws.Standing.{first_member, second_member}

-- who stands where a relation has nobody is a member of its sequence
pub member_first : (m : Data) (r : Region) (p : Seq) (x y : Itv) → IsRegionOf m r → stand r p x y ≡ true → has (members_of m p) x ≡ true
member_first m r p x y of h = sym (ap (λ ms. has ms x) (members_are m r p of)) ∙ first_member m r p x y of h

pub member_second : (m : Data) (r : Region) (p : Seq) (x y : Itv) → IsRegionOf m r → stand r p x y ≡ true → has (members_of m p) y ≡ true
member_second m r p x y of h = sym (ap (λ ms. has ms y) (members_are m r p of)) ∙ second_member m r p x y of h

member_same : (m : Data) (r : Region) (p : Seq) (x a b : Itv) → IsRegionOf m r → (same x b && stand r p b a) ≡ true → has (members_of m p) x ≡ true
member_same m r p x a b of h = let two = both_true (same x b) (stand r p b a) h in subst (λ z. has (members_of m p) z ≡ true) (sym (same_is x b two.0)) (member_first m r p b a of two.1)

member_prev : (m : Data) (r : Region) (p : Seq) (x a b : Itv) → IsRegionOf m r → ((same x b && stand r p b a) ≡ true) ⊎ ((stand r p a x && stand r p x b) ≡ true) → has (members_of m p) x ≡ true
member_prev m r p x a b of (inl h) = member_same m r p x a b of h
member_prev m r p x a b of (inr h) = member_second m r p a x of (both_true (stand r p a x) (stand r p x b) h).0

pub related_member : (m : Data) (r : Region) (d : Constraint) (p : Seq) (x : Itv) → IsRegionOf m r → Some p ≡ related_in d → seqrel_of r x d ≡ true → has (members_of m p) x ≡ true
related_member m r (constraint.First q a) p x of is h = let e : p ≡ q = cc is in subst (λ s. has (members_of m s) x ≡ true) (sym e) (member_first m r q x a of h)
related_member m r (constraint.Last q a) p x of is h = let e : p ≡ q = cc is in subst (λ s. has (members_of m s) x ≡ true) (sym e) (member_second m r q a x of h)
related_member m r (constraint.Before q a b) p x of is h = let e : p ≡ q = cc is in subst (λ s. has (members_of m s) x ≡ true) (sym e) (member_same m r q x a b of h)
related_member m r (constraint.Prev q a b) p x of is h = let e : p ≡ q = cc is in subst (λ s. has (members_of m s) x ≡ true) (sym e) (member_prev m r q x a b of (has_cases (same x b && stand r q b a) (stand r q a x && stand r q x b) h))
related_member m r other p x of is h = cc

-- a constraint of another kind has nobody who stands so
pub unrelated : (r : Region) (d : Constraint) (x : Itv) → None ≡ related_in d → seqrel_of r x d ≡ false
unrelated r (constraint.First q a) x is = cc
unrelated r (constraint.Last q a) x is = cc
unrelated r (constraint.Before q a b) x is = cc
unrelated r (constraint.Prev q a b) x is = cc
unrelated r other x is = refl

-- an assignment that a settled region leaves, whose order of a sequence lists the present members as the region allows;
-- constraint c is a relation of that sequence, and no witness refutes
record IsUnrefuted (m : Data) (l : Seen) (a : Assignment) (c : ℕ) (d : Constraint) (p : Seq) : Type 0 where
  valid : IsValid m
  to : IsSettledTo m l.region a
  lists : Lists (cells_of l.region p).members a (order_of a p)
  allows : AllowsOrder (cells_of l.region p) a (order_of a p)
  is : slice_get m.constraints c ≡ Some d
  none : (w : HierWitness) → refutes m l w ≡ false

shown : (m : Data) (r : Region) (a : Assignment) (x : Itv) → IsSettledTo m r a → is_present a x ≡ true → is_there r x ≡ true
shown m r a x to here = sym (pinned m r a x to (present_is m r a x to here)).there ∙ here

-- of two present members it is told which stands before the other
known_pairs : (r : Region) (p : Seq) → is_settled r ≡ true → pairwise (is_known_order r (cells_of r p)) (cells_of r p).members ≡ true
known_pairs r p settled = by_case (nat_lt p.0 (length r.orders)) refl
  where
    by_case : (b : Bool) → nat_lt p.0 (length r.orders) ≡ b → is_ordered r (cells_of r p) ≡ true
    by_case true is = all-at (is_ordered r) r.orders p.0 no_sequence (both_true (list_all is_fixed r.bounds) (list_all (is_ordered r) r.orders) settled).1 (below_is p.0 (length r.orders) is)
    by_case false is = ap (is_ordered r) (beyond r.orders p.0 (grind (arith, nat_tests, is)))

told_one : (s : SequenceCells) (x y : Itv) → not (says_unknown (order_in s x y)) ≡ true → (is_before s x y ≡ true) ⊎ (is_before s y x ≡ true)
told_one s x y h = of (is_before s x y) (is_before s y x) h
  where
    of : (b c : Bool) → not (says_unknown (known_order b c)) ≡ true → (b ≡ true) ⊎ (c ≡ true)
    of true c h = inl refl
    of false true h = inr refl
    of false false h = absurd (true≢false (sym h))

turned : {P Q : Type 0} → P ⊎ Q → Q ⊎ P
turned (inl p) = inr p
turned (inr q) = inl q

told_either : (r : Region) (p : Seq) (x y : Itv) → is_settled r ≡ true → has (cells_of r p).members x ≡ true → has (cells_of r p).members y ≡ true → is_there r x ≡ true → is_there r y ≡ true → same x y ≡ false
    → (is_before (cells_of r p) x y ≡ true) ⊎ (is_before (cells_of r p) y x ≡ true)
told_either r p x y settled one other here there apart = elim (one_or_other (cells_of r p).members x y one other apart) [
  | inl first ↦ told x y here there first
  | inr first ↦ turned (told y x there here first)
]
  where
    told : (u w : Itv) → is_there r u ≡ true → is_there r w ≡ true → stands_before (cells_of r p).members u w ≡ true → (is_before (cells_of r p) u w ≡ true) ⊎ (is_before (cells_of r p) w u ≡ true)
    told u w g h first = told_one (cells_of r p) u w
        (implied (is_there r u && is_there r w) (not (says_unknown (order_in (cells_of r p) u w))) (pair_stood (is_known_order r (cells_of r p)) (cells_of r p).members u w (known_pairs r p settled) first)
        (true_both (is_there r u) (is_there r w) g h))

-- who stands before another is told to
told_stood : (m : Data) (l : Seen) (a : Assignment) (c : ℕ) (d : Constraint) (p : Seq) (x y : Itv) → IsUnrefuted m l a c d p → stands_before (order_of a p) x y ≡ true → stand l.region p x y ≡ true
told_stood m l a c d p x y un h =
    all_three (is_there l.region x) (is_there l.region y) (is_before (cells_of l.region p) x y) (shown m l.region a x un.to one.1) (shown m l.region a y un.to other.1) (by_case (same x y) refl)
  where
    one : (has (cells_of l.region p).members x ≡ true) × (is_present a x ≡ true)
    one = un.lists.members x (stood_has (order_of a p) x y h).0

    other : (has (cells_of l.region p).members y ≡ true) × (is_present a y ≡ true)
    other = un.lists.members y (stood_has (order_of a p) x y h).1

    by_case : (b : Bool) → same x y ≡ b → is_before (cells_of l.region p) x y ≡ true
    by_case true is = absurd (stood_itself (order_of a p) x un.lists.once (subst (λ z. stands_before (order_of a p) x z ≡ true) (sym (same_is x y is)) h))
    by_case false is = elim (told_either l.region p x y un.to.settled one.0 other.0 (shown m l.region a x un.to one.1) (shown m l.region a y un.to other.1) is) [
      | inl forward ↦ forward
      | inr back ↦ absurd (not_both (order_of a p) x y un.lists.once is h (un.allows y x other.0 one.0 other.1 one.1 back))
    ]

-- but nobody stands where the relation has nobody
named : (m : Data) (c : ℕ) (d : Constraint) (x : Itv) → IsValid m → slice_get m.constraints c ≡ Some d → is_itv m x ≡ true → is_valid (SeqRel c x.0) ≡ true
named m c d x valid is one =
    let limits = limits_of m valid.limits in
    let few = limits.constraints in
    let most = limits.intervals in
    let within = slice_get_within m.constraints c d is in
    let inside = below_is x.0 (length m.intervals) one in
    true_both (is_number c) (is_number x.0) (number_fits c (omega (arith, within, few))) (number_fits x.0 (omega (arith, inside, most)))

nobody : (m : Data) (l : Seen) (a : Assignment) (c : ℕ) (d : Constraint) (p : Seq) (x : Itv) → IsUnrefuted m l a c d p → is_present a x ≡ true → seqrel_of l.region x d ≡ true → ⊥
nobody m l a c d p x un here h =
    let row : seqrel_row m l c x.0 ≡ true = ap (passes (seqrel_of l.region x)) un.is ∙ h in
    true≢false (sym (true_both (is_valid (SeqRel c x.0)) (seqrel_row m l c x.0) (named m c d x un.valid un.is (present_is m l.region a x un.to here)) row) ∙ un.none (SeqRel c x.0))

none_stands : (xs : List Itv) (x y : Itv) → (stands_before xs x y ≡ true → ⊥) → not (stands_before xs x y) ≡ true
none_stands xs x y h = not_from_false (stands_before xs x y) (false_from_ne_true (stands_before xs x y) h)

first_holds : (m : Data) (l : Seen) (a : Assignment) (c : ℕ) (p : Seq) (x : Itv) → IsUnrefuted m l a c (constraint.First p x) p → is_first a x (order_of a p) ≡ true
first_holds m l a c p x un = if_implied (is_present a x) (list_all (λ y. not (stands_before (order_of a p) y x)) (order_of a p)) (λ there. each_all (λ y. not (stands_before (order_of a p) y x)) (order_of a p)
    (λ y here. none_stands (order_of a p) y x (λ h. nobody m l a c (constraint.First p x) p y un (un.lists.members y here).1 (told_stood m l a c (constraint.First p x) p y x un h))))

last_holds : (m : Data) (l : Seen) (a : Assignment) (c : ℕ) (p : Seq) (x : Itv) → IsUnrefuted m l a c (constraint.Last p x) p → is_last a x (order_of a p) ≡ true
last_holds m l a c p x un = if_implied (is_present a x) (list_all (λ y. not (stands_before (order_of a p) x y)) (order_of a p)) (λ there. each_all (λ y. not (stands_before (order_of a p) x y)) (order_of a p)
    (λ y here. none_stands (order_of a p) x y (λ h. nobody m l a c (constraint.Last p x) p y un (un.lists.members y here).1 (told_stood m l a c (constraint.Last p x) p x y un h))))

-- two present members stand as they should, where the second isn't told to stand before the first
pub record AreMembers (m : Data) (p : Seq) (x y : Itv) : Type 0 where
  pub first : has (members_of m p) x ≡ true
  pub second : has (members_of m p) y ≡ true
  pub apart : same x y ≡ false

members : (m : Data) (p : Seq) (x y : Itv) → (is_member m p x && is_member m p y && not (same x y)) ≡ true → AreMembers m p x y
members m p x y h =
    let each = three_true (is_member m p x) (is_member m p y) (not (same x y)) h in
    record { first = (both_true (is_seq m p) (has (members_of m p) x) each.0).1; second = (both_true (is_seq m p) (has (members_of m p) y) each.1).1; apart = not-true (same x y) each.2 }

in_order : (m : Data) (l : Seen) (a : Assignment) (c : ℕ) (d : Constraint) (p : Seq) (x y : Itv) → IsUnrefuted m l a c d p → AreMembers m p x y → is_present a x ≡ true → is_present a y ≡ true → (stand l.region p y x ≡ true → ⊥)
    → stands_before (order_of a p) x y ≡ true
in_order m l a c d p x y un are here there none = elim (one_or_other (order_of a p) x y (un.lists.all x (shows x are.first) here) (un.lists.all y (shows y are.second) there) are.apart) [
  | inl h ↦ h
  | inr back ↦ absurd (none (told_stood m l a c d p y x un back))
]
  where
    shows : (z : Itv) → has (members_of m p) z ≡ true → has (cells_of l.region p).members z ≡ true
    shows z h = ap (λ ms. has ms z) (members_are m l.region p un.to.of) ∙ h

before_holds : (m : Data) (l : Seen) (a : Assignment) (c : ℕ) (p : Seq) (x y : Itv) → IsUnrefuted m l a c (constraint.Before p x y) p → AreMembers m p x y → ((is_present a x && is_present a y) implies stands_before (order_of a p) x y) ≡ true
before_holds m l a c p x y un are = if_implied (is_present a x && is_present a y) (stands_before (order_of a p) x y) (λ both.
    let two = both_true (is_present a x) (is_present a y) both in
    in_order m l a c (constraint.Before p x y) p x y un are two.0 two.1
    (λ back. nobody m l a c (constraint.Before p x y) p y un two.1 (true_both (same y y) (stand l.region p y x) (same_self y) back)))

either : (b c : Bool) → (b ≡ true) ⊎ (c ≡ true) → (b || c) ≡ true
either true c h = refl
either false c (inl h) = absurd (true≢false (sym h))
either false c (inr h) = h

next_holds : (m : Data) (l : Seen) (a : Assignment) (c : ℕ) (p : Seq) (x y : Itv) → IsUnrefuted m l a c (constraint.Prev p x y) p → AreMembers m p x y → is_present a x ≡ true → is_present a y ≡ true → stands_next (order_of a p) x y ≡ true
next_holds m l a c p x y un are here there = next_from (order_of a p) x y un.lists.once first (λ z listed. aside z listed (same z x) (same z y) refl refl)
  where
    d : Constraint
    d = constraint.Prev p x y

    first : stands_before (order_of a p) x y ≡ true
    first = in_order m l a c d p x y un are here there
        (λ back. nobody m l a c d p y un there (either (same y y && stand l.region p y x) (stand l.region p x y && stand l.region p y y) (inl (true_both (same y y) (stand l.region p y x) (same_self y) back))))

    between : (z : Itv) → has (order_of a p) z ≡ true → stands_before (order_of a p) x z ≡ true → stands_before (order_of a p) z y ≡ true → ⊥
    between z listed g h = nobody m l a c d p z un (un.lists.members z listed).1
        (either (same z y && stand l.region p y x) (stand l.region p x z && stand l.region p z y) (inr (true_both (stand l.region p x z) (stand l.region p z y) (told_stood m l a c d p x z un g) (told_stood m l a c d p z y un h))))

    aside : (z : Itv) → has (order_of a p) z ≡ true → (b e : Bool) → same z x ≡ b → same z y ≡ e → Aside (order_of a p) x y z
    aside z listed true e is other = inl is
    aside z listed false true is other = inr (inl other)
    aside z listed false false is other = elim (one_or_other (order_of a p) z x listed (stood_has (order_of a p) x y first).0 is) [
      | inl front ↦ inr (inr (inl front))
      | inr after ↦ elim (one_or_other (order_of a p) z y listed (stood_has (order_of a p) x y first).1 other) [
        | inl inside ↦ absurd (between z listed after inside)
        | inr behind ↦ inr (inr (inr behind))
      ]
    ]

prev_holds : (m : Data) (l : Seen) (a : Assignment) (c : ℕ) (p : Seq) (x y : Itv) → IsUnrefuted m l a c (constraint.Prev p x y) p → AreMembers m p x y → ((is_present a x && is_present a y) implies stands_next (order_of a p) x y) ≡ true
prev_holds m l a c p x y un are = if_implied (is_present a x && is_present a y) (stands_next (order_of a p) x y) (λ both.
    let two = both_true (is_present a x) (is_present a y) both in next_holds m l a c p x y un are two.0 two.1)

related_holds : (m : Data) (l : Seen) (a : Assignment) (c : ℕ) (d : Constraint) (p : Seq) → related_in d ≡ Some p → is_constraint m d ≡ true → IsUnrefuted m l a c d p → holds m a d ≡ true
related_holds m l a c (constraint.First q x) p is ok un = let e : q ≡ p = cc is in first_holds m l a c q x (subst (IsUnrefuted m l a c (constraint.First q x)) (sym e) un)
related_holds m l a c (constraint.Last q x) p is ok un = let e : q ≡ p = cc is in last_holds m l a c q x (subst (IsUnrefuted m l a c (constraint.Last q x)) (sym e) un)
related_holds m l a c (constraint.Before q x y) p is ok un = let e : q ≡ p = cc is in before_holds m l a c q x y (subst (IsUnrefuted m l a c (constraint.Before q x y)) (sym e) un) (members m q x y ok)
related_holds m l a c (constraint.Prev q x y) p is ok un = let e : q ≡ p = cc is in prev_holds m l a c q x y (subst (IsUnrefuted m l a c (constraint.Prev q x y)) (sym e) un) (members m q x y ok)
related_holds m l a c other p is ok un = cc

-- where no witness refutes, a relation of the members of a sequence holds
pub unrefuted_related : (m : Data) (l : Seen) (a : Assignment) (c : ℕ) (d : Constraint) (p : Seq) → IsValid m → IsSettledTo m l.region a → Lists (cells_of l.region p).members a (order_of a p) → AllowsOrder (cells_of l.region p) a (order_of a p)
    → ((w : HierWitness) → refutes m l w ≡ false) → slice_get m.constraints c ≡ Some d → related_in d ≡ Some p → holds m a d ≡ true
unrefuted_related m l a c d p valid to lists allows none is related =
    related_holds m l a c d p related (valid_at m m.constraints c d valid refl is) (record { valid = valid; to = to; lists = lists; allows = allows; is = is; none = none })
