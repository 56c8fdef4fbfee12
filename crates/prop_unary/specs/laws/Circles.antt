-- Each three members that stand in a circle, or would under a guess, are asked in one of three turns.
use Rattle.std.specs.Prelude.{◌≡◌, ◌⊎◌, ℕ, ◌+◌, ℤ, Bool, true, false, ◌&&◌, ◌||◌, [], ◌∷◌, length, Option, Some, None, nat_eq, nat_lt}
use Rattle.std.proofs.Common.{inl, inr, refl, sym, subst, ◌∙◌}
use Rattle.std.proofs.lemmas.Bool.{true≢false, or_left, or_right}
use Rattle.sched_base.specs.declared.ids.Itv.{Itv}
use Rattle.sched_base.specs.declared.ids.Seq.{Seq}
use Rattle.sched_model.specs.Data.{Data, same, has, members_of}
use Rattle.region.specs.declared.types.Presence.{Presence}
use Rattle.region.specs.declared.types.Presence.TheVariants as presence
use Rattle.region.specs.declared.types.OrderCell.{OrderCell}
use Rattle.region.specs.declared.types.OrderCell.TheVariants.{Unknown, Forward, Backward}
use Rattle.region.specs.declared.types.Claim.TheVariants as claim
use Rattle.region.specs.declared.types.Topic.TheVariants.{One, Two}
use Rattle.region.specs.declared.types.Guess.{Guess}
use Rattle.region.specs.declared.types.Guess.TheVariants.{Present, Absent, StartLe, StartGe, EndLe, EndGe, Before}
use Rattle.region.specs.Orders.{order_in, is_before, known_order, says_unknown}
use Rattle.region.specs.Cells.{Region, bounds_of, cells_of, is_there, says_present, says_maybe}
use Rattle.region.specs.Guesses.{admits, topic, with_guess, looked_at}
use Rattle.region.specs.Looks.{Seen, IsRegionOf, seen_at}
use Rattle.region.specs.laws.Lists.{both_true, true_both}
use Rattle.region.specs.laws.OneSequence.{same_is, same_turned, has_cases}
use Rattle.region.specs.laws.Pairs.{paired}
use Rattle.base_laws.specs.laws.Truth.{three_true, all_three, four_true}
use Rattle.findings.specs.Ends.{is_open_end, is_end, is_asked}
use Rattle.refute_seq.specs.declared.witness.SeqWitness.TheVariants.{Triple}
use Rattle.sched_model.specs.Bounds.{is_number}
use Rattle.refute_seq.specs.Witness.{is_valid}
use Rattle.refute_seq.specs.Standing.{stand, precedes}
use Rattle.refute_seq.specs.Listed.{lists, asks_order, asks_circle}
use Rattle.refute_seq.specs.OnSequence.{refutes, row_of}
use Rattle.refute_basic.specs.laws.Told.{AreTold, told}
use Rattle.prop_unary.specs.code.Tasks.{IsSilent, quiet}
use Rattle.prop_unary.specs.code.Circles.{EachOf, IsMet, SilentAt}
use Rattle.prop_unary.specs.laws.Under.{apart, touches, precedes_under, there_before, before_is, order_forward, told_closed}
use Rattle.prop_unary.specs.laws.Quieting.{sequence_quiet}

-- what it shows that TRIPLE refutes: three stand in a circle
pub record IsCircle (q : Region) (p : Seq) (x y z : Itv) : Type 0 where
  pub first : AreTold q p x y
  pub second : AreTold q p y z
  pub third : AreTold q p z x

pub circle_of : (m : Data) (l : Seen) (p : Seq) (x y z : Itv) → refutes m l (Triple p.0 x.0 y.0 z.0) ≡ true → IsCircle l.region p x y z
circle_of m l p x y z h =
    let each = three_true (stand l.region p x y) (stand l.region p y z) (stand l.region p z x) (both_true (is_valid (Triple p.0 x.0 y.0 z.0)) (row_of m l (Triple p.0 x.0 y.0 z.0)) h).1 in
    record { first = told l.region p x y each.0; second = told l.region p y z each.1; third = told l.region p z x each.2 }

-- who is told to stand before another is told so by the cell
pub not_told : (r : Region) (p : Seq) (x y : Itv) (o : OrderCell) → order_in (cells_of r p) x y ≡ o → (o ≡ Forward → ⊥) → precedes r p x y ≡ true → ⊥
not_told r p x y o is off h = off (sym is ∙ order_forward r p x y h)

forward_told : (r : Region) (p : Seq) (x y : Itv) → order_in (cells_of r p) x y ≡ Forward → precedes r p x y ≡ true
forward_told r p x y h = told_by (is_before (cells_of r p) x y) (is_before (cells_of r p) y x) h
  where
    told_by : (b c : Bool) → known_order b c ≡ Forward → b ≡ true
    told_by true c h = refl
    told_by false true h = cc
    told_by false false h = cc

-- so one guess, that the third stands before the first, is to be asked where this is open
silent_but : (m : Data) (r : Region) (best : Option ℤ) (p : Seq) (x y z : Itv) → IsRegionOf m r → (precedes r p z x ≡ true → ⊥) → (admits r (Before p z x) ≡ true → refutes m (seen_at r best (Some (Before p z x))) (Triple p.0 x.0 y.0 z.0) ≡ false)
    → IsSilent m r best (Triple p.0 x.0 y.0 z.0)
silent_but m r best p x y z of off one None asked = by_case (refutes m (seen_at r best None) (Triple p.0 x.0 y.0 z.0)) refl
  where
    by_case : (t : Bool) → refutes m (seen_at r best None) (Triple p.0 x.0 y.0 z.0) ≡ t → refutes m (seen_at r best None) (Triple p.0 x.0 y.0 z.0) ≡ false
    by_case false e = e
    by_case true e = absurd (off (circle_of m (seen_at r best None) p x y z e).third.order)
silent_but m r best p x y z of off one (Some g) asked = by_case (refutes m (seen_at r best (Some g)) (Triple p.0 x.0 y.0 z.0)) refl
  where
    free : admits r g ≡ true
    free = (both_true (admits r g) (is_end r (topic g)) (both_true (lists m (Triple p.0 x.0 y.0 z.0) g) (is_open_end r g) asked).1).0

    at : (g : Guess) → g ≡ Before p z x → admits r g ≡ true → refutes m (seen_at r best (Some g)) (Triple p.0 x.0 y.0 z.0) ≡ false
    at g e free = subst (λ h. refutes m (seen_at r best (Some h)) (Triple p.0 x.0 y.0 z.0) ≡ false) (sym e) (one (subst (λ h. admits r h ≡ true) e free))

    by_case : (t : Bool) → refutes m (seen_at r best (Some g)) (Triple p.0 x.0 y.0 z.0) ≡ t → refutes m (seen_at r best (Some g)) (Triple p.0 x.0 y.0 z.0) ≡ false
    by_case false e = e
    by_case true e = elim (precedes_under m r (topic g) p z x of free (circle_of m (seen_at r best (Some g)) p x y z e).third.order) [
      | inl before ↦ absurd (off before)
      | inr asks ↦ at g (before_is p z x g asks) free
    ]

unknown_not_forward : Unknown ≡ Forward → ⊥
unknown_not_forward h = cc

backward_not_forward : Backward ≡ Forward → ⊥
backward_not_forward h = cc

pub unknown_silent : (m : Data) (r : Region) (best : Option ℤ) (p : Seq) (x y z : Itv) → IsRegionOf m r → order_in (cells_of r p) z x ≡ Unknown → (admits r (Before p z x) && refutes m (seen_at r best (Some (Before p z x))) (Triple p.0 x.0 y.0 z.0)) ≡ false
    → IsSilent m r best (Triple p.0 x.0 y.0 z.0)
unknown_silent m r best p x y z of is none = silent_but m r best p x y z of (not_told r p z x Unknown is unknown_not_forward) (unless (admits r (Before p z x)) _ none)
  where
    unless : (s t : Bool) → (s && t) ≡ false → s ≡ true → t ≡ false
    unless true t h e = h
    unless false t h e = absurd (true≢false (sym e))

pub backward_silent : (m : Data) (r : Region) (best : Option ℤ) (p : Seq) (x y z : Itv) → IsRegionOf m r → order_in (cells_of r p) z x ≡ Backward → IsSilent m r best (Triple p.0 x.0 y.0 z.0)
backward_silent m r best p x y z of is = silent_but m r best p x y z of (not_told r p z x Backward is backward_not_forward) (λ free. absurd (open_not_backward (order_in (cells_of r p) z x) is (paired r p z x free).is_open.unknown))
  where
    open_not_backward : (o : OrderCell) → o ≡ Backward → says_unknown o ≡ true → ⊥
    open_not_backward Backward e h = cc
    open_not_backward Forward e h = cc
    open_not_backward Unknown e h = cc

-- where all three orders are told, only presences are open
pub listed_three : (x y z u : Itv) → has (x ∷ y ∷ z ∷ []) u ≡ true → (u ≡ x) ⊎ ((u ≡ y) ⊎ (u ≡ z))
listed_three x y z u h = elim (has_cases (same u x) (has (y ∷ z ∷ []) u) h) [
  | inl first ↦ inl (same_is u x first)
  | inr rest ↦ elim (has_cases (same u y) (has (z ∷ []) u) rest) [
    | inl second ↦ inr (inl (same_is u y second))
    | inr last ↦ elim (has_cases (same u z) false last) [ inl third ↦ inr (inr (same_is u z third)) | inr none ↦ cc ]
  ]
]

three_ways : (s t u : Bool) → (s || t || u) ≡ true → (s ≡ true) ⊎ ((t ≡ true) ⊎ (u ≡ true))
three_ways true t u h = inl refl
three_ways false true u h = inr (inl refl)
three_ways false false true h = inr (inr refl)
three_ways false false false h = cc

pub order_listed : (p : Seq) (x y z : Itv) (q : Seq) (u v : Itv) → asks_circle p x y z (Two q u v) ≡ true → (Before q u v ≡ Before p x y) ⊎ ((Before q u v ≡ Before p y z) ⊎ (Before q u v ≡ Before p z x))
order_listed p x y z q u v h = elim (three_ways (asks_order p x y (Two q u v)) (asks_order p y z (Two q u v)) (asks_order p z x (Two q u v)) h) [
  | inl one ↦ inl (before_is p x y (Before q u v) one)
  | inr (inl two) ↦ inr (inl (before_is p y z (Before q u v) two))
  | inr (inr three) ↦ inr (inr (before_is p z x (Before q u v) three))
]

present_not_open : (p : Presence) → says_present p ≡ true → says_maybe p ≡ false
present_not_open presence.Present h = refl
present_not_open presence.Absent h = cc
present_not_open presence.Maybe h = cc

pub there_closed : (r : Region) (y : Itv) → is_there r y ≡ true → admits r (Present y) ≡ true → ⊥
there_closed r y there free = true≢false (sym (both_true (nat_lt y.0 (length r.bounds)) (says_maybe (bounds_of r y).presence) free).1 ∙ present_not_open (bounds_of r y).presence there)

abbrev pub FailsUnder : Data → Region → Option ℤ → Seq → Itv → Itv → Itv → Guess → Type 0
FailsUnder m r best p x y z g = (admits r g && refutes m (seen_at r best (Some g)) (Triple p.0 x.0 y.0 z.0)) ≡ false

fails : (m : Data) (r : Region) (best : Option ℤ) (p : Seq) (x y z : Itv) (g : Guess) → FailsUnder m r best p x y z g → admits r g ≡ true → refutes m (seen_at r best (Some g)) (Triple p.0 x.0 y.0 z.0) ≡ false
fails m r best p x y z g none free = unless (admits r g) _ none free
  where
    unless : (s t : Bool) → (s && t) ≡ false → s ≡ true → t ≡ false
    unless true t h e = h
    unless false t h e = absurd (true≢false (sym e))

pub forward_silent : (m : Data) (r : Region) (best : Option ℤ) (p : Seq) (x y z : Itv) → IsMet r p x y z → order_in (cells_of r p) z x ≡ Forward → refutes m (seen_at r best None) (Triple p.0 x.0 y.0 z.0) ≡ false → FailsUnder m r best p x y z (Present x)
    → FailsUnder m r best p x y z (Present z) → IsSilent m r best (Triple p.0 x.0 y.0 z.0)
forward_silent m r best p x y z met is plain one other None asked = plain
forward_silent m r best p x y z met is plain one other (Some g) asked = at g two.0 (both_true (admits r g) (is_end r (topic g)) two.1).0
  where
    two : (lists m (Triple p.0 x.0 y.0 z.0) g ≡ true) × (is_open_end r g ≡ true)
    two = both_true (lists m (Triple p.0 x.0 y.0 z.0) g) (is_open_end r g) asked

    present : (u : Itv) → u ≡ x → admits r (Present u) ≡ true → refutes m (seen_at r best (Some (Present u))) (Triple p.0 x.0 y.0 z.0) ≡ false
    present u e free = subst (λ (w : Itv). refutes m (seen_at r best (Some (Present w))) (Triple p.0 x.0 y.0 z.0) ≡ false) (sym e) (fails m r best p x y z (Present x) one (subst (λ (w : Itv). admits r (Present w) ≡ true) e free))

    present_last : (u : Itv) → u ≡ z → admits r (Present u) ≡ true → refutes m (seen_at r best (Some (Present u))) (Triple p.0 x.0 y.0 z.0) ≡ false
    present_last u e free = subst (λ (w : Itv). refutes m (seen_at r best (Some (Present w))) (Triple p.0 x.0 y.0 z.0) ≡ false) (sym e) (fails m r best p x y z (Present z) other (subst (λ (w : Itv). admits r (Present w) ≡ true) e free))

    free_at : (g h : Guess) → g ≡ h → admits r g ≡ true → admits r h ≡ true
    free_at g h e free = subst (λ k. admits r k ≡ true) e free

    at : (g : Guess) → lists m (Triple p.0 x.0 y.0 z.0) g ≡ true → admits r g ≡ true → refutes m (seen_at r best (Some g)) (Triple p.0 x.0 y.0 z.0) ≡ false
    at (Present u) listed free = elim (listed_three x y z u listed) [
      | inl first ↦ present u first free
      | inr (inl second) ↦ absurd (there_closed r y met.middle (subst (λ (w : Itv). admits r (Present w) ≡ true) second free))
      | inr (inr third) ↦ present_last u third free
    ]
    at (Before q u v) listed free = elim (order_listed p x y z q u v listed) [
      | inl e ↦ absurd (told_closed r p x y met.first (free_at (Before q u v) (Before p x y) e free))
      | inr (inl e) ↦ absurd (told_closed r p y z met.second (free_at (Before q u v) (Before p y z) e free))
      | inr (inr e) ↦ absurd (told_closed r p z x (forward_told r p z x is) (free_at (Before q u v) (Before p z x) e free))
    ]
    at (Absent u) listed free = cc
    at (StartLe u t) listed free = cc
    at (StartGe u t) listed free = cc
    at (EndLe u t) listed free = cc
    at (EndGe u t) listed free = cc

-- turns
turned_three : (s t u : Bool) → (s || t || u) ≡ true → (t || u || s) ≡ true
turned_three true true true h = refl
turned_three true true false h = refl
turned_three true false true h = refl
turned_three true false false h = refl
turned_three false true u h = refl
turned_three false false true h = refl
turned_three false false false h = cc

turned_has : (x y z u : Itv) → has (x ∷ y ∷ z ∷ []) u ≡ true → has (y ∷ z ∷ x ∷ []) u ≡ true
turned_has x y z u h = elim (has_cases (same u x) (has (y ∷ z ∷ []) u) h) [
  | inl first ↦ or_right (same u y) _ (or_right (same u z) _ (or_left (same u x) false first))
  | inr rest ↦ elim (has_cases (same u y) (has (z ∷ []) u) rest) [
    | inl second ↦ or_left (same u y) _ second
    | inr last ↦ elim (has_cases (same u z) false last) [ inl third ↦ or_right (same u y) _ (or_left (same u z) _ third) | inr none ↦ cc ]
  ]
]

turned_lists : (m : Data) (p x y z : ℕ) (g : Guess) → lists m (Triple p x y z) g ≡ true → lists m (Triple p y z x) g ≡ true
turned_lists m p x y z (Present u) h = turned_has (record { 0 = x }) (record { 0 = y }) (record { 0 = z }) u h
turned_lists m p x y z (Before q u v) h = turned_three (asks_order (record { 0 = p }) (record { 0 = x }) (record { 0 = y }) (Two q u v)) (asks_order (record { 0 = p }) (record { 0 = y }) (record { 0 = z }) (Two q u v)) (asks_order (record { 0 = p }) (record { 0 = z }) (record { 0 = x }) (Two q u v)) h
turned_lists m p x y z (Absent u) h = cc
turned_lists m p x y z (StartLe u t) h = cc
turned_lists m p x y z (StartGe u t) h = cc
turned_lists m p x y z (EndLe u t) h = cc
turned_lists m p x y z (EndGe u t) h = cc

turned_asked : (m : Data) (r : Region) (p x y z : ℕ) (guess : Option Guess) → is_asked (lists m (Triple p x y z)) r guess ≡ true → is_asked (lists m (Triple p y z x)) r guess ≡ true
turned_asked m r p x y z None asked = refl
turned_asked m r p x y z (Some g) asked =
    let two = both_true (lists m (Triple p x y z) g) (is_open_end r g) asked in
    true_both (lists m (Triple p y z x) g) (is_open_end r g) (turned_lists m p x y z g two.0) two.1

turned_refutes : (m : Data) (l : Seen) (p x y z : ℕ) → refutes m l (Triple p x y z) ≡ true → refutes m l (Triple p y z x) ≡ true
turned_refutes m l p x y z h =
    let seq : Seq = record { 0 = p } in
    let a : Itv = record { 0 = x } in
    let b : Itv = record { 0 = y } in
    let c : Itv = record { 0 = z } in
    let both = both_true (is_valid (Triple p x y z)) (row_of m l (Triple p x y z)) h in
    let v = four_true (is_number p) (is_number x) (is_number y) (is_number z) both.0 in
    let each = three_true (stand l.region seq a b) (stand l.region seq b c) (stand l.region seq c a) both.1 in
    true_both (is_valid (Triple p y z x)) (row_of m l (Triple p y z x))
    (true_both (is_number p && is_number y && is_number z) (is_number x) (all_three (is_number p) (is_number y) (is_number z) v.0 v.2 v.3) v.1)
    (all_three (stand l.region seq b c) (stand l.region seq c a) (stand l.region seq a b) each.1 each.2 each.0)

-- a circle that is refuted in a look is one that is asked, in one of three turns
abbrev pub MetInTurn : Region → Seq → Itv → Itv → Itv → Type 0
MetInTurn r p x y z = IsMet r p x y z ⊎ (IsMet r p y z x ⊎ IsMet r p z x y)

met_plain : (r : Region) (p : Seq) (x y z : Itv) → IsCircle r p x y z → IsMet r p x y z
met_plain r p x y z c = record { middle = c.second.first; first = c.first.order; second = c.second.order }

other_one : (u y : Itv) → same u y ≡ false → touches (One u claim.Present) y ≡ false
other_one u y h = same_turned u y h

met_present : (r : Region) (p : Seq) (x y z u : Itv) → IsCircle (with_guess (Present u) r) p x y z → MetInTurn r p x y z
met_present r p x y z u c = by_case (same u y) refl
  where
    turned_off : (z : Itv) → u ≡ y → same y z ≡ false → same u z ≡ false
    turned_off z e h = subst (λ (w : Itv). same w z ≡ false) (sym e) h

    by_case : (t : Bool) → same u y ≡ t → MetInTurn r p x y z
    by_case false off = inl (record { middle = there_before r (One u claim.Present) y (other_one u y off) c.second.first; first = c.first.order; second = c.second.order })
    by_case true is = inr (inl (record {
      middle = there_before r (One u claim.Present) z (other_one u z (turned_off z (same_is u y is) (apart r p y z c.second.order))) c.third.first;
      first = c.second.order;
      second = c.third.order;
    }))

-- two of which one is told to stand before the other by a guess, and a third
neither : (x a b : Itv) → same x a ≡ false → same x b ≡ false → (same x a || same x b) ≡ false
neither x a b h k = rw h k

kept_order : (m : Data) (r : Region) (p : Seq) (a b x y : Itv) → IsRegionOf m r → admits r (Before p a b) ≡ true → (asks_order p x y (Two p a b) ≡ true → ⊥) → precedes (with_guess (Before p a b) r) p x y ≡ true → precedes r p x y ≡ true
kept_order m r p a b x y of free off h = elim (precedes_under m r (Two p a b) p x y of free h) [ inl before ↦ before | inr asks ↦ absurd (off asks) ]

first_differs : (p : Seq) (x y a b : Itv) → same x a ≡ false → asks_order p x y (Two p a b) ≡ true → ⊥
first_differs p x y a b off h =
    let three = both_true (nat_eq p.0 p.0 && same x a) (same y b) h in
    true≢false (sym (both_true (nat_eq p.0 p.0) (same x a) three.0).1 ∙ off)

met_third : (m : Data) (r : Region) (p : Seq) (a b c : Itv) → IsRegionOf m r → admits r (Before p a b) ≡ true → IsCircle (with_guess (Before p a b) r) p a b c → IsMet r p b c a
met_third m r p a b c of free i =
    let q = with_guess (Before p a b) r in
    let bc = apart q p b c i.second.order in
    let ca = apart q p c a i.third.order in
    record {
      middle = there_before r (Two p a b) c (neither c a b ca (same_turned b c bc)) i.third.first;
      first = kept_order m r p a b b c of free (first_differs p b c a b (same_turned a b (apart q p a b i.first.order))) i.second.order;
      second = kept_order m r p a b c a of free (first_differs p c a a b ca) i.third.order;
    }

turned_circle : (q : Region) (p : Seq) (x y z : Itv) → IsCircle q p x y z → IsCircle q p y z x
turned_circle q p x y z c = record { first = c.second; second = c.third; third = c.first }

met_before : (m : Data) (r : Region) (p : Seq) (x y z : Itv) (g : Guess) → IsRegionOf m r → admits r g ≡ true → IsCircle (with_guess g r) p x y z → (g ≡ Before p x y) ⊎ ((g ≡ Before p y z) ⊎ (g ≡ Before p z x)) → MetInTurn r p x y z
met_before m r p x y z g of free c (inl e) = inr (inl (met_third m r p x y z of (subst (λ h. admits r h ≡ true) e free) (subst (λ h. IsCircle (with_guess h r) p x y z) e c)))
met_before m r p x y z g of free c (inr (inl e)) = inr (inr (met_third m r p y z x of (subst (λ h. admits r h ≡ true) e free) (turned_circle (with_guess (Before p y z) r) p x y z (subst (λ h. IsCircle (with_guess h r) p x y z) e c))))
met_before m r p x y z g of free c (inr (inr e)) =
    let k = subst (λ h. IsCircle (with_guess h r) p x y z) e c in
    inl (met_third m r p z x y of (subst (λ h. admits r h ≡ true) e free) (record { first = k.third; second = k.first; third = k.second }))

met : (m : Data) (r : Region) (p : Seq) (x y z : Itv) (guess : Option Guess) → IsRegionOf m r → is_asked (lists m (Triple p.0 x.0 y.0 z.0)) r guess ≡ true → IsCircle (looked_at guess r) p x y z → MetInTurn r p x y z
met m r p x y z None of asked c = inl (met_plain r p x y z c)
met m r p x y z (Some g) of asked c = at g two.0 (both_true (admits r g) (is_end r (topic g)) two.1).0 c
  where
    two : (lists m (Triple p.0 x.0 y.0 z.0) g ≡ true) × (is_open_end r g ≡ true)
    two = both_true (lists m (Triple p.0 x.0 y.0 z.0) g) (is_open_end r g) asked

    at : (g : Guess) → lists m (Triple p.0 x.0 y.0 z.0) g ≡ true → admits r g ≡ true → IsCircle (with_guess g r) p x y z → MetInTurn r p x y z
    at (Present u) listed free c = met_present r p x y z u c
    at (Before q u v) listed free c = met_before m r p x y z (Before q u v) of free c (order_listed p x y z q u v listed)
    at (Absent u) listed free c = cc
    at (StartLe u t) listed free c = cc
    at (StartGe u t) listed free c = cc
    at (EndLe u t) listed free c = cc
    at (EndGe u t) listed free c = cc

-- so a sequence is quiet where what is asked is silent
abbrev pub EachMet : Data → Region → Option ℤ → Seq → Type 0
EachMet m r best p = (x y z : Itv) → has (members_of m p) x ≡ true → has (members_of m p) y ≡ true → has (members_of m p) z ≡ true → IsMet r p x y z → IsSilent m r best (Triple p.0 x.0 y.0 z.0)

silent_turned : (m : Data) (r : Region) (best : Option ℤ) (p : Seq) (x y z : Itv) → IsRegionOf m r → EachMet m r best p → has (members_of m p) x ≡ true → has (members_of m p) y ≡ true → has (members_of m p) z ≡ true → IsSilent m r best (Triple p.0 x.0 y.0 z.0)
silent_turned m r best p x y z of each one two three guess asked = by_case (refutes m (seen_at r best guess) (Triple p.0 x.0 y.0 z.0)) refl
  where
    l : Seen
    l = seen_at r best guess

    once : refutes m l (Triple p.0 x.0 y.0 z.0) ≡ true → refutes m l (Triple p.0 y.0 z.0 x.0) ≡ true
    once e = turned_refutes m l p.0 x.0 y.0 z.0 e

    by_case : (t : Bool) → refutes m l (Triple p.0 x.0 y.0 z.0) ≡ t → refutes m l (Triple p.0 x.0 y.0 z.0) ≡ false
    by_case false e = e
    by_case true e = elim (met m r p x y z guess of asked (circle_of m l p x y z e)) [
      | inl here ↦ each x y z one two three here guess asked
      | inr (inl here) ↦ absurd (true≢false (sym (once e) ∙ each y z x two three one here guess (turned_asked m r p.0 x.0 y.0 z.0 guess asked)))
      | inr (inr here) ↦
          absurd (true≢false (sym (turned_refutes m l p.0 y.0 z.0 x.0 (once e)) ∙ each z x y three one two here guess (turned_asked m r p.0 y.0 z.0 x.0 guess (turned_asked m r p.0 x.0 y.0 z.0 guess asked))))
    ]

pub circles_quiet : (m : Data) (r : Region) (best : Option ℤ) (p : Seq) → IsRegionOf m r → EachOf (SilentAt m r best p (members_of m p)) (members_of m p) → quiet m (length m.constraints + p.0) r best
circles_quiet m r best p of each = sequence_quiet m p r best of (silent_turned_all)
  where
    asked_for : EachMet m r best p
    asked_for x y z one two three here = each y two here.middle x one here.first z three here.second

    silent_turned_all : (x y z : Itv) → has (members_of m p) x ≡ true → has (members_of m p) y ≡ true → has (members_of m p) z ≡ true → IsSilent m r best (Triple p.0 x.0 y.0 z.0)
    silent_turned_all x y z = silent_turned m r best p x y z of asked_for
