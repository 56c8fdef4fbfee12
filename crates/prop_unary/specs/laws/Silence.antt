-- Where the numbers and the order of two members say that PAIR is silent, it is.
use Rattle.std.specs.Prelude.{◌≡◌, ◌⊎◌, ℕ, zero, suc, ◌<◌, ℤ, pos, ◌+ℤ◌, ◌≤ℤ◌, ◌<ℤ◌, Bool, true, false, not, ◌&&◌, ◌||◌, List, [], ◌∷◌, Option, Some, None, is_some, int_le, int_lt, nat_eq, nat_lt}
use Rattle.std.specs.Int.{int_max}
use Rattle.std.proofs.Common.{inl, inr, refl, sym, ap, subst, ◌∙◌, arith, get_or}
use Rattle.std.proofs.lemmas.Bool.{true≢false, or_left, or_right}
use Rattle.std.proofs.lemmas.Bool.Decides.{nat_tests}
use Rattle.std.proofs.lemmas.Int.{ints}
use Rattle.sched_base.specs.declared.ids.Itv.{Itv}
use Rattle.sched_base.specs.declared.ids.Seq.{Seq}
use Rattle.sched_model.specs.Words.{◌implies◌, passes}
use Rattle.sched_model.specs.Data.{Data, same, has, gap}
use Rattle.region.specs.declared.types.Bounds.{Bounds}
use Rattle.region.specs.declared.types.OrderCell.{OrderCell}
use Rattle.region.specs.declared.types.OrderCell.TheVariants.{Unknown, Forward, Backward}
use Rattle.region.specs.declared.types.Claim.{Claim}
use Rattle.region.specs.declared.types.Claim.TheVariants as claim
use Rattle.region.specs.declared.types.Topic.{Topic}
use Rattle.region.specs.declared.types.Topic.TheVariants.{One, Two}
use Rattle.region.specs.declared.types.Guess.{Guess}
use Rattle.region.specs.Claims.{guessed, as_present, as_absent, is_open_at}
use Rattle.region.specs.Orders.{order_in, is_before, says_unknown, known_order}
use Rattle.region.specs.Cells.{Region, bounds_of, cells_of, is_there, says_present, says_absent, unknown}
use Rattle.region.specs.Guesses.{admits, admits_topic, assumed, topic, with_bounds, changed_at}
use Rattle.region.specs.Looks.{IsRegionOf, Seen, seen_at, ect_in, lst_in, ect_of, lst_of}
use Rattle.region.specs.laws.Intervals.{bounds_there, bounds_elsewhere}
use Rattle.region.specs.laws.Lists.{both_true, true_both}
use Rattle.region.specs.laws.OneSequence.{same_is, same_self, has_cases}
use Rattle.region.specs.laws.Pairs.{paired}
use Rattle.base_laws.specs.laws.Truth.{alone, four_true}
use Rattle.findings.specs.declared.finding.Pair.{Pair as PairOf}
use Rattle.findings.specs.Ends.{is_open_end, is_end, is_end_at}
use Rattle.findings.specs.code.Numbers.{highest_end, lowest_start}
use Rattle.findings.specs.code.Reads.{IsUnrefuted, is_among}
use Rattle.findings.specs.laws.Members.{one_of_two}
use Rattle.findings.specs.laws.Kept.{asked_more}
use Rattle.findings.specs.laws.Numbers.{least_start, greatest_end, plain_start}
use Rattle.findings.specs.laws.Open.{not_absent, open_not_absent}
use Rattle.refute_seq.specs.declared.witness.SeqWitness.TheVariants.{Pair}
use Rattle.refute_seq.specs.Witness.{is_valid}
use Rattle.refute_seq.specs.Standing.{stand, precedes, are_next}
use Rattle.refute_seq.specs.Pair.{pair_case, pair_of}
use Rattle.refute_seq.specs.Listed.{lists, asks_order, asks_two, asks_pair}
use Rattle.refute_seq.specs.OnSequence.{refutes, row_of}
use Rattle.refute_basic.specs.laws.Told.{AreTold, told}
use Rattle.prop_unary.specs.declared.disjunctive.Disjunctive.{Disjunctive}
use Rattle.prop_unary.specs.code.Tasks.{IsSilent}
use Rattle.prop_unary.specs.code.Silence.{IsDisjunctive, stays_in_time, is_silent_two, is_silent_order, reach, is_silent_pair, AreSilent}
use Rattle.prop_unary.specs.laws.Under.{different, never_itself, precedes_under, order_forward, told_closed}
use Rattle.base_laws.specs.laws.Numbers.{turned_number}

-- what it shows that PAIR refutes: two stand so that the first is too late for the second, with the greatest distance
pub record IsLate (m : Data) (q : Region) (d : Disjunctive) (a b : Itv) : Type 0 where
  pub stands : stand q d.p a b ≡ true
  pub late : lst_of q b <ℤ (ect_of q a +ℤ reach m d.p d.matrix a b)

beyond : (l e g : ℤ) → int_lt l e ≡ true → l <ℤ (e +ℤ int_max (pos 0) g)
beyond l e g h = grind (arith, ints)

beyond_gap : (l e g : ℤ) → int_lt l (e +ℤ g) ≡ true → l <ℤ (e +ℤ int_max (pos 0) g)
beyond_gap l e g h = grind (arith, ints)

case_late : (m : Data) (q : Region) (k : ℕ) (a b : Itv) (d : Disjunctive) → pair_case m q k a b d.p d.matrix d.direct ≡ true → IsLate m q d a b
case_late m q k a b d h =
    let over = nat_eq k 0 && int_lt (lst_of q b) (ect_of q a) in
    let near = nat_eq k 1 && is_some d.matrix && int_lt (lst_of q b) (ect_of q a +ℤ gap m d.p d.matrix a b) && (d.direct implies are_next m q d.p a b) in
    let two = both_true (stand q d.p a b) (over || near) h in
    record {
      stands = two.0;
      late = elim (has_cases over near two.1) [
        | inl e ↦ beyond (lst_of q b) (ect_of q a) (gap m d.p d.matrix a b) (both_true (nat_eq k 0) (int_lt (lst_of q b) (ect_of q a)) e).1
        | inr e ↦ beyond_gap (lst_of q b) (ect_of q a) (gap m d.p d.matrix a b)
            (four_true (nat_eq k 1) (is_some d.matrix) (int_lt (lst_of q b) (ect_of q a +ℤ gap m d.p d.matrix a b)) (d.direct implies are_next m q d.p a b) e).2
      ];
    }

pub refuting_late : (m : Data) (l : Seen) (d : Disjunctive) (a b : Itv) (k : ℕ) → IsDisjunctive m d → refutes m l (Pair d.c a.0 b.0 k) ≡ true → IsLate m l.region d a b
refuting_late m l d a b k is h = case_late m l.region k a b d (subst (λ o. passes (pair_of m l.region k a b) o ≡ true) is (both_true (is_valid (Pair d.c a.0 b.0 k)) (row_of m l (Pair d.c a.0 b.0 k)) h).1)

-- what the test says of two of which neither is absent
silent_there : (o : OrderCell) (c d : Bounds) (n : ℤ) → is_silent_two o c d n ≡ true → says_absent c.presence ≡ false → says_absent d.presence ≡ false → is_silent_order o c d n ≡ true
silent_there o c d n h one other = unless (says_absent c.presence) (says_absent d.presence) (is_silent_order o c d n) h one other
  where
    unless : (p q s : Bool) → (p || q || s) ≡ true → p ≡ false → q ≡ false → s ≡ true
    unless true q s h f g = absurd (true≢false f)
    unless false true s h f g = absurd (true≢false g)
    unless false false s h f g = h

in_time : (p x : Bool) → p ≡ true → (not p || x) ≡ true → x ≡ true
in_time true x e h = h
in_time false x e h = absurd (true≢false (sym e))

le : (a b : ℤ) → int_le a b ≡ true → a ≤ℤ b
le a b h = grind (arith, ints)

-- too late under a guess on the first, on the second, on neither
late_first : (e h n l : ℤ) → e ≤ℤ h → int_le (h +ℤ n) l ≡ true → l <ℤ (e +ℤ n) → ⊥
late_first e h n l up fits late = grind (arith, ints, up, fits, late)

late_second : (e n low l : ℤ) → low ≤ℤ l → int_le (e +ℤ n) low ≡ true → l <ℤ (e +ℤ n) → ⊥
late_second e n low l down fits late = grind (arith, ints, down, fits, late)

late_neither : (e n l : ℤ) → int_le (e +ℤ n) l ≡ true → l <ℤ (e +ℤ n) → ⊥
late_neither e n l fits late = grind (arith, ints, fits, late)

below : (i n : ℕ) → nat_lt i n ≡ true → i < n
below i n h = grind (arith, nat_tests)

-- of the region as it stands
forward_test : (m : Data) (r : Region) (d : Disjunctive) (a b : Itv) → is_silent_pair m r d a b ≡ true → precedes r d.p a b ≡ true → says_absent (bounds_of r a).presence ≡ false → says_absent (bounds_of r b).presence ≡ false
    → stays_in_time (bounds_of r a) (bounds_of r b) (reach m d.p d.matrix a b) ≡ true
forward_test m r d a b h before one other =
    silent_there Forward (bounds_of r a) (bounds_of r b) (reach m d.p d.matrix a b)
    (subst (λ o. is_silent_two o (bounds_of r a) (bounds_of r b) (reach m d.p d.matrix a b) ≡ true) (order_forward r d.p a b before) h) one other

never_plain : (m : Data) (r : Region) (d : Disjunctive) (a b : Itv) → is_silent_pair m r d a b ≡ true → IsLate m r d a b → ⊥
never_plain m r d a b h late =
    let t = told r d.p a b late.stands in
    let c = bounds_of r a in
    let n = reach m d.p d.matrix a b in
    let test = forward_test m r d a b h t.order (not_absent (bounds_of r a).presence t.first) (not_absent (bounds_of r b).presence t.second) in
    let second = both_true (not (says_present c.presence) || int_le (ect_in c +ℤ n) (lowest_start (bounds_of r b))) (not (says_present (bounds_of r b).presence) || int_le (highest_end c +ℤ n) (lst_in (bounds_of r b))) test in
    late_second (ect_in c) n (lowest_start (bounds_of r b)) (lst_in (bounds_of r b)) (plain_start (bounds_of r b)) (in_time (says_present c.presence) (int_le (ect_in c +ℤ n) (lowest_start (bounds_of r b))) t.first second.0) late.late

-- under a guess on the first
never_first : (m : Data) (r : Region) (d : Disjunctive) (a b : Itv) (k : Claim) → same a b ≡ false → is_silent_pair m r d a b ≡ true → admits_topic r (One a k) ≡ true → is_end_at k (bounds_of r a) ≡ true → IsLate m (with_bounds a (guessed k) r) d a b → ⊥
never_first m r d a b k other h free end late =
    let q = with_bounds a (guessed k) r in
    let two = both_true (nat_lt a.0 _) (is_open_at k (bounds_of r a)) free in
    let within = below a.0 _ two.0 in
    let t = told q d.p a b late.stands in
    let n = reach m d.p d.matrix a b in
    let first : bounds_of q a ≡ guessed k (bounds_of r a) = bounds_there a (guessed k) r within in
    let second : bounds_of q b ≡ bounds_of r b = bounds_elsewhere a b (guessed k) r (λ e. different a.0 b.0 (sym e) other) in
    let there : says_present (bounds_of r b).presence ≡ true = sym (ap (λ c. says_present c.presence) second) ∙ t.second in
    let test = forward_test m r d a b h t.order (open_not_absent k (bounds_of r a) two.1) (not_absent (bounds_of r b).presence there) in
    let fits = both_true (not (says_present (bounds_of r a).presence) || int_le (ect_in (bounds_of r a) +ℤ n) (lowest_start (bounds_of r b))) (not (says_present (bounds_of r b).presence) || int_le (highest_end (bounds_of r a) +ℤ n) (lst_in (bounds_of r b))) test in
    late_first (ect_in (guessed k (bounds_of r a))) (highest_end (bounds_of r a)) n (lst_in (bounds_of r b)) (greatest_end k (bounds_of r a) end)
    (in_time (says_present (bounds_of r b).presence) (int_le (highest_end (bounds_of r a) +ℤ n) (lst_in (bounds_of r b))) there fits.1)
    (subst (λ c. lst_in (bounds_of r b) <ℤ (ect_in c +ℤ n)) first (subst (λ c. lst_in c <ℤ (ect_in (bounds_of q a) +ℤ n)) second late.late))

-- on the second
never_second : (m : Data) (r : Region) (d : Disjunctive) (a b : Itv) (k : Claim) → same a b ≡ false → is_silent_pair m r d a b ≡ true → admits_topic r (One b k) ≡ true → is_end_at k (bounds_of r b) ≡ true → IsLate m (with_bounds b (guessed k) r) d a b → ⊥
never_second m r d a b k other h free end late =
    let q = with_bounds b (guessed k) r in
    let two = both_true (nat_lt b.0 _) (is_open_at k (bounds_of r b)) free in
    let within = below b.0 _ two.0 in
    let t = told q d.p a b late.stands in
    let n = reach m d.p d.matrix a b in
    let second : bounds_of q b ≡ guessed k (bounds_of r b) = bounds_there b (guessed k) r within in
    let first : bounds_of q a ≡ bounds_of r a = bounds_elsewhere b a (guessed k) r (λ e. different a.0 b.0 e other) in
    let there : says_present (bounds_of r a).presence ≡ true = sym (ap (λ c. says_present c.presence) first) ∙ t.first in
    let test = forward_test m r d a b h t.order (not_absent (bounds_of r a).presence there) (open_not_absent k (bounds_of r b) two.1) in
    let fits = both_true (not (says_present (bounds_of r a).presence) || int_le (ect_in (bounds_of r a) +ℤ n) (lowest_start (bounds_of r b))) (not (says_present (bounds_of r b).presence) || int_le (highest_end (bounds_of r a) +ℤ n) (lst_in (bounds_of r b))) test in
    late_second (ect_in (bounds_of r a)) n (lowest_start (bounds_of r b)) (lst_in (guessed k (bounds_of r b))) (least_start k (bounds_of r b) end)
    (in_time (says_present (bounds_of r a).presence) (int_le (ect_in (bounds_of r a) +ℤ n) (lowest_start (bounds_of r b))) there fits.0)
    (subst (λ c. lst_in (guessed k (bounds_of r b)) <ℤ (ect_in c +ℤ n)) first (subst (λ c. lst_in c <ℤ (ect_in (bounds_of q a) +ℤ n)) second late.late))

-- on their order, which leaves the numbers as they are
kept_number : (h : Bounds → ℤ) → ((c : Bounds) → h (as_present c) ≡ h c) → (n i : ℕ) (cs : List Bounds) → h (get_or (changed_at n as_present cs) i unknown) ≡ h (get_or cs i unknown)
kept_number h keeps n i [] = refl
kept_number h keeps zero zero (c ∷ cs) = keeps c
kept_number h keeps zero (suc i) (c ∷ cs) = refl
kept_number h keeps (suc n) zero (c ∷ cs) = refl
kept_number h keeps (suc n) (suc i) (c ∷ cs) = kept_number h keeps n i cs

number_under : (h : Bounds → ℤ) → ((c : Bounds) → h (as_present c) ≡ h c) → (r : Region) (p : Seq) (u v x : Itv) → h (bounds_of (assumed (Two p u v) r) x) ≡ h (bounds_of r x)
number_under h keeps r p u v x = kept_number h keeps u.0 x.0 (with_bounds v as_present r).bounds ∙ kept_number h keeps v.0 x.0 r.bounds

is_unknown : (o : OrderCell) → says_unknown o ≡ true → o ≡ Unknown
is_unknown Unknown h = refl
is_unknown Forward h = cc
is_unknown Backward h = cc

never_ordered : (m : Data) (r : Region) (d : Disjunctive) (a b : Itv) → is_silent_pair m r d a b ≡ true → admits_topic r (Two d.p a b) ≡ true → IsLate m (assumed (Two d.p a b) r) d a b → ⊥
never_ordered m r d a b h free late =
    let o = paired r d.p a b free in
    let n = reach m d.p d.matrix a b in
    let test = silent_there Unknown (bounds_of r a) (bounds_of r b) n (subst (λ o. is_silent_two o (bounds_of r a) (bounds_of r b) n ≡ true) (is_unknown (order_in (cells_of r d.p) a b) o.is_open.unknown) h) o.one.not_absent o.other.not_absent in
    late_neither (ect_in (bounds_of r a)) n (lst_in (bounds_of r b)) test
    (subst (λ z. z <ℤ (ect_in (bounds_of r a) +ℤ n)) (number_under lst_in (λ c. refl) r d.p a b b)
    (subst (λ z. lst_of (assumed (Two d.p a b) r) b <ℤ (z +ℤ n)) (number_under ect_in (λ c. refl) r d.p a b a) late.late))

-- so under each guess that is listed
abbrev pub is_of_either : Itv → Itv → Itv → Bool
is_of_either a b z = same a z || same b z

pub of_either : (p : Seq) (a b z : Itv) (k : Claim) → asks_two p a b (One z k) ≡ true → is_of_either a b z ≡ true
of_either p a b z claim.Present h = h
of_either p a b z claim.Absent h = cc
of_either p a b z (claim.StartLe t) h = h
of_either p a b z (claim.StartGe t) h = h
of_either p a b z (claim.EndLe t) h = h
of_either p a b z (claim.EndGe t) h = h

same_seq : (p q : Seq) → nat_eq p.0 q.0 ≡ true → p ≡ q
same_seq p q h = let e : p.0 ≡ q.0 = grind (arith, nat_tests) in ap (λ n. record { 0 = n }) e

never_topic : (m : Data) (r : Region) (d : Disjunctive) (a b : Itv) (t : Topic) → same a b ≡ false → is_silent_pair m r d a b ≡ true → asks_two d.p a b t ≡ true → admits_topic r t ≡ true → is_end r t ≡ true → IsLate m (assumed t r) d a b → ⊥
never_topic m r d a b (One z k) other h asks free end late = elim (has_cases (same a z) (same b z) (of_either d.p a b z k asks)) [
  | inl first ↦ at_first z (sym (same_is a z first)) free end late
  | inr second ↦ at_second z (sym (same_is b z second)) free end late
]
  where
    at_first : (z : Itv) → z ≡ a → admits_topic r (One z k) ≡ true → is_end r (One z k) ≡ true → IsLate m (with_bounds z (guessed k) r) d a b → ⊥
    at_first z e free end late =
        never_first m r d a b k other h (subst (λ (y : Itv). admits_topic r (One y k) ≡ true) e free) (subst (λ (y : Itv). is_end r (One y k) ≡ true) e end) (subst (λ (y : Itv). IsLate m (with_bounds y (guessed k) r) d a b) e late)

    at_second : (z : Itv) → z ≡ b → admits_topic r (One z k) ≡ true → is_end r (One z k) ≡ true → IsLate m (with_bounds z (guessed k) r) d a b → ⊥
    at_second z e free end late =
        never_second m r d a b k other h (subst (λ (y : Itv). admits_topic r (One y k) ≡ true) e free) (subst (λ (y : Itv). is_end r (One y k) ≡ true) e end) (subst (λ (y : Itv). IsLate m (with_bounds y (guessed k) r) d a b) e late)
never_topic m r d a b (Two q u v) other h asks free end late = at_order (Two q u v) (is_topic q u v asks) free late
  where
    is_topic : (q : Seq) (u v : Itv) → asks_order d.p a b (Two q u v) ≡ true → Two q u v ≡ Two d.p a b
    is_topic q u v h =
        let three = both_true (nat_eq d.p.0 q.0 && same a u) (same b v) h in
        let two = both_true (nat_eq d.p.0 q.0) (same a u) three.0 in
        same_topic d.p q a u b v (same_seq d.p q two.0) (same_is a u two.1) (same_is b v three.1)
      where
        same_topic : (p q : Seq) (x u y v : Itv) → p ≡ q → x ≡ u → y ≡ v → Two q u v ≡ Two p x y
        same_topic p q x u y v e f g = rw (e, f, g) refl

    at_order : (t : Topic) → t ≡ Two d.p a b → admits_topic r t ≡ true → IsLate m (assumed t r) d a b → ⊥
    at_order t e free late = never_ordered m r d a b h (subst (λ s. admits_topic r s ≡ true) e free) (subst (λ s. IsLate m (assumed s r) d a b) e late)

-- of a constraint without overlap
asks_is : (m : Data) (d : Disjunctive) (a b : Itv) (k : ℕ) (g : Guess) → IsDisjunctive m d → lists m (Pair d.c a.0 b.0 k) g ≡ asks_two d.p a b (topic g)
asks_is m d a b k g is = ap (λ o. asks_pair o a b (topic g)) is

never_asked : (m : Data) (r : Region) (best : Option ℤ) (d : Disjunctive) (a b : Itv) (k : ℕ) (guess : Option Guess) → IsDisjunctive m d
    → ((g : Guess) → asks_two d.p a b (topic g) ≡ true → admits r g ≡ true → is_end r (topic g) ≡ true → IsLate m (assumed (topic g) r) d a b → ⊥) → (IsLate m r d a b → ⊥) → IsSilent m r best (Pair d.c a.0 b.0 k)
never_asked m r best d a b k o is under plain None asked = by_case (refutes m (seen_at r best None) (Pair d.c a.0 b.0 k)) refl
  where
    by_case : (t : Bool) → refutes m (seen_at r best None) (Pair d.c a.0 b.0 k) ≡ t → refutes m (seen_at r best None) (Pair d.c a.0 b.0 k) ≡ false
    by_case false e = e
    by_case true e = absurd (plain (refuting_late m (seen_at r best None) d a b k is e))
never_asked m r best d a b k o is under plain (Some g) asked = by_case (refutes m (seen_at r best (Some g)) (Pair d.c a.0 b.0 k)) refl
  where
    by_case : (t : Bool) → refutes m (seen_at r best (Some g)) (Pair d.c a.0 b.0 k) ≡ t → refutes m (seen_at r best (Some g)) (Pair d.c a.0 b.0 k) ≡ false
    by_case false e = e
    by_case true e =
        let two = both_true (lists m (Pair d.c a.0 b.0 k) g) (is_open_end r g) asked in
        let free = both_true (admits r g) (is_end r (topic g)) two.1 in
        absurd (under g (sym (asks_is m d a b k g is) ∙ two.0) free.0 free.1 (refuting_late m (seen_at r best (Some g)) d a b k is e))

pub silent_pair : (m : Data) (r : Region) (best : Option ℤ) (d : Disjunctive) (a b : Itv) → IsDisjunctive m d → same a b ≡ false → is_silent_pair m r d a b ≡ true → AreSilent m r best d a b
silent_pair m r best d a b is other h k = never_asked m r best d a b k None is (λ g asks free end late. never_topic m r d a b (topic g) other h asks free end late) (never_plain m r d a b h)

-- a member and itself
pub silent_itself : (m : Data) (r : Region) (best : Option ℤ) (d : Disjunctive) (a b : Itv) → IsDisjunctive m d → a ≡ b → AreSilent m r best d a b
silent_itself m r best d a b is same_one k = never_asked m r best d a b k None is (λ g asks free end late. none (assumed (topic g) r) late) (none r)
  where
    none : (q : Region) → IsLate m q d a b → ⊥
    none q late = never_itself q d.p a (subst (λ (z : Itv). precedes q d.p a z ≡ true) (sym same_one) (told q d.p a b late.stands).order)

-- what is asked of the two, and what is listed
abbrev pub pair_of_two : Disjunctive → Itv → Itv → PairOf
pair_of_two d a b = record { sequence = d.p; first = a; second = b }

two_among : (d : Disjunctive) (a b : Itv) (t : Topic) → asks_two d.p a b t ≡ true → is_among (a ∷ b ∷ []) (pair_of_two d a b ∷ []) t ≡ true
two_among d a b (One z k) h = elim (has_cases (same a z) (same b z) (of_either d.p a b z k h)) [
  | inl first ↦ or_left (same z a) _ (turned_number a.0 z.0 first)
  | inr second ↦ or_right (same z a) _ (or_left (same z b) false (turned_number b.0 z.0 second))
]
two_among d a b (Two q u v) h =
    let three = both_true (nat_eq d.p.0 q.0 && same a u) (same b v) h in
    let two = both_true (nat_eq d.p.0 q.0) (same a u) three.0 in
    or_left _ false (true_both (nat_eq q.0 d.p.0) _ (turned_number d.p.0 q.0 two.0)
    (or_left (same u a && same v b) _ (true_both (same u a) (same v b) (turned_number a.0 u.0 two.1) (turned_number b.0 v.0 three.1))))

pub silent_from_asked : (m : Data) (r : Region) (best : Option ℤ) (d : Disjunctive) (a b : Itv) (k : ℕ) → IsDisjunctive m d → IsUnrefuted refutes m r best (Pair d.c a.0 b.0 k) (a ∷ b ∷ []) (pair_of_two d a b ∷ []) → IsSilent m r best (Pair d.c a.0 b.0 k)
silent_from_asked m r best d a b k is none guess asked =
    none guess (asked_more (lists m (Pair d.c a.0 b.0 k)) (λ g. is_among (a ∷ b ∷ []) (pair_of_two d a b ∷ []) (topic g)) r guess (λ g h. two_among d a b (topic g) (sym (asks_is m d a b k g is) ∙ h)) asked)

-- nothing refutes under the others: that one of the two is absent, or that the second stands before the first
never_away : (r : Region) (z : Itv) → admits_topic r (One z claim.Absent) ≡ true → is_there (with_bounds z as_absent r) z ≡ true → ⊥
never_away r z free there =
    let within = below z.0 _ (both_true (nat_lt z.0 _) (is_open_at claim.Absent (bounds_of r z)) free).0 in
    true≢false (sym there ∙ ap (λ c. says_present c.presence) (bounds_there z as_absent r within))

listed_two : (a b z : Itv) → has (a ∷ b ∷ []) z ≡ true → (z ≡ a) ⊎ (z ≡ b)
listed_two a b z h = elim (has_cases (same z a) (same z b || false) h) [
  | inl first ↦ inl (same_is z a first)
  | inr rest ↦ elim (has_cases (same z b) false rest) [ inl second ↦ inr (same_is z b second) | inr none ↦ cc ]
]

either_listed : (a b z : Itv) → has (a ∷ b ∷ []) z ≡ true → is_of_either a b z ≡ true
either_listed a b z h = elim (listed_two a b z h) [
  | inl first ↦ or_left (same a z) (same b z) (subst (λ (y : Itv). same a y ≡ true) (sym first) (same_self a))
  | inr second ↦ or_right (same a z) (same b z) (subst (λ (y : Itv). same b y ≡ true) (sym second) (same_self b))
]

told_turned : (r : Region) (p : Seq) (a b : Itv) → precedes r p a b ≡ true → admits_topic r (Two p b a) ≡ true → ⊥
told_turned r p a b h free = known (is_before (cells_of r p) b a) (is_before (cells_of r p) a b) h (paired r p b a free).is_open.unknown
  where
    known : (s t : Bool) → t ≡ true → says_unknown (known_order s t) ≡ true → ⊥
    known true t e h = true≢false (sym h)
    known false true e h = true≢false (sym h)
    known false false e h = true≢false (sym e)

never_other : (m : Data) (r : Region) (d : Disjunctive) (a b : Itv) (t : Topic) → IsRegionOf m r → asks_two d.p a b t ≡ false → is_among (a ∷ b ∷ []) (pair_of_two d a b ∷ []) t ≡ true → admits_topic r t ≡ true → AreTold (assumed t r) d.p a b → ⊥
never_other m r d a b (One z claim.Present) of off among free t = true≢false (sym (either_listed a b z among) ∙ off)
never_other m r d a b (One z (claim.StartLe n)) of off among free t = true≢false (sym (either_listed a b z among) ∙ off)
never_other m r d a b (One z (claim.StartGe n)) of off among free t = true≢false (sym (either_listed a b z among) ∙ off)
never_other m r d a b (One z (claim.EndLe n)) of off among free t = true≢false (sym (either_listed a b z among) ∙ off)
never_other m r d a b (One z (claim.EndGe n)) of off among free t = true≢false (sym (either_listed a b z among) ∙ off)
never_other m r d a b (One z claim.Absent) of off among free t = elim (listed_two a b z among) [
  | inl first ↦ never_away r z free (subst (λ (y : Itv). is_there (with_bounds z as_absent r) y ≡ true) (sym first) t.first)
  | inr second ↦ never_away r z free (subst (λ (y : Itv). is_there (with_bounds z as_absent r) y ≡ true) (sym second) t.second)
]
never_other m r d a b (Two q u v) of off among free t = elim (precedes_under m r (Two q u v) d.p a b of free t.order) [
  | inr asks ↦ true≢false (sym asks ∙ off)
  | inl before ↦ (let two = one_of_two q u v (pair_of_two d a b) (alone _ among) in elim two.1 [
    | inl straight ↦ told_closed r d.p a b before (free_at (Two q u v) (Two d.p a b) (same_topic q d.p u a v b two.0 straight.0 straight.1) free)
    | inr turned ↦ told_turned r d.p a b before (free_at (Two q u v) (Two d.p b a) (same_topic q d.p u b v a two.0 turned.0 turned.1) free)
  ])
]
  where
    free_at : (s t : Topic) → s ≡ t → admits_topic r s ≡ true → admits_topic r t ≡ true
    free_at s t e h = subst (λ x. admits_topic r x ≡ true) e h

    same_topic : (p q : Seq) (x u y v : Itv) → p ≡ q → x ≡ u → y ≡ v → Two p x y ≡ Two q u v
    same_topic p q x u y v e f g = rw (e, f, g) refl

pub asked_from_silent : (m : Data) (r : Region) (best : Option ℤ) (d : Disjunctive) (a b : Itv) (k : ℕ) → IsRegionOf m r → IsDisjunctive m d → IsSilent m r best (Pair d.c a.0 b.0 k) → IsUnrefuted refutes m r best (Pair d.c a.0 b.0 k) (a ∷ b ∷ []) (pair_of_two d a b ∷ [])
asked_from_silent m r best d a b k of is silent None asked = silent None refl
asked_from_silent m r best d a b k of is silent (Some g) asked = by_asked (asks_two d.p a b (topic g)) refl
  where
    two : (is_among (a ∷ b ∷ []) (pair_of_two d a b ∷ []) (topic g) ≡ true) × (is_open_end r g ≡ true)
    two = both_true (is_among (a ∷ b ∷ []) (pair_of_two d a b ∷ []) (topic g)) (is_open_end r g) asked

    by_case : asks_two d.p a b (topic g) ≡ false → (t : Bool) → refutes m (seen_at r best (Some g)) (Pair d.c a.0 b.0 k) ≡ t → refutes m (seen_at r best (Some g)) (Pair d.c a.0 b.0 k) ≡ false
    by_case off false e = e
    by_case off true e =
        absurd (never_other m r d a b (topic g) of off two.0 (both_true (admits r g) (is_end r (topic g)) two.1).0 (told (assumed (topic g) r) d.p a b (refuting_late m (seen_at r best (Some g)) d a b k is e).stands))

    by_asked : (t : Bool) → asks_two d.p a b (topic g) ≡ t → refutes m (seen_at r best (Some g)) (Pair d.c a.0 b.0 k) ≡ false
    by_asked true h = silent (Some g) (true_both (lists m (Pair d.c a.0 b.0 k) g) (is_open_end r g) (asks_is m d a b k g is ∙ h) two.1)
    by_asked false h = by_case h (refutes m (seen_at r best (Some g)) (Pair d.c a.0 b.0 k)) refl

-- there are two cases
other_cases : (m : Data) (q : Region) (k : ℕ) (a b : Itv) (d : Disjunctive) → nat_eq k 0 ≡ false → nat_eq k 1 ≡ false → pair_case m q k a b d.p d.matrix d.direct ≡ true → ⊥
other_cases m q k a b d zero_off one_off h =
    let two = both_true (stand q d.p a b) _ h in
    elim (has_cases (nat_eq k 0 && int_lt (lst_of q b) (ect_of q a)) _ two.1) [
      | inl e ↦ true≢false (sym (both_true (nat_eq k 0) (int_lt (lst_of q b) (ect_of q a)) e).0 ∙ zero_off)
      | inr e ↦ true≢false (sym (four_true (nat_eq k 1) (is_some d.matrix) (int_lt (lst_of q b) (ect_of q a +ℤ gap m d.p d.matrix a b)) (d.direct implies are_next m q d.p a b) e).0 ∙ one_off)
    ]

pub both_cases : (m : Data) (r : Region) (best : Option ℤ) (d : Disjunctive) (a b : Itv) → IsDisjunctive m d → IsSilent m r best (Pair d.c a.0 b.0 0) → IsSilent m r best (Pair d.c a.0 b.0 1) → AreSilent m r best d a b
both_cases m r best d a b is first second zero = first
both_cases m r best d a b is first second (suc zero) = second
both_cases m r best d a b is first second (suc (suc k)) = λ guess asked. by_case guess (refutes m (seen_at r best guess) (Pair d.c a.0 b.0 (suc (suc k)))) refl
  where
    off : (k n : ℕ) → n < 2 → nat_eq (suc (suc k)) n ≡ false
    off k n h = grind (arith, nat_tests)

    by_case : (guess : Option Guess) (t : Bool) → refutes m (seen_at r best guess) (Pair d.c a.0 b.0 (suc (suc k))) ≡ t → refutes m (seen_at r best guess) (Pair d.c a.0 b.0 (suc (suc k))) ≡ false
    by_case guess false e = e
    by_case guess true e = let l = seen_at r best guess in
        absurd (other_cases m l.region (suc (suc k)) a b d (off k 0 (omega arith)) (off k 1 (omega arith))
        (subst (λ o. passes (pair_of m l.region (suc (suc k)) a b) o ≡ true) is (both_true (is_valid (Pair d.c a.0 b.0 (suc (suc k)))) (row_of m l (Pair d.c a.0 b.0 (suc (suc k)))) e).1))

-- where there is no matrix there is but one
near_needs : (m : Data) (q : Region) (a b : Itv) (d : Disjunctive) → is_some d.matrix ≡ false → pair_case m q 1 a b d.p d.matrix d.direct ≡ true → ⊥
near_needs m q a b d none h =
    let two = both_true (stand q d.p a b) _ h in
    elim (has_cases (nat_eq 1 0 && int_lt (lst_of q b) (ect_of q a)) _ two.1) [
      | inl e ↦ true≢false (sym (both_true (nat_eq 1 0) (int_lt (lst_of q b) (ect_of q a)) e).0)
      | inr e ↦ true≢false (sym (four_true (nat_eq 1 1) (is_some d.matrix) (int_lt (lst_of q b) (ect_of q a +ℤ gap m d.p d.matrix a b)) (d.direct implies are_next m q d.p a b) e).1 ∙ none)
    ]

pub one_case : (m : Data) (r : Region) (best : Option ℤ) (d : Disjunctive) (a b : Itv) → IsDisjunctive m d → is_some d.matrix ≡ false → IsSilent m r best (Pair d.c a.0 b.0 0) → AreSilent m r best d a b
one_case m r best d a b is none first = both_cases m r best d a b is first (λ guess asked. by_case guess (refutes m (seen_at r best guess) (Pair d.c a.0 b.0 1)) refl)
  where
    by_case : (guess : Option Guess) (t : Bool) → refutes m (seen_at r best guess) (Pair d.c a.0 b.0 1) ≡ t → refutes m (seen_at r best guess) (Pair d.c a.0 b.0 1) ≡ false
    by_case guess false e = e
    by_case guess true e = let l = seen_at r best guess in
        absurd (near_needs m l.region a b d none
        (subst (λ o. passes (pair_of m l.region 1 a b) o ≡ true) is (both_true (is_valid (Pair d.c a.0 b.0 1)) (row_of m l (Pair d.c a.0 b.0 1)) e).1))

-- where the second is told to stand before the first
pub backward_pair : (m : Data) (r : Region) (best : Option ℤ) (d : Disjunctive) (a b : Itv) → IsDisjunctive m d → order_in (cells_of r d.p) a b ≡ Backward → AreSilent m r best d a b
backward_pair m r best d a b is back = silent_pair m r best d a b is (off (same a b) refl) (ap (λ o. is_silent_two o (bounds_of r a) (bounds_of r b) (reach m d.p d.matrix a b)) back ∙ always (says_absent (bounds_of r a).presence) (says_absent (bounds_of r b).presence))
  where
    always : (p q : Bool) → (p || q || true) ≡ true
    always true q = refl
    always false true = refl
    always false false = refl

    itself : (b c : Bool) → known_order b c ≡ Backward → c ≡ true
    itself true c h = cc
    itself false true h = refl
    itself false false h = cc

    off : (t : Bool) → same a b ≡ t → same a b ≡ false
    off false e = e
    off true e =
        let before : precedes r d.p b a ≡ true = itself (is_before (cells_of r d.p) a b) (is_before (cells_of r d.p) b a) back in
        absurd (never_itself r d.p b (subst (λ (z : Itv). precedes r d.p b z ≡ true) (same_is a b e) before))
