-- Where the numbers say that ARC is silent, it is.
use Rattle.std.specs.Prelude.{◌≡◌, ℕ, ◌<◌, ℤ, pos, ◌+ℤ◌, ◌-ℤ◌, ◌≤ℤ◌, Bool, true, false, not, ◌&&◌, ◌||◌, [], length, Option, Some, None, slice_get, int_le, int_lt, nat_lt, nat_eq, if◌then◌else◌}
use Rattle.std.proofs.Common.{inl, inr, refl, sym, subst, ◌∙◌, arith}
use Rattle.std.proofs.lemmas.Bool.{true≢false}
use Rattle.std.proofs.lemmas.Bool.Decides.{nat_tests}
use Rattle.std.proofs.lemmas.Int.{ints}
use Rattle.sched_base.specs.declared.ids.Itv.{Itv}
use Rattle.sched_model.specs.declared.types.End.{End}
use Rattle.sched_model.specs.declared.types.End.TheVariants.{Start, Finish}
use Rattle.sched_model.specs.declared.types.Constraint.{Constraint}
use Rattle.sched_model.specs.declared.types.Constraint.TheVariants.{Temporal}
use Rattle.sched_model.specs.Words.{passes}
use Rattle.sched_model.specs.Data.{Data, same}
use Rattle.region.specs.declared.types.Presence.{Presence}
use Rattle.region.specs.declared.types.Presence.TheVariants as presence
use Rattle.region.specs.declared.types.Bounds.{Bounds}
use Rattle.region.specs.declared.types.Claim.{Claim}
use Rattle.region.specs.declared.types.Claim.TheVariants as claim
use Rattle.region.specs.declared.types.Topic.{Topic}
use Rattle.region.specs.declared.types.Topic.TheVariants.{One, Two}
use Rattle.region.specs.Claims.{guessed}
use Rattle.region.specs.Cells.{Region, bounds_of, is_there, says_present}
use Rattle.region.specs.Guesses.{admits, admits_topic, assumed, topic, with_bounds}
use Rattle.region.specs.laws.Intervals.{bounds_there, bounds_elsewhere}
use Rattle.region.specs.laws.Lists.{both_true}
use Rattle.region.specs.laws.OneSequence.{same_is, has_cases}
use Rattle.findings.specs.Ends.{is_open_end, is_end, is_end_at}
use Rattle.findings.specs.code.Reads.{is_among}
use Rattle.refute_basic.specs.declared.witness.BasicWitness.TheVariants.{Arc}
use Rattle.refute_basic.specs.Arc.{is_too_late, earliest, latest}
use Rattle.refute_basic.specs.Listed.{lists}
use Rattle.refute_basic.specs.laws.Arc.{ends_of}
use Rattle.prop_temporal.specs.code.Tasks.{IsSilent}
use Rattle.prop_temporal.specs.code.Silence.{earliest_in, latest_in, highest_in, lowest_in, is_in_time, is_silent_way}
use Rattle.prop_temporal.specs.laws.Arcs.{asks_among}
use Rattle.base_laws.specs.laws.Truth.{never_both}
use Rattle.base_laws.specs.laws.Numbers.{differs}
use Rattle.sched_model.specs.Bounds.{is_number}
use Rattle.sched_model.specs.laws.Members.{same_not}

-- the numbers under a guess at the end of a cell
least_latest : (end : End) (k : Claim) (c : Bounds) → is_end_at k c ≡ true → lowest_in end c ≤ℤ latest_in end (guessed k c)
least_latest Start claim.Present c h = grind (arith, ints)
least_latest Start claim.Absent c h = grind (arith, ints)
least_latest Start (claim.StartLe t) c h = grind (arith, ints)
least_latest Start (claim.StartGe t) c h = grind (arith, ints)
least_latest Start (claim.EndLe t) c h = grind (arith, ints)
least_latest Start (claim.EndGe t) c h = grind (arith, ints)
least_latest Finish claim.Present c h = grind (arith, ints)
least_latest Finish claim.Absent c h = grind (arith, ints)
least_latest Finish (claim.StartLe t) c h = grind (arith, ints)
least_latest Finish (claim.StartGe t) c h = grind (arith, ints)
least_latest Finish (claim.EndLe t) c h = grind (arith, ints)
least_latest Finish (claim.EndGe t) c h = grind (arith, ints)

latest_least : (end : End) (c : Bounds) → lowest_in end c ≤ℤ latest_in end c
latest_least Start c = grind (arith, ints)
latest_least Finish c = grind (arith, ints)

greatest_earliest : (end : End) (k : Claim) (c : Bounds) → is_end_at k c ≡ true → earliest_in end (guessed k c) ≤ℤ highest_in end c
greatest_earliest Start claim.Present c h = grind (arith, ints)
greatest_earliest Start claim.Absent c h = grind (arith, ints)
greatest_earliest Start (claim.StartLe t) c h = grind (arith, ints)
greatest_earliest Start (claim.StartGe t) c h = grind (arith, ints)
greatest_earliest Start (claim.EndLe t) c h = grind (arith, ints)
greatest_earliest Start (claim.EndGe t) c h = grind (arith, ints)
greatest_earliest Finish claim.Present c h = grind (arith, ints)
greatest_earliest Finish claim.Absent c h = grind (arith, ints)
greatest_earliest Finish (claim.StartLe t) c h = grind (arith, ints)
greatest_earliest Finish (claim.StartGe t) c h = grind (arith, ints)
greatest_earliest Finish (claim.EndLe t) c h = grind (arith, ints)
greatest_earliest Finish (claim.EndGe t) c h = grind (arith, ints)

-- the row of two intervals
abbrev is_late_pair : Bounds → End → Bounds → End → ℤ → Bool
is_late_pair c from d to z = says_present c.presence && says_present d.presence && int_lt (latest_in to d) (earliest_in from c +ℤ z)

no_first : (p q x : Bool) → p ≡ false → (p && q && x) ≡ false
no_first p q x h = rw h refl

no_second : (p q x : Bool) → q ≡ false → (p && q && x) ≡ false
no_second true q x h = rw h refl
no_second false q x h = refl

not_late : (p q : Bool) (l e : ℤ) → e ≤ℤ l → (p && q && int_lt l e) ≡ false
not_late true true l e h = grind (arith, ints)
not_late true false l e h = refl
not_late false q l e h = refl

le : (a b : ℤ) → int_le a b ≡ true → a ≤ℤ b
le a b h = grind (arith, ints)

through : (a b c : ℤ) → a ≤ℤ b → b ≤ℤ c → a ≤ℤ c
through a b c h k = omega (arith, ints, h, k)

shifted : (a b z c : ℤ) → a ≤ℤ b → (b +ℤ z) ≤ℤ c → (a +ℤ z) ≤ℤ c
shifted a b z c h k = omega (arith, ints, h, k)

by_presence : {Z : Type 0} (p q : Bool) → (not p || q) ≡ true → (p ≡ false → Z) → (q ≡ true → Z) → Z
by_presence true q h f g = g h
by_presence false q h f g = f refl

pair_plain : (c : Bounds) (from : End) (d : Bounds) (to : End) (z : ℤ) → is_in_time c from d to z ≡ true → is_late_pair c from d to z ≡ false
pair_plain c from d to z h =
    let two = both_true (not (says_present c.presence) || int_le (earliest_in from c +ℤ z) (lowest_in to d)) _ h in
    by_presence (says_present c.presence) (int_le (earliest_in from c +ℤ z) (lowest_in to d)) two.0 (no_first _ _ _) (λ k. not_late (says_present c.presence) (says_present d.presence) (latest_in to d) (earliest_in from c +ℤ z) (through (earliest_in from c +ℤ z) (lowest_in to d) (latest_in to d) (le _ _ k) (latest_least to d)))

pair_second : (k : Claim) (c : Bounds) (from : End) (d : Bounds) (to : End) (z : ℤ) → is_end_at k d ≡ true → is_in_time c from d to z ≡ true → is_late_pair c from (guessed k d) to z ≡ false
pair_second k c from d to z end h =
    let two = both_true (not (says_present c.presence) || int_le (earliest_in from c +ℤ z) (lowest_in to d)) _ h in
    by_presence (says_present c.presence) (int_le (earliest_in from c +ℤ z) (lowest_in to d)) two.0 (no_first _ _ _) (λ e. not_late (says_present c.presence) (says_present (guessed k d).presence) (latest_in to (guessed k d)) (earliest_in from c +ℤ z) (through (earliest_in from c +ℤ z) (lowest_in to d) (latest_in to (guessed k d)) (le _ _ e) (least_latest to k d end)))

pair_first : (k : Claim) (c : Bounds) (from : End) (d : Bounds) (to : End) (z : ℤ) → is_end_at k c ≡ true → is_in_time c from d to z ≡ true → is_late_pair (guessed k c) from d to z ≡ false
pair_first k c from d to z end h =
    let two = both_true (not (says_present c.presence) || int_le (earliest_in from c +ℤ z) (lowest_in to d)) _ h in
    by_presence (says_present d.presence) (int_le (highest_in from c +ℤ z) (latest_in to d)) two.1 (no_second _ _ _) (λ e. not_late (says_present (guessed k c).presence) (says_present d.presence) (latest_in to d) (earliest_in from (guessed k c) +ℤ z) (shifted (earliest_in from (guessed k c)) (highest_in from c) z (latest_in to d) (greatest_earliest from k c end) (le _ _ e)))

-- the bounds of two intervals in a look, which has a guess on one of them or none
pub record IsLookAt (r q : Region) (a b : Itv) : Type 0 where
  pub in_time : (from to : End) (z : ℤ) → is_in_time (bounds_of r a) from (bounds_of r b) to z ≡ true → is_late_pair (bounds_of q a) from (bounds_of q b) to z ≡ false
  pub back : (from to : End) (z : ℤ) → is_in_time (bounds_of r b) to (bounds_of r a) from z ≡ true → is_late_pair (bounds_of q b) to (bounds_of q a) from z ≡ false

look_plain : (r : Region) (a b : Itv) → IsLookAt r r a b
look_plain r a b = record {
  in_time = λ from to z. pair_plain (bounds_of r a) from (bounds_of r b) to z;
  back = λ from to z. pair_plain (bounds_of r b) to (bounds_of r a) from z;
}

look_first : (k : Claim) (r : Region) (a b : Itv) → same a b ≡ false → a.0 < length r.bounds → is_end_at k (bounds_of r a) ≡ true → IsLookAt r (with_bounds a (guessed k) r) a b
look_first k r a b other within end = record {
  in_time = λ from to z h. rw (bounds_there a (guessed k) r within, bounds_elsewhere a b (guessed k) r (λ e. same_not a b other (sym e))) (pair_first k (bounds_of r a) from (bounds_of r b) to z end h);
  back = λ from to z h. rw (bounds_there a (guessed k) r within, bounds_elsewhere a b (guessed k) r (λ e. same_not a b other (sym e))) (pair_second k (bounds_of r b) to (bounds_of r a) from z end h);
}

look_second : (k : Claim) (r : Region) (a b : Itv) → same a b ≡ false → b.0 < length r.bounds → is_end_at k (bounds_of r b) ≡ true → IsLookAt r (with_bounds b (guessed k) r) a b
look_second k r a b other within end = record {
  in_time = λ from to z h. rw (bounds_there b (guessed k) r within, bounds_elsewhere b a (guessed k) r (same_not a b other)) (pair_second k (bounds_of r a) from (bounds_of r b) to z end h);
  back = λ from to z h. rw (bounds_there b (guessed k) r within, bounds_elsewhere b a (guessed k) r (same_not a b other)) (pair_first k (bounds_of r b) to (bounds_of r a) from z end h);
}

earliest_is : (r : Region) (end : End) (x : Itv) → earliest r end x ≡ earliest_in end (bounds_of r x)
earliest_is r Start x = refl
earliest_is r Finish x = refl

latest_is : (r : Region) (end : End) (x : Itv) → latest r end x ≡ latest_in end (bounds_of r x)
latest_is r Start x = refl
latest_is r Finish x = refl

forth_row : (p q x e y : Bool) (d : ℕ) → nat_eq d 0 ≡ true → (p && q && x) ≡ false → (p && q && ((nat_eq d 0 && x) || (nat_eq d 1 && e && y))) ≡ false
forth_row true true true e y d is h = absurd (true≢false h)
forth_row true true false e y d is h = rw (is, no_back d is) refl
  where
    no_back : (d : ℕ) → nat_eq d 0 ≡ true → nat_eq d 1 ≡ false
    no_back d h = grind (arith, nat_tests)
forth_row true false x e y d is h = refl
forth_row false q x e y d is h = refl

back_row : (p q x e y : Bool) (d : ℕ) → nat_eq d 0 ≡ false → (e ≡ true → (q && p && y) ≡ false) → (p && q && ((nat_eq d 0 && x) || (nat_eq d 1 && e && y))) ≡ false
back_row true true x false y d is h = rw is (none (nat_eq d 1))
  where
    none : (b : Bool) → (b && false && y) ≡ false
    none true = refl
    none false = refl
back_row true true x true true d is h = absurd (true≢false (h refl))
back_row true true x true false d is h = rw is (none (nat_eq d 1))
  where
    none : (b : Bool) → (b && true && false) ≡ false
    none true = refl
    none false = refl
back_row true false x e y d is h = refl
back_row false q x e y d is h = refl

turned_shift : (a z : ℤ) → a -ℤ z ≡ a +ℤ (pos 0 -ℤ z)
turned_shift a z = omega (arith, ints)

unless : (p q : Bool) → (not p || q) ≡ true → p ≡ true → q ≡ true
unless true q h e = h
unless false q h e = absurd (true≢false (sym e))

-- so the row fails
row_silent : (r q : Region) (d : ℕ) (from to : End) (equal : Bool) (a b : Itv) (z : ℤ) → IsLookAt r q a b → is_silent_way r d (Temporal from to equal a b z) ≡ true → is_too_late q d (Temporal from to equal a b z) ≡ false
row_silent r q d from to equal a b z looks h =
    by_way (nat_eq d 0) refl (both_true (not (same a b)) _ h).1
  where
    by_way : (w : Bool) → nat_eq d 0 ≡ w → (if w then is_in_time (bounds_of r a) from (bounds_of r b) to z else nat_eq d 1 && (not equal || is_in_time (bounds_of r b) to (bounds_of r a) from (pos 0 -ℤ z))) ≡ true
        → is_too_late q d (Temporal from to equal a b z) ≡ false
    by_way true is k = forth_row (is_there q a) (is_there q b) _ equal _ d is (rw (earliest_is q from a, latest_is q to b) (looks.in_time from to z k))
    by_way false is k = back_row (is_there q a) (is_there q b) _ equal _ d is (λ e. rw (earliest_is q to b, latest_is q from a, turned_shift (earliest_in to (bounds_of q b)) z) (looks.back from to (pos 0 -ℤ z) (unless equal _ (both_true (nat_eq d 1) _ k).1 e)))

below : (i n : ℕ) → nat_lt i n ≡ true → i < n
below i n h = grind (arith, nat_tests)

off : (b : Bool) → not b ≡ true → b ≡ false
off true h = absurd (true≢false (sym h))
off false h = refl

abbrev is_among_ends : Option Constraint → Topic → Bool
is_among_ends o t = is_among (ends_of o) [] t

abbrev is_inside : Region → Topic → Bool
is_inside r (One x k) = nat_lt x.0 (length r.bounds)
is_inside r (Two p x y) = true

-- under every guess at an end on either interval
guess_silent : (r : Region) (d : ℕ) (o : Option Constraint) (t : Topic) → passes (is_silent_way r d) o ≡ true → is_among_ends o t ≡ true → is_inside r t ≡ true → is_end r t ≡ true → passes (is_too_late (assumed t r) d) o ≡ false
guess_silent r d None t h among within end = absurd (true≢false (sym h))
guess_silent r d (Some (Temporal from to equal a b z)) (One x k) h among within end =
    let other : same a b ≡ false = off (same a b) (both_true (not (same a b)) _ h).0 in
    elim (has_cases (same x a) (same x b || false) among) [
      | inl first ↦ (let is = same_is x a first in
          subst (λ (y : Itv). is_too_late (with_bounds y (guessed k) r) d (Temporal from to equal a b z) ≡ false) (sym is)
          (row_silent r (with_bounds a (guessed k) r) d from to equal a b z
          (look_first k r a b other (subst (λ (y : Itv). y.0 < length r.bounds) is (below x.0 (length r.bounds) within)) (subst (λ (y : Itv). is_end_at k (bounds_of r y) ≡ true) is end)) h))
      | inr rest ↦ elim (has_cases (same x b) false rest) [
        | inl second ↦ (let is = same_is x b second in
            subst (λ (y : Itv). is_too_late (with_bounds y (guessed k) r) d (Temporal from to equal a b z) ≡ false) (sym is)
            (row_silent r (with_bounds b (guessed k) r) d from to equal a b z
            (look_second k r a b other (subst (λ (y : Itv). y.0 < length r.bounds) is (below x.0 (length r.bounds) within)) (subst (λ (y : Itv). is_end_at k (bounds_of r y) ≡ true) is end)) h))
        | inr none ↦ absurd (true≢false (sym none))
      ]
    ]
guess_silent r d (Some (Temporal from to equal a b z)) (Two p x y) h among within end = absurd (true≢false (sym among))
guess_silent r d (Some other) t h among within end = refl

plain_silent : (r : Region) (d : ℕ) (o : Option Constraint) → passes (is_silent_way r d) o ≡ true → passes (is_too_late r d) o ≡ false
plain_silent r d None h = refl
plain_silent r d (Some (Temporal from to equal a b z)) h = row_silent r r d from to equal a b z (look_plain r a b) h
plain_silent r d (Some other) h = refl

pub surely_silent : (m : Data) (r : Region) (best : Option ℤ) (c d : ℕ) → passes (is_silent_way r d) (slice_get m.constraints c) ≡ true → IsSilent m r best (Arc c d)
surely_silent m r best c d h None asked = never_both (is_number c && is_number d) _ (plain_silent r d (slice_get m.constraints c) h)
surely_silent m r best c d h (Some g) asked =
    let two = both_true (lists m (Arc c d) g) (is_open_end r g) asked in
    let free = both_true (admits r g) (is_end r (topic g)) two.1 in
    never_both (is_number c && is_number d) _ (guess_silent r d (slice_get m.constraints c) (topic g) h (asks_among m c d g two.0) (inside (topic g) free.0) free.1)
  where
    inside : (t : Topic) → admits_topic r t ≡ true → is_inside r t ≡ true
    inside (One x k) e = (both_true (nat_lt x.0 (length r.bounds)) _ e).0
    inside (Two p x y) e = refl

-- what the code has tested
other : (a b : Itv) → (a.0 ≡ b.0 → ⊥) → same a b ≡ false
other a b h = grind (arith, nat_tests)

is_number_at : (d k : ℕ) → d ≡ k → nat_eq d k ≡ true
is_number_at d k h = grind (arith, nat_tests)

pub forth_told : (r : Region) (d : ℕ) (from to : End) (equal : Bool) (a b : Itv) (z : ℤ) → d ≡ 0 → (a.0 ≡ b.0 → ⊥) → is_in_time (bounds_of r a) from (bounds_of r b) to z ≡ true → is_silent_way r d (Temporal from to equal a b z) ≡ true
forth_told r d from to equal a b z way off k = rw (is_number_at d 0 way, other a b off) k

pub back_told : (r : Region) (d : ℕ) (from to : End) (equal : Bool) (a b : Itv) (z : ℤ) → d ≡ 1 → (a.0 ≡ b.0 → ⊥) → (not equal || is_in_time (bounds_of r b) to (bounds_of r a) from (pos 0 -ℤ z)) ≡ true → is_silent_way r d (Temporal from to equal a b z) ≡ true
back_told r d from to equal a b z way off k = rw (is_number_at d 1 way, differs d 0 (λ e. absurd (omega (arith, e, way))), other a b off) k

-- the steps of the test
pub here : (p x y : Bool) → p ≡ true → y ≡ x → y ≡ (not p || x)
here true x y h e = e
here false x y h e = absurd (true≢false (sym h))

pub gone : (p x : Bool) → p ≡ false → true ≡ (not p || x)
gone true x h = absurd (true≢false h)
gone false x h = refl

pub not_present : (p : Presence) → (p ≡ presence.Present → ⊥) → says_present p ≡ false
not_present presence.Present h = absurd (h refl)
not_present presence.Absent h = refl
not_present presence.Maybe h = refl

pub both_told : (s f x y : Bool) → s ≡ x → f ≡ y → s ≡ true → f ≡ (x && y)
both_told s f true y h k e = k
both_told s f false y h k e = absurd (true≢false (sym e ∙ h))

pub in_time_told : (c : Bounds) (from : End) (d : Bounds) (to : End) (z : ℤ) (second first : Bool) → second ≡ (not (says_present c.presence) || int_le (earliest_in from c +ℤ z) (lowest_in to d))
    → first ≡ (not (says_present d.presence) || int_le (highest_in from c +ℤ z) (latest_in to d)) → second ≡ true → first ≡ is_in_time c from d to z
in_time_told c from d to z second first s_is f_is told = both_told second first (not (says_present c.presence) || int_le (earliest_in from c +ℤ z) (lowest_in to d)) (not (says_present d.presence) || int_le (highest_in from c +ℤ z) (latest_in to d)) s_is f_is told
