-- What is asked of ARC, and what it reads.
use Rattle.std.specs.Prelude.{◌≡◌, ℕ, ◌<◌, ◌≤◌, ℤ, Bool, true, false, ◌&&◌, ◌||◌, [], ◌∷◌, length, Option, Some, None, slice_get, nat_eq, nat_lt}
use Rattle.std.proofs.Common.{inl, inr, refl, sym, ap, subst, ◌∙◌, arith}
use Rattle.std.proofs.lemmas.Bool.{true≢false, or_left, or_right}
use Rattle.std.proofs.lemmas.Bool.Decides.{nat_tests}
use Rattle.std.proofs.lemmas.List.{get_or_past}
use Rattle.sched_base.specs.declared.ids.Itv.{Itv}
use Rattle.sched_model.specs.declared.types.Constraint.{Constraint}
use Rattle.sched_model.specs.declared.types.Constraint.TheVariants.{Temporal}
use Rattle.sched_model.specs.Words.{passes}
use Rattle.sched_model.specs.Data.{Data, has, same}
use Rattle.region.specs.declared.types.Bounds.{Bounds}
use Rattle.region.specs.declared.types.Claim.{Claim}
use Rattle.region.specs.declared.types.Claim.TheVariants as claim
use Rattle.region.specs.declared.types.Topic.{Topic}
use Rattle.region.specs.declared.types.Topic.TheVariants.{One, Two}
use Rattle.region.specs.declared.types.Guess.{Guess}
use Rattle.region.specs.Claims.{as_absent}
use Rattle.region.specs.Cells.{Region, is_there, says_present, unknown}
use Rattle.region.specs.Guesses.{assumed, topic, with_bounds}
use Rattle.region.specs.Looks.{Seen, seen_at}
use Rattle.region.specs.laws.Intervals.{bounds_there}
use Rattle.region.specs.laws.Lists.{both_true, true_both, length-changed_at}
use Rattle.region.specs.laws.OneSequence.{same_is, has_cases}
use Rattle.findings.specs.Ends.{is_open_end}
use Rattle.findings.specs.code.Reads.{LooksOnlyAt, IsUnrefuted, is_among}
use Rattle.refute_basic.specs.declared.witness.BasicWitness.TheVariants.{Arc}
use Rattle.refute_basic.specs.Arc.{is_too_late, arc_row}
use Rattle.refute_basic.specs.Basic.{refutes}
use Rattle.refute_basic.specs.Listed.{asks_size, asks_ends, lists}
use Rattle.refute_basic.specs.laws.Arc.{ends_of, arc_alike}
use Rattle.prop_temporal.specs.code.Tasks.{reads_of, IsSilent}
use Rattle.base_laws.specs.laws.Truth.{never_both}
use Rattle.sched_model.specs.laws.Words.{none_past}
use Rattle.findings.specs.laws.Kept.{asked_more}
use Rattle.sched_model.specs.Bounds.{is_number}

same_number : (x y : Itv) → nat_eq x.0 y.0 ≡ true → same y x ≡ true
same_number x y h = grind (arith, nat_tests)

-- the guesses of a size are those on the interval that don't say it is absent
asked_same : (x z : Itv) (c : Claim) → asks_size x.0 (One z c) ≡ true → same z x ≡ true
asked_same x z claim.Absent h = absurd (true≢false (sym h))
asked_same x z claim.Present h = same_number x z h
asked_same x z (claim.StartLe t) h = same_number x z h
asked_same x z (claim.StartGe t) h = same_number x z h
asked_same x z (claim.EndLe t) h = same_number x z h
asked_same x z (claim.EndGe t) h = same_number x z h

abbrev pub says_absent_claim : Claim → Bool
says_absent_claim claim.Absent = true
says_absent_claim _ = false

same_asked : (x z : Itv) (c : Claim) → says_absent_claim c ≡ false → same z x ≡ true → asks_size x.0 (One z c) ≡ true
same_asked x z claim.Absent said h = absurd (true≢false said)
same_asked x z claim.Present said h = same_number z x h
same_asked x z (claim.StartLe t) said h = same_number z x h
same_asked x z (claim.StartGe t) said h = same_number z x h
same_asked x z (claim.EndLe t) said h = same_number z x h
same_asked x z (claim.EndGe t) said h = same_number z x h

among_two : (a b z : Itv) → (same z a ≡ true → has (a ∷ b ∷ []) z ≡ true) × (same z b ≡ true → has (a ∷ b ∷ []) z ≡ true)
among_two a b z = (λ h. or_left _ _ h, λ h. or_right _ _ (or_left _ _ h))

ends_among : (o : Option Constraint) (t : Topic) → asks_ends o t ≡ true → is_among (ends_of o) [] t ≡ true
ends_among None t h = absurd (true≢false (sym h))
ends_among (Some (Temporal from to equal a b z)) (One x c) h = elim (has_cases (asks_size a.0 (One x c)) (asks_size b.0 (One x c)) h) [
  | inl first ↦ (among_two a b x).0 (asked_same a x c first)
  | inr second ↦ (among_two a b x).1 (asked_same b x c second)
]
ends_among (Some other) t h = absurd (true≢false (sym h))

-- every guess that ARC lists is on one of its two intervals
pub asks_among : (m : Data) (c d : ℕ) (g : Guess) → lists m (Arc c d) g ≡ true → is_among (reads_of m c).intervals [] (topic g) ≡ true
asks_among m c d g h = ends_among (slice_get m.constraints c) (topic g) h

pub arc_silent : (m : Data) (r : Region) (best : Option ℤ) (c d : ℕ) → IsUnrefuted refutes m r best (Arc c d) (reads_of m c).intervals [] → IsSilent m r best (Arc c d)
arc_silent m r best c d none guess asked = none guess (asked_more (lists m (Arc c d)) (λ g. is_among (reads_of m c).intervals [] (topic g)) r guess (λ g h. asks_among m c d g h) asked)

-- of an interval that is absent no arc is shown
not_there : (x : Itv) (r : Region) → is_there (with_bounds x as_absent r) x ≡ false
not_there x r = by_case (nat_lt x.0 (length r.bounds)) refl
  where
    below : (n : ℕ) → nat_lt x.0 n ≡ true → x.0 < n
    below n h = grind (arith, nat_tests)

    past : (n : ℕ) → nat_lt x.0 n ≡ false → n ≤ x.0
    past n h = grind (arith, nat_tests)

    by_case : (b : Bool) → nat_lt x.0 (length r.bounds) ≡ b → is_there (with_bounds x as_absent r) x ≡ false
    by_case true h = ap (λ (c : Bounds). says_present c.presence) (bounds_there x as_absent r (below (length r.bounds) h))
    by_case false h = ap (λ (c : Bounds). says_present c.presence) (get_or_past (with_bounds x as_absent r).bounds x.0 unknown (let same_size = length-changed_at x.0 as_absent r.bounds in omega (arith, same_size, past (length r.bounds) h)))

first_gone : (p q s : Bool) → p ≡ false → (p && q && s) ≡ false
first_gone p q s h = rw h refl

second_gone : (p q s : Bool) → q ≡ false → (p && q && s) ≡ false
second_gone true q s h = rw h refl
second_gone false q s h = refl

never_absent : (o : Option Constraint) (r : Region) (d : ℕ) (x : Itv) → is_among (ends_of o) [] (One x claim.Absent) ≡ true → passes (is_too_late (with_bounds x as_absent r) d) o ≡ false
never_absent None r d x h = refl
never_absent (Some (Temporal from to equal a b z)) r d x h = elim (has_cases (same x a) (same x b || false) h) [
  | inl first ↦ first_gone _ _ _ (subst (λ (y : Itv). is_there (with_bounds x as_absent r) y ≡ false) (same_is x a first) (not_there x r))
  | inr rest ↦ elim (has_cases (same x b) false rest) [
    | inl second ↦ second_gone _ _ _ (subst (λ (y : Itv). is_there (with_bounds x as_absent r) y ≡ false) (same_is x b second) (not_there x r))
    | inr none ↦ absurd (true≢false (sym none))
  ]
]
never_absent (Some other) r d x h = refl

among_asked : (o : Option Constraint) (x : Itv) (c : Claim) → says_absent_claim c ≡ false → is_among (ends_of o) [] (One x c) ≡ true → asks_ends o (One x c) ≡ true
among_asked None x c said h = absurd (true≢false (sym h))
among_asked (Some (Temporal from to equal a b z)) x c said h = elim (has_cases (same x a) (same x b || false) h) [
  | inl first ↦ or_left _ _ (same_asked a x c said first)
  | inr rest ↦ elim (has_cases (same x b) false rest) [ inl second ↦ or_right _ _ (same_asked b x c said second) | inr none ↦ absurd (true≢false (sym none)) ]
]
among_asked (Some other) x c said h = absurd (true≢false (sym h))

pub arc_unrefuted : (m : Data) (r : Region) (best : Option ℤ) (c d : ℕ) → IsSilent m r best (Arc c d) → IsUnrefuted refutes m r best (Arc c d) (reads_of m c).intervals []
arc_unrefuted m r best c d silent None asked = silent None refl
arc_unrefuted m r best c d silent (Some g) asked =
    let two = both_true (is_among (reads_of m c).intervals [] (topic g)) (is_open_end r g) asked in
    by_topic (topic g) refl two.0 two.1
  where
    by_claim : (x : Itv) (k : Claim) (b : Bool) → says_absent_claim k ≡ b → topic g ≡ One x k → is_among (reads_of m c).intervals [] (One x k) ≡ true → is_open_end r g ≡ true → refutes m (seen_at r best (Some g)) (Arc c d) ≡ false
    by_claim x k false said is among free = silent (Some g) (true_both (lists m (Arc c d) g) (is_open_end r g) (ap (asks_ends (slice_get m.constraints c)) is ∙ among_asked (slice_get m.constraints c) x k said among) free)
    by_claim x claim.Absent true told is among free =
        never_both (is_number c && is_number d) (arc_row m (seen_at r best (Some g)) c d)
        (ap (λ (t : Topic). passes (is_too_late (assumed t r) d) (slice_get m.constraints c)) is ∙ never_absent (slice_get m.constraints c) r d x among)
    by_claim x claim.Present true told is among free = absurd (true≢false (sym told))
    by_claim x (claim.StartLe t) true told is among free = absurd (true≢false (sym told))
    by_claim x (claim.StartGe t) true told is among free = absurd (true≢false (sym told))
    by_claim x (claim.EndLe t) true told is among free = absurd (true≢false (sym told))
    by_claim x (claim.EndGe t) true told is among free = absurd (true≢false (sym told))

    by_topic : (t : Topic) → topic g ≡ t → is_among (reads_of m c).intervals [] t ≡ true → is_open_end r g ≡ true → refutes m (seen_at r best (Some g)) (Arc c d) ≡ false
    by_topic (One x k) is among free = by_claim x k (says_absent_claim k) refl is among free
    by_topic (Two p x y) is among free = absurd (true≢false (sym among))

-- ARC looks at no more than the bounds of its two intervals
pub arc_looks : (m : Data) (c d : ℕ) → LooksOnlyAt refutes m (Arc c d) (reads_of m c)
arc_looks m c d l k of also alike best = ap (λ b. is_number c && is_number d && b) (arc_alike m l k c d (λ x here. alike.bounds x here))

-- with no other number than 0 and 1 it refutes nothing
no_way : (r : Region) (d : ℕ) (o : Option Constraint) → (d ≡ 0 → ⊥) → (d ≡ 1 → ⊥) → passes (is_too_late r d) o ≡ false
no_way r d None first second = refl
no_way r d (Some (Temporal from to equal a b z)) first second = never_both _ _ (neither d equal _ _ first second)
  where
    apart : (i j : ℕ) → (i ≡ j → ⊥) → nat_eq i j ≡ false
    apart i j h = grind (arith, nat_tests)

    neither : (d : ℕ) (e p q : Bool) → (d ≡ 0 → ⊥) → (d ≡ 1 → ⊥) → ((nat_eq d 0 && p) || (nat_eq d 1 && e && q)) ≡ false
    neither d e p q first second = rw (apart d 0 first, apart d 1 second) refl
no_way r d (Some other) first second = refl

pub other_ways : (m : Data) (l : Seen) (c d : ℕ) → (d ≡ 0 → ⊥) → (d ≡ 1 → ⊥) → refutes m l (Arc c d) ≡ false
other_ways m l c d first second = never_both (is_number c && is_number d) (arc_row m l c d) (no_way l.region d (slice_get m.constraints c) first second)

-- nor at a constraint that isn't there
pub arc_past : (m : Data) (l : Seen) (c d : ℕ) → length m.constraints ≤ c → refutes m l (Arc c d) ≡ false
arc_past m l c d past = never_both (is_number c && is_number d) (arc_row m l c d) (none_past (is_too_late l.region d) m.constraints c past)
