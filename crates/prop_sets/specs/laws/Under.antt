-- What a guess that a row lists makes of the numbers of one member.
use Rattle.std.specs.Prelude.{◌≡◌, ◌⊎◌, ℕ, zero, suc, ◌<◌, ◌≤◌, ℤ, pos, neg_ℤ, ◌+ℤ◌, ◌-ℤ◌, ◌≤ℤ◌, Bool, true, false, ◌&&◌, nat_eq, nat_lt, int_le, int_lt, [], length, Option, Some, None}
use Rattle.std.specs.Ordering.{int_eq}
use Rattle.std.specs.Int.{int_min, int_max}
use Rattle.std.proofs.Common.{refl, sym, ap, subst, ◌∙◌, inl, inr, arith, get_or}
use Rattle.std.proofs.lemmas.Int.{ints, int_min_is, int_max_is}
use Rattle.std.proofs.lemmas.Bool.Decides.{nat_tests}
use Rattle.std.proofs.lemmas.List.{get_or_past}
use Rattle.sched_base.specs.declared.ids.Itv.{Itv}
use Rattle.sched_model.specs.declared.types.IntervalDef.{IntervalDef}
use Rattle.sched_model.specs.Data.{Data}
use Rattle.sched_model.specs.Valid.{IsValid, is_interval_def, is_moment, is_span_of_moments}
use Rattle.sched_base.specs.declared.ids.TheConstants.{H}
use Rattle.region.specs.declared.types.Bounds.{Bounds}
use Rattle.region.specs.declared.types.Claim.{Claim}
use Rattle.region.specs.declared.types.Claim.TheVariants.{Present, Absent, StartLe, StartGe, EndLe, EndGe}
use Rattle.region.specs.declared.types.Topic.{Topic}
use Rattle.region.specs.declared.types.Topic.TheVariants.{One, Two}
use Rattle.region.specs.declared.types.Guess.{Guess}
use Rattle.region.specs.Cells.{Region, bounds_of, unknown, says_present, says_absent}
use Rattle.region.specs.Claims.{guessed, is_open_at}
use Rattle.region.specs.Guesses.{admits, admits_topic, assumed, topic, looked_at}
use Rattle.region.specs.Looks.{IsRegionOf, is_narrowed}
use Rattle.region.specs.laws.Lists.{both_true, placewise-at, placewise-length, all-at}
use Rattle.region.specs.laws.Intervals.{bounds_there, bounds_elsewhere}
use Rattle.region.specs.laws.Standing.{least_is}
use Rattle.findings.specs.Ends.{is_end, is_open_end, is_asked}
use Rattle.findings.specs.laws.Open.{not_absent, open_not_absent}
use Rattle.task_sets.specs.Times.{Times, seen_in}
use Rattle.refute_seq.specs.Sets.{times_in}
use Rattle.refute_seq.specs.Listed.{asks_start, asks_end}
use Rattle.prop_sets.specs.code.Rows.{end_claim, asked_bounds, asks_early, asks_late, seen}

pub record IsMoment (t : ℤ) : Type 0 where
  pub from : neg_ℤ H ≤ℤ t
  pub to : t ≤ℤ H

-- no range of an interval is empty, no size is below 0, and no moment is far
pub record IsNarrow (c : Bounds) : Type 0 where
  pub starts : c.smin ≤ℤ c.smax
  pub ends : c.emin ≤ℤ c.emax
  pub size : pos 0 ≤ℤ c.pmin
  pub start : IsMoment c.smin
  pub end : IsMoment c.emax
  pub length : c.pmin ≤ℤ H

le_holds : (a b : ℤ) → int_le a b ≡ true → a ≤ℤ b
le_holds a b h = grind (arith, ints)

-- the ends of a span of moments
span : (lo hi : ℤ) → is_span_of_moments lo hi ≡ true → (neg_ℤ H ≤ℤ lo) × (hi ≤ℤ H) × (lo ≤ℤ hi)
span lo hi h =
    let a = both_true (is_moment lo && is_moment hi) (int_le lo hi) h in
    let b = both_true (is_moment lo) (is_moment hi) a.0 in
    (moment_from lo b.0, moment_to hi b.1, le_holds lo hi a.1)
  where
    moment_from : (t : ℤ) → is_moment t ≡ true → neg_ℤ H ≤ℤ t
    moment_from t h = le_holds (neg_ℤ H) t (both_true (int_le (neg_ℤ H) t) (int_le t H) h).0

    moment_to : (t : ℤ) → is_moment t ≡ true → t ≤ℤ H
    moment_to t h = le_holds t H (both_true (int_le (neg_ℤ H) t) (int_le t H) h).1

narrow_of : (d : IntervalDef) (c : Bounds) → is_interval_def d ≡ true → is_narrowed d c ≡ true → IsNarrow c
narrow_of d c def h =
    let seven = both_true _ _ (both_true _ _ h).0 in
    let six = both_true _ _ seven.0 in
    let five = both_true _ _ six.0 in
    let four = both_true _ _ five.0 in
    let three = both_true _ _ four.0 in
    let two = both_true _ _ three.0 in
    let one = both_true _ _ two.0 in
    let size = least_is d c h in
    let from = le_holds (pos 0) d.size_lo (both_true _ _ def).1 in
    let start = le_holds d.start_lo c.smin one.1 in
    let starts = le_holds c.smin c.smax two.1 in
    let last = le_holds c.smax d.start_hi three.1 in
    let high = le_holds d.end_lo c.emin four.1 in
    let ends = le_holds c.emin c.emax five.1 in
    let finish = le_holds c.emax d.end_hi six.1 in
    let spans = both_true _ _ (both_true _ _ def).0 in
    let pair = both_true _ _ spans.0 in
    let first = span d.start_lo d.start_hi pair.0 in
    let second = span d.end_lo d.end_hi pair.1 in
    let third = span d.size_lo d.size_hi spans.1 in
    record {
      starts = starts;
      ends = ends;
      size = subst (λ z. pos 0 ≤ℤ z) size from;
      start = record { from = omega (arith, ints, first.0, start); to = omega (arith, ints, first.1, last, starts) };
      end = record { from = omega (arith, ints, second.0, high, ends); to = omega (arith, ints, second.1, finish) };
      length = omega (arith, ints, third.1, third.2, size);
    }

pub narrow : (m : Data) (r : Region) (x : Itv) → IsValid m → IsRegionOf m r → IsNarrow (bounds_of r x)
narrow m r x valid of = by_case (nat_lt x.0 (length m.intervals)) refl
  where
    no_def : IntervalDef
    no_def = record { name = []; optional = false; start_lo = pos 0; start_hi = pos 0; end_lo = pos 0; end_hi = pos 0; size_lo = pos 0; size_hi = pos 0 }

    size : length m.intervals ≡ length r.bounds
    size = placewise-length is_narrowed m.intervals r.bounds of.bounds

    below : nat_lt x.0 (length m.intervals) ≡ true → x.0 < length m.intervals
    below h = grind (arith, nat_tests)

    past : nat_lt x.0 (length m.intervals) ≡ false → length m.intervals ≤ x.0
    past h = grind (arith, nat_tests)

    nothing : IsNarrow unknown
    nothing = record { starts = omega (arith, ints); ends = omega (arith, ints); size = omega (arith, ints); start = record { from = omega (arith, ints); to = omega (arith, ints) }; end = record { from = omega (arith, ints); to = omega (arith, ints) }; length = omega (arith, ints) }

    by_case : (b : Bool) → nat_lt x.0 (length m.intervals) ≡ b → IsNarrow (bounds_of r x)
    by_case true is = narrow_of (get_or m.intervals x.0 no_def) (bounds_of r x) (all-at is_interval_def m.intervals x.0 no_def valid.intervals (below is)) (placewise-at is_narrowed m.intervals r.bounds x.0 no_def unknown of.bounds (below is))
    by_case false is = let beyond = past is in subst IsNarrow (sym (get_or_past r.bounds x.0 unknown (omega (arith, size, beyond)))) nothing

-- the same but for a latest start that is no later, and an earliest completion that is no earlier
pub record IsTighter (t a : Times) : Type 0 where
  pub est : a.est ≡ t.est
  pub lct : a.lct ≡ t.lct
  pub size : a.p ≡ t.p
  pub lst : a.lst ≤ℤ t.lst
  pub ect : t.ect ≤ℤ a.ect

pub tighter_self : (t : Times) → IsTighter t t
tighter_self t = record { est = refl; lct = refl; size = refl; lst = omega (arith, ints); ect = omega (arith, ints) }

pub tighter_seen : (side : ℕ) (t a : Times) → IsTighter t a → IsTighter (seen_in side t) (seen_in side a)
tighter_seen zero t a h = h
tighter_seen (suc n) t a h = record {
  est = ap neg_ℤ h.lct;
  lct = ap neg_ℤ h.est;
  size = h.size;
  lst = let e = h.ect in omega (arith, ints, e);
  ect = let e = h.lst in omega (arith, ints, e);
}

low_start : (c : Bounds) → c.smin ≤ℤ c.smax → int_min c.smin (c.emax -ℤ c.pmin) ≤ℤ int_min c.smax (c.emax -ℤ c.pmin)
low_start c h = omega (arith, ints, int_min_is c.smin (c.emax -ℤ c.pmin), int_min_is c.smax (c.emax -ℤ c.pmin), h)

high_end : (c : Bounds) → c.emin ≤ℤ c.emax → int_max c.emin (c.smin +ℤ c.pmin) ≤ℤ int_max c.emax (c.smin +ℤ c.pmin)
high_end c h = omega (arith, ints, int_max_is c.emin (c.smin +ℤ c.pmin), int_max_is c.emax (c.smin +ℤ c.pmin), h)

pub asked_tighter : (early : Bool) (c : Bounds) → IsNarrow c → IsTighter (times_in c) (times_in (asked_bounds early c))
asked_tighter true c h = record { est = refl; lct = refl; size = refl; lst = low_start c h.starts; ect = omega (arith, ints) }
asked_tighter false c h = record { est = refl; lct = refl; size = refl; lst = omega (arith, ints); ect = high_end c h.ends }

-- the bounds without a guess, where it is told present, or under the guess at its end
abbrev pub AskedOf : Bool → Bounds → Bounds → Type 0
AskedOf early c b = (b ≡ c) ⊎ ((b ≡ guessed Present c) ⊎ (b ≡ asked_bounds early c))

-- the numbers lie between those of the region and those under the guess
pub between : (early : Bool) (c b : Bounds) → IsNarrow c → AskedOf early c b → IsTighter (times_in c) (times_in b) × IsTighter (times_in b) (times_in (asked_bounds early c))
between early c b h (inl e) = subst (λ (z : Bounds). IsTighter (times_in c) (times_in z) × IsTighter (times_in z) (times_in (asked_bounds early c))) (sym e) (tighter_self (times_in c), asked_tighter early c h)
between early c b h (inr (inl e)) = subst (λ (z : Bounds). IsTighter (times_in c) (times_in z) × IsTighter (times_in z) (times_in (asked_bounds early c))) (sym e) (tighter_self (times_in c), asked_tighter early c h)
between early c b h (inr (inr e)) = subst (λ (z : Bounds). IsTighter (times_in c) (times_in z) × IsTighter (times_in z) (times_in (asked_bounds early c))) (sym e) (asked_tighter early c h, tighter_self (times_in (asked_bounds early c)))

-- what a region is, beside another, where of one interval a presence or the guess at its end was assumed
pub record IsSeen (r q : Region) (i : Itv) (early : Bool) : Type 0 where
  pub others : (x : Itv) → (x.0 ≡ i.0 → ⊥) → bounds_of q x ≡ bounds_of r x
  pub here : AskedOf early (bounds_of r i) (bounds_of q i)
  pub there : says_present (bounds_of q i).presence ≡ true
  pub opened : says_absent (bounds_of r i).presence ≡ false

asked_present : (early : Bool) (c : Bounds) → says_present (asked_bounds early c).presence ≡ true
asked_present true c = refl
asked_present false c = refl

-- what the row lists of one member
abbrev pub Told : Bool → Region → Itv → Topic → Type 0
Told early r i t = (t ≡ One i Present) ⊎ (t ≡ One i (end_claim early (bounds_of r i)))

same_number : (i j : ℕ) → nat_eq i j ≡ true → i ≡ j
same_number i j h = grind (arith, nat_tests)

equal : (a b : ℤ) → int_eq a b ≡ true → a ≡ b
equal a b h = grind (arith, ints)

never : {Z : Type 0} (b : Bool) → (b && false) ≡ true → Z
never true h = cc
never false h = cc

not_zero : {Z : Type 0} (n : ℕ) → nat_eq (suc n) 0 ≡ true → Z
not_zero n h = absurd (clash n h)
  where
    clash : (n : ℕ) → nat_eq (suc n) 0 ≡ true → ⊥
    clash n h = grind (arith, nat_tests)

start_told : (r : Region) (z i : Itv) (t : ℤ) → nat_eq z.0 i.0 ≡ true → int_eq t (bounds_of r z).smin ≡ true → Told true r i (One z (StartLe t))
start_told r z i t named end =
    let same = same_number z.0 i.0 named in
    let is : t ≡ (bounds_of r i).smin = equal t (bounds_of r z).smin end ∙ ap (λ n. (bounds_of r (record { 0 = n })).smin) same in
    inr (ap (λ n. One (record { 0 = n }) (StartLe t)) same ∙ ap (λ w. One i (StartLe w)) is)

end_told : (r : Region) (z i : Itv) (t : ℤ) → nat_eq z.0 i.0 ≡ true → int_eq t (bounds_of r z).emax ≡ true → Told false r i (One z (EndGe t))
end_told r z i t named end =
    let same = same_number z.0 i.0 named in
    let is : t ≡ (bounds_of r i).emax = equal t (bounds_of r z).emax end ∙ ap (λ n. (bounds_of r (record { 0 = n })).emax) same in
    inr (ap (λ n. One (record { 0 = n }) (EndGe t)) same ∙ ap (λ w. One i (EndGe w)) is)

present_told : (early : Bool) (r : Region) (z i : Itv) → nat_eq z.0 i.0 ≡ true → Told early r i (One z Present)
present_told early r z i named = inl (ap (λ n. One (record { 0 = n }) Present) (same_number z.0 i.0 named))

pub starts_told : (side : ℕ) (r : Region) (i : Itv) (t : Topic) → asks_start side i.0 t ≡ true → is_end r t ≡ true → Told (asks_early side) r i t
starts_told side r i (One z Present) h end = present_told (asks_early side) r z i h
starts_told zero r i (One z (StartLe t)) h end = start_told r z i t (both_true (nat_eq z.0 i.0) true h).0 end
starts_told (suc n) r i (One z (StartLe t)) h end = not_zero n (both_true (nat_eq z.0 i.0) (nat_eq (suc n) 0) h).1
starts_told zero r i (One z (EndGe t)) h end = never (nat_eq z.0 i.0) h
starts_told (suc n) r i (One z (EndGe t)) h end = end_told r z i t (both_true (nat_eq z.0 i.0) _ h).0 end
starts_told side r i (One z Absent) h end = cc
starts_told side r i (One z (StartGe t)) h end = cc
starts_told side r i (One z (EndLe t)) h end = cc
starts_told side r i (Two p x y) h end = cc

pub ends_told : (side : ℕ) (r : Region) (i : Itv) (t : Topic) → asks_end side i.0 t ≡ true → is_end r t ≡ true → Told (asks_late side) r i t
ends_told side r i (One z Present) h end = present_told (asks_late side) r z i h
ends_told zero r i (One z (EndGe t)) h end = end_told r z i t (both_true (nat_eq z.0 i.0) true h).0 end
ends_told (suc n) r i (One z (EndGe t)) h end = not_zero n (both_true (nat_eq z.0 i.0) (nat_eq (suc n) 0) h).1
ends_told zero r i (One z (StartLe t)) h end = never (nat_eq z.0 i.0) h
ends_told (suc n) r i (One z (StartLe t)) h end = start_told r z i t (both_true (nat_eq z.0 i.0) _ h).0 end
ends_told side r i (One z Absent) h end = cc
ends_told side r i (One z (StartGe t)) h end = cc
ends_told side r i (One z (EndLe t)) h end = cc
ends_told side r i (Two p x y) h end = cc

-- so a listed guess makes such a region
pub seen_plain : (early : Bool) (r : Region) (i : Itv) → says_present (bounds_of r i).presence ≡ true → IsSeen r r i early
seen_plain early r i there = record { others = λ x other. refl; here = inl refl; there = there; opened = not_absent (bounds_of r i).presence there }

below : (i n : ℕ) → nat_lt i n ≡ true → i < n
below i n h = grind (arith, nat_tests)

seen_claim : (early : Bool) (r : Region) (i : Itv) (k : Claim) → admits_topic r (One i k) ≡ true → (k ≡ Present) ⊎ (k ≡ end_claim early (bounds_of r i)) → IsSeen r (assumed (One i k) r) i early
seen_claim early r i k free which =
    let two = both_true (nat_lt i.0 (length r.bounds)) (is_open_at k (bounds_of r i)) free in
    let is = bounds_there i (guessed k) r (below i.0 (length r.bounds) two.0) in
    record {
      others = λ x other. bounds_elsewhere i x (guessed k) r other;
      here = elim which [
        | inl e ↦ inr (inl (is ∙ ap (λ c. guessed c (bounds_of r i)) e))
        | inr e ↦ inr (inr (is ∙ ap (λ c. guessed c (bounds_of r i)) e))
      ];
      there = ap (λ b. says_present b.presence) is ∙ elim which [
        | inl e ↦ ap (λ c. says_present (guessed c (bounds_of r i)).presence) e
        | inr e ↦ ap (λ c. says_present (guessed c (bounds_of r i)).presence) e ∙ asked_present early (bounds_of r i)
      ];
      opened = open_not_absent k (bounds_of r i) two.1;
    }

pub seen_topic : (early : Bool) (r : Region) (i : Itv) (t : Topic) → admits_topic r t ≡ true → Told early r i t → IsSeen r (assumed t r) i early
seen_topic early r i t free (inl e) = subst (λ (u : Topic). IsSeen r (assumed u r) i early) (sym e) (seen_claim early r i Present (subst (λ (u : Topic). admits_topic r u ≡ true) e free) (inl refl))
seen_topic early r i t free (inr e) =
    subst (λ (u : Topic). IsSeen r (assumed u r) i early) (sym e) (seen_claim early r i (end_claim early (bounds_of r i)) (subst (λ (u : Topic). admits_topic r u ≡ true) e free) (inr refl))

pub seen_asked : (early : Bool) (r : Region) (i : Itv) (lists : Guess → Bool) (guess : Option Guess) → ((g : Guess) → lists g ≡ true → is_end r (topic g) ≡ true → Told early r i (topic g)) → is_asked lists r guess ≡ true
    → says_present (bounds_of (looked_at guess r) i).presence ≡ true → IsSeen r (looked_at guess r) i early
seen_asked early r i lists None told asked there = seen_plain early r i there
seen_asked early r i lists (Some g) told asked there =
    let two = both_true (lists g) (is_open_end r g) asked in
    let opened = both_true (admits r g) (is_end r (topic g)) two.1 in
    seen_topic early r i (topic g) opened.0 (told g two.0 opened.1)

-- the numbers of each member under it
pub seen_tighter : (side : ℕ) (early : Bool) (r q : Region) (i x : Itv) → IsNarrow (bounds_of r i) → IsSeen r q i early → IsTighter (seen side (bounds_of r x)) (seen side (bounds_of q x))
seen_tighter side early r q i x low h = by_case (nat_eq x.0 i.0) refl
  where
    different : nat_eq x.0 i.0 ≡ false → x.0 ≡ i.0 → ⊥
    different off e = grind (arith, nat_tests)

    by_case : (b : Bool) → nat_eq x.0 i.0 ≡ b → IsTighter (seen side (bounds_of r x)) (seen side (bounds_of q x))
    by_case true is = subst (λ n. IsTighter (seen side (bounds_of r (record { 0 = n }))) (seen side (bounds_of q (record { 0 = n })))) (sym (same_number x.0 i.0 is))
        (tighter_seen side (times_in (bounds_of r i)) (times_in (bounds_of q i)) (between early (bounds_of r i) (bounds_of q i) low h.here).0)
    by_case false is = subst (λ (b : Bounds). IsTighter (seen side (bounds_of r x)) (seen side b)) (sym (h.others x (different is))) (tighter_self (seen side (bounds_of r x)))

pub asked_seen : (side : ℕ) (early : Bool) (r q : Region) (i : Itv) → IsNarrow (bounds_of r i) → IsSeen r q i early → IsTighter (seen side (bounds_of q i)) (seen side (asked_bounds early (bounds_of r i)))
asked_seen side early r q i low h = tighter_seen side (times_in (bounds_of q i)) (times_in (asked_bounds early (bounds_of r i))) (between early (bounds_of r i) (bounds_of q i) low h.here).1

-- the guess at the end is open, or says nothing new
pub open_or_told : (early : Bool) (c : Bounds) → IsNarrow c → says_absent c.presence ≡ false → (is_open_at (end_claim early c) c ≡ true) ⊎ (times_in c ≡ times_in (asked_bounds early c))
open_or_told true c low here = by_case (int_lt c.smin c.smax) refl
  where
    itself : int_le c.smin c.smin ≡ true
    itself = grind (arith, ints)

    closed : int_lt c.smin c.smax ≡ false → c.smax ≡ c.smin
    closed is = let h = low.starts in let k : c.smax ≤ℤ c.smin = grind (arith, ints) in omega (arith, ints, h, k)

    by_case : (b : Bool) → int_lt c.smin c.smax ≡ b → (is_open_at (end_claim true c) c ≡ true) ⊎ (times_in c ≡ times_in (asked_bounds true c))
    by_case true is = inl (rw (here, itself, is) refl)
    by_case false is = inr (ap (λ t. record { est = c.smin; lct = c.emax; lst = int_min t (c.emax -ℤ c.pmin); ect = int_max c.emin (c.smin +ℤ c.pmin); p = c.pmin }) (closed is))
open_or_told false c low here = by_case (int_lt c.emin c.emax) refl
  where
    itself : int_le c.emax c.emax ≡ true
    itself = grind (arith, ints)

    closed : int_lt c.emin c.emax ≡ false → c.emin ≡ c.emax
    closed is = let h = low.ends in let k : c.emax ≤ℤ c.emin = grind (arith, ints) in omega (arith, ints, h, k)

    by_case : (b : Bool) → int_lt c.emin c.emax ≡ b → (is_open_at (end_claim false c) c ≡ true) ⊎ (times_in c ≡ times_in (asked_bounds false c))
    by_case true is = inl (rw (here, is, itself) refl)
    by_case false is = inr (ap (λ t. record { est = c.smin; lct = c.emax; lst = int_min c.smax (c.emax -ℤ c.pmin); ect = int_max t (c.smin +ℤ c.pmin); p = c.pmin }) (closed is))
