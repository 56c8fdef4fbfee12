-- A part of which no guess is refuted.
use Rattle.std.specs.Prelude.{◌≡◌, ℕ, ◌+◌, ◌-◌, ◌<◌, ℤ, pos, ◌+ℤ◌, ◌-ℤ◌, ◌≤ℤ◌, Bool, true, false, not, ◌&&◌, ◌||◌, List, [], ◌∷◌, length, Some, None, nat_lt, int_le, int_lt}
use Rattle.std.specs.Int.{int_max, int_min}
use Rattle.std.specs.Ordering.{int_eq}
use Rattle.std.proofs.Common.{refl, sym, subst, arith}
use Rattle.std.proofs.lemmas.Bool.{true≢false, or_from, or_parts}
use Rattle.std.proofs.lemmas.Bool.Decides.{nat_tests}
use Rattle.std.proofs.lemmas.Int.{ints}
use Rattle.base_laws.specs.laws.Truth.{alone, never_both}
use Rattle.sched_base.specs.declared.ids.Itv.{Itv}
use Rattle.sched_model.specs.Data.{same}
use Rattle.region.specs.declared.types.Presence.{Presence}
use Rattle.region.specs.declared.types.Presence.TheVariants.{Absent, Present, Maybe}
use Rattle.region.specs.declared.types.Bounds.{Bounds}
use Rattle.region.specs.declared.types.Claim.{Claim}
use Rattle.region.specs.declared.types.Claim.TheVariants as claim
use Rattle.region.specs.declared.types.Topic.{Topic}
use Rattle.region.specs.declared.types.Topic.TheVariants.{One, Two}
use Rattle.region.specs.Claims.{guessed, is_open_at}
use Rattle.region.specs.Cells.{Region, bounds_of, says_present}
use Rattle.region.specs.Guesses.{admits_topic, assumed, topic}
use Rattle.region.specs.Looks.{lst_in, ect_in, est_in, lct_in}
use Rattle.region.specs.laws.Intervals.{bounds_there}
use Rattle.region.specs.laws.Lists.{both_true}
use Rattle.region.specs.laws.OneSequence.{same_is}
use Rattle.findings.specs.Ends.{is_open_end, is_end, is_end_at}
use Rattle.findings.specs.code.Numbers.{highest_end, lowest_start, ends_of}
use Rattle.findings.specs.code.Reads.{AreUnrefuted, is_among}
use Rattle.findings.specs.laws.Numbers.{least_start, greatest_end}
use Rattle.refute_hier.specs.declared.parts.Role.TheVariants.{IsThere, StartsBefore, EndsAfter, Clashes, MayStart, MayEnd, MayMatch}
use Rattle.refute_hier.specs.Parts.{plays, clash, are_apart, have_starts_apart, have_ends_apart}
use Rattle.refute_hier.specs.declared.family.Kind.{Kind}
use Rattle.refute_hier.specs.declared.family.Kind.TheVariants.{Span, Alternative, Synchronize}
use Rattle.refute_hier.specs.code.Rows.{some_refutes}
use Rattle.prop_hier.specs.declared.counts.Counts.{Counts}
use Rattle.prop_hier.specs.code.Counts.{one_if, counts_after, is_above, is_below, counts_refute}
use Rattle.prop_hier.specs.code.Ready.{IsReady}
use Rattle.prop_hier.specs.code.Rows.{refutes_under}
use Rattle.prop_hier.specs.code.Silent.{is_within, has_others, starts_match, ends_match, lasts, always_matches, leaves_room, has_another, is_silent}
use Rattle.prop_hier.proofs.Counting.{part_told, plain_told}

-- what a guess at the end of a cell leaves of a part
before_none : (s : Bool) (l low m : ℤ) → int_le m low ≡ true → low ≤ℤ l → (s && int_lt l m) ≡ false
before_none true l low m fits up = grind (arith, ints, fits, up)
before_none false l low m fits up = refl

never_before : (k : Claim) (a c : Bounds) → is_end_at k c ≡ true → is_within a (ends_of c) ≡ true → plays StartsBefore a (guessed k c) ≡ false
never_before k a c end within = before_none (says_present (guessed k c).presence) (lst_in (guessed k c)) (lowest_start c) a.smin (both_true (int_le a.smin (lowest_start c)) (int_le (highest_end c) a.emax) within).0 (least_start k c end)

after_none : (s : Bool) (e high m : ℤ) → int_le high m ≡ true → e ≤ℤ high → (s && int_lt m e) ≡ false
after_none true e high m fits down = grind (arith, ints, fits, down)
after_none false e high m fits down = refl

never_after : (k : Claim) (a c : Bounds) → is_end_at k c ≡ true → is_within a (ends_of c) ≡ true → plays EndsAfter a (guessed k c) ≡ false
never_after k a c end within = after_none (says_present (guessed k c).presence) (ect_in (guessed k c)) (highest_end c) a.emax (both_true (int_le a.smin (lowest_start c)) (int_le (highest_end c) a.emax) within).1 (greatest_end k c end)

-- numbers with one part other than it was
more_left : (m : ℕ) (b d : Bool) → nat_lt 1 m ≡ true → nat_lt 0 ((m - one_if b) + one_if d) ≡ true
more_left m true true h = grind (arith, nat_tests, h)
more_left m true false h = grind (arith, nat_tests, h)
more_left m false true h = grind (arith, nat_tests, h)
more_left m false false h = grind (arith, nat_tests, h)

none_left : (m : ℕ) (b d : Bool) → nat_lt 0 m ≡ false → d ≡ false → nat_lt 0 ((m - one_if b) + one_if d) ≡ false
none_left m b true h off = absurd (true≢false off)
none_left m true false h off = grind (arith, nat_tests, h)
none_left m false false h off = grind (arith, nat_tests, h)

-- no more than the count, where one that is counted, or has room, is present
room_left : (k : ℤ) (m : ℕ) (b d : Bool) → int_lt k (pos m) ≡ false → ((b && nat_lt 0 m) || int_lt (pos m) k) ≡ true → int_lt k (pos ((m - one_if b) + one_if d)) ≡ false
room_left k m true true few h = grind (arith, ints, nat_tests, few, h)
room_left k m true false few h = grind (arith, ints, nat_tests, few)
room_left k m false true few h = grind (arith, ints, nat_tests, h)
room_left k m false false few h = grind (arith, ints, nat_tests, few)

-- no fewer than the count, where there are more
others_left : (k : ℤ) (m : ℕ) (b d : Bool) → int_lt k (pos m) ≡ true → int_lt (pos ((m - one_if b) + one_if d)) k ≡ false
others_left k m true true h = grind (arith, ints, nat_tests, h)
others_left k m true false h = grind (arith, ints, nat_tests, h)
others_left k m false true h = grind (arith, ints, nat_tests, h)
others_left k m false false h = grind (arith, ints, nat_tests, h)

-- where each of some tests fails
four_fail : (w x y z : Bool) → w ≡ true → x ≡ true → y ≡ false → z ≡ false → (not w || not x || y || z) ≡ false
four_fail true true false false e f g h = refl
four_fail true true true z e f g h = cc
four_fail true true false true e f g h = cc
four_fail true false y z e f g h = cc
four_fail false x y z e f g h = cc

-- no guess on a part makes it clash with its interval
record Fits (a c : Bounds) : Type 0 where
  pub starts : int_le a.smin c.smin ≡ true
  pub start : int_le c.smin c.smax ≡ true
  pub before : int_le c.smax (lst_in a) ≡ true
  pub behind : int_le (ect_in a) c.emin ≡ true
  pub end : int_le c.emin c.emax ≡ true
  pub ends : int_le c.emax a.emax ≡ true
  pub sooner : int_le (c.smin +ℤ c.pmin) c.emin ≡ true
  pub later : int_le (c.smax +ℤ c.pmin) c.emax ≡ true

fits : (a c : Bounds) → always_matches a c ≡ true → Fits a c
fits a c h =
    let all = both_true (starts_match a c && ends_match a c) (lasts c) h in
    let both = both_true (starts_match a c) (ends_match a c) all.0 in
    let begins = both_true (int_le a.smin c.smin && int_le c.smin c.smax) (int_le c.smax (lst_in a)) both.0 in
    let first = both_true (int_le a.smin c.smin) (int_le c.smin c.smax) begins.0 in
    let closes = both_true (int_le (ect_in a) c.emin && int_le c.emin c.emax) (int_le c.emax a.emax) both.1 in
    let last = both_true (int_le (ect_in a) c.emin) (int_le c.emin c.emax) closes.0 in
    let sizes = both_true (int_le (c.smin +ℤ c.pmin) c.emin) (int_le (c.smax +ℤ c.pmin) c.emax) all.1 in
    record { starts = first.0; start = first.1; before = begins.1; behind = last.0; end = last.1; ends = closes.1; sooner = sizes.0; later = sizes.1 }

meets : (first last other_first other_last : ℤ) → first ≤ℤ last → first ≤ℤ other_last → other_first ≤ℤ last → other_first ≤ℤ other_last → are_apart first last other_first other_last ≡ false
meets first last other_first other_last p q s t = grind (arith, ints, p, q, s, t)

-- the numbers that a guess leaves of a part
record Meets (a d : Bounds) : Type 0 where
  pub own_start : est_in a ≤ℤ lst_in a
  pub own_end : ect_in a ≤ℤ lct_in a
  pub start_late : est_in a ≤ℤ lst_in d
  pub start_soon : est_in d ≤ℤ lst_in a
  pub start : est_in d ≤ℤ lst_in d
  pub end_late : ect_in a ≤ℤ lct_in d
  pub end_soon : ect_in d ≤ℤ lct_in a
  pub end : ect_in d ≤ℤ lct_in d

no_clash : (a d : Bounds) → Meets a d → clash a d ≡ false
no_clash a d m = or_from (have_starts_apart a d) (have_ends_apart a d)
    (meets (est_in a) (lst_in a) (est_in d) (lst_in d) m.own_start m.start_late m.start_soon m.start)
    (meets (ect_in a) (lct_in a) (ect_in d) (lct_in d) m.own_end m.end_late m.end_soon m.end)

is_equal : (a b : ℤ) → int_eq a b ≡ true → a ≡ b
is_equal a b h = grind (arith, ints)

itself : (a : ℤ) → int_le a a ≡ true
itself a = grind (arith, ints)

sum_before : (s m z e : ℤ) → int_le s m ≡ true → int_le (m +ℤ z) e ≡ true → int_le (s +ℤ z) e ≡ true
sum_before s m z e p q = grind (arith, ints, p, q)

lasts_from : (s m e z : ℤ) → int_le s m ≡ true → int_le (s +ℤ z) e ≡ true → s ≤ℤ int_min m (e -ℤ z)
lasts_from s m e z p q = grind (arith, ints, p, q)

lasts_until : (d s z e : ℤ) → int_le d e ≡ true → int_le (s +ℤ z) e ≡ true → int_max d (s +ℤ z) ≤ℤ e
lasts_until d s z e p q = grind (arith, ints, p, q)

meeting : (k : Claim) (a c : Bounds) → is_end_at k c ≡ true → Fits a c → Meets a (guessed k c)
meeting k a c e f = record {
  own_start = (let p = f.starts in let q = f.start in let s = f.before in grind (arith, ints, p, q, s));
  own_end = (let p = f.behind in let q = f.end in let s = f.ends in grind (arith, ints, p, q, s));
  start_late = start_late k e;
  start_soon = start_soon k e;
  start = start k e;
  end_late = end_late k e;
  end_soon = end_soon k e;
  end = end k e;
}
  where
    fitting : int_le (c.smin +ℤ c.pmin) c.emax ≡ true
    fitting = sum_before c.smin c.smax c.pmin c.emax f.start f.later

    wide : c.smin ≤ℤ lst_in c
    wide = lasts_from c.smin c.smax c.emax c.pmin f.start fitting

    long : ect_in c ≤ℤ c.emax
    long = lasts_until c.emin c.smin c.pmin c.emax f.end fitting

    start_late : (k : Claim) → is_end_at k c ≡ true → est_in a ≤ℤ lst_in (guessed k c)
    start_late k e = let low = least_start k c e in let p = f.starts in let q = f.start in let s = f.sooner in let t = f.end in grind (arith, ints, low, p, q, s, t)

    end_soon : (k : Claim) → is_end_at k c ≡ true → ect_in (guessed k c) ≤ℤ lct_in a
    end_soon k e = let high = greatest_end k c e in let p = f.ends in let q = f.end in let s = f.later in let t = f.start in grind (arith, ints, high, p, q, s, t)

    start_soon : (k : Claim) → is_end_at k c ≡ true → est_in (guessed k c) ≤ℤ lst_in a
    start_soon claim.Present e = let p = f.start in let q = f.before in grind (arith, ints, e, p, q)
    start_soon claim.Absent e = let p = f.start in let q = f.before in grind (arith, ints, e, p, q)
    start_soon (claim.StartLe t) e = let p = f.start in let q = f.before in grind (arith, ints, e, p, q)
    start_soon (claim.StartGe t) e = let p = f.start in let q = f.before in grind (arith, ints, e, p, q)
    start_soon (claim.EndLe t) e = let p = f.start in let q = f.before in grind (arith, ints, e, p, q)
    start_soon (claim.EndGe t) e = let p = f.start in let q = f.before in grind (arith, ints, e, p, q)

    start : (k : Claim) → is_end_at k c ≡ true → est_in (guessed k c) ≤ℤ lst_in (guessed k c)
    start claim.Present e = wide
    start claim.Absent e = wide
    start (claim.StartLe t) e = subst (λ s. c.smin ≤ℤ int_min s (c.emax -ℤ c.pmin)) (sym (is_equal t c.smin e)) (lasts_from c.smin c.smin c.emax c.pmin (itself c.smin) fitting)
    start (claim.StartGe t) e = subst (λ s. s ≤ℤ int_min c.smax (c.emax -ℤ c.pmin)) (sym (is_equal t c.smax e)) (lasts_from c.smax c.smax c.emax c.pmin (itself c.smax) f.later)
    start (claim.EndLe t) e = subst (λ s. c.smin ≤ℤ int_min c.smax (s -ℤ c.pmin)) (sym (is_equal t c.emin e)) (lasts_from c.smin c.smax c.emin c.pmin f.start f.sooner)
    start (claim.EndGe t) e = wide

    end_late : (k : Claim) → is_end_at k c ≡ true → ect_in a ≤ℤ lct_in (guessed k c)
    end_late claim.Present e = let p = f.behind in let q = f.end in grind (arith, ints, e, p, q)
    end_late claim.Absent e = let p = f.behind in let q = f.end in grind (arith, ints, e, p, q)
    end_late (claim.StartLe t) e = let p = f.behind in let q = f.end in grind (arith, ints, e, p, q)
    end_late (claim.StartGe t) e = let p = f.behind in let q = f.end in grind (arith, ints, e, p, q)
    end_late (claim.EndLe t) e = let p = f.behind in let q = f.end in grind (arith, ints, e, p, q)
    end_late (claim.EndGe t) e = let p = f.behind in let q = f.end in grind (arith, ints, e, p, q)

    end : (k : Claim) → is_end_at k c ≡ true → ect_in (guessed k c) ≤ℤ lct_in (guessed k c)
    end claim.Present e = long
    end claim.Absent e = long
    end (claim.StartLe t) e = long
    end (claim.StartGe t) e = subst (λ s. int_max c.emin (s +ℤ c.pmin) ≤ℤ c.emax) (sym (is_equal t c.smax e)) (lasts_until c.emin c.smax c.pmin c.emax f.end f.later)
    end (claim.EndLe t) e = subst (λ s. int_max c.emin (c.smin +ℤ c.pmin) ≤ℤ s) (sym (is_equal t c.emin e)) (lasts_until c.emin c.smin c.pmin c.emin (itself c.emin) f.sooner)
    end (claim.EndGe t) e = subst (λ s. int_max s (c.smin +ℤ c.pmin) ≤ℤ c.emax) (sym (is_equal t c.emax e)) (lasts_until c.emax c.smin c.pmin c.emax (itself c.emax) fitting)

never_clash : (k : Claim) (a c : Bounds) → is_end_at k c ≡ true → always_matches a c ≡ true → plays Clashes a (guessed k c) ≡ false
never_clash k a c e all = never_both (says_present (guessed k c).presence) (clash a (guessed k c)) (no_clash a (guessed k c) (meeting k a c e (fits a c all)))

-- of one kind after another
quiet_span : (p : Presence) (k : Claim) (a c : Bounds) (n : Counts) → is_end_at k c ≡ true → counts_refute Span p n ≡ false → has_others p n ≡ true → is_within a (ends_of c) ≡ true → counts_refute Span p (counts_after Span a c (guessed k c) n) ≡ false
quiet_span Absent k a c n e calm others within = cc
quiet_span Present k a c n e calm others within =
    let three = or_parts (not (nat_lt 0 n.may_start) || not (nat_lt 0 n.may_end) || nat_lt 0 n.starts_before) (nat_lt 0 n.ends_after) calm in
    let two = or_parts (not (nat_lt 0 n.may_start) || not (nat_lt 0 n.may_end)) (nat_lt 0 n.starts_before) three.0 in
    let both = both_true (nat_lt 1 n.may_start) (nat_lt 1 n.may_end) others in
    four_fail _ _ _ _ (more_left n.may_start (plays MayStart a c) (plays MayStart a (guessed k c)) both.0) (more_left n.may_end (plays MayEnd a c) (plays MayEnd a (guessed k c)) both.1)
    (none_left n.starts_before (plays StartsBefore a c) (plays StartsBefore a (guessed k c)) two.1 (never_before k a c e within))
    (none_left n.ends_after (plays EndsAfter a c) (plays EndsAfter a (guessed k c)) three.1 (never_after k a c e within))
quiet_span Maybe k a c n e calm others within =
    let two = or_parts (nat_lt 0 n.starts_before) (nat_lt 0 n.ends_after) calm in
    or_from _ _ (none_left n.starts_before (plays StartsBefore a c) (plays StartsBefore a (guessed k c)) two.0 (never_before k a c e within))
    (none_left n.ends_after (plays EndsAfter a c) (plays EndsAfter a (guessed k c)) two.1 (never_after k a c e within))

quiet_alternative : (count : ℤ) (p : Presence) (k : Claim) (a c : Bounds) (n : Counts) → is_end_at k c ≡ true → counts_refute (Alternative count) p n ≡ false → has_another count p c.presence n ≡ true → always_matches a c ≡ true
    → counts_refute (Alternative count) p (counts_after (Alternative count) a c (guessed k c) n) ≡ false
quiet_alternative count Absent k a c n e calm other all = cc
quiet_alternative count Present k a c n e calm other all =
    let two = or_parts (is_above count n || is_below count n) (nat_lt 0 n.clashes) calm in
    let one = or_parts (is_above count n) (is_below count n) two.0 in
    let both = both_true (leaves_room count c.presence n) (int_lt count (pos n.may_match)) other in
    or_from _ _
    (or_from _ _ (room_left count n.there (plays IsThere a c) (plays IsThere a (guessed k c)) one.0 both.0) (others_left count n.may_match (plays MayMatch a c) (plays MayMatch a (guessed k c)) both.1))
    (none_left n.clashes (plays Clashes a c) (plays Clashes a (guessed k c)) two.1 (never_clash k a c e all))
quiet_alternative count Maybe k a c n e calm other all =
    let two = or_parts (is_above count n) (nat_lt 0 n.clashes) calm in
    or_from _ _ (room_left count n.there (plays IsThere a c) (plays IsThere a (guessed k c)) two.0 other) (none_left n.clashes (plays Clashes a c) (plays Clashes a (guessed k c)) two.1 (never_clash k a c e all))

quiet_synchronize : (p : Presence) (k : Claim) (a c : Bounds) (n : Counts) → is_end_at k c ≡ true → counts_refute Synchronize p n ≡ false → always_matches a c ≡ true → counts_refute Synchronize p (counts_after Synchronize a c (guessed k c) n) ≡ false
quiet_synchronize Absent k a c n e calm all = refl
quiet_synchronize Present k a c n e calm all = none_left n.clashes (plays Clashes a c) (plays Clashes a (guessed k c)) calm (never_clash k a c e all)
quiet_synchronize Maybe k a c n e calm all = refl

quiet_part : (kind : Kind) (k : Claim) (a c : Bounds) (n : Counts) → is_end_at k c ≡ true → counts_refute kind a.presence n ≡ false → is_silent kind a c n ≡ true → counts_refute kind a.presence (counts_after kind a c (guessed k c) n) ≡ false
quiet_part Span k a c n e calm h = let two = both_true (has_others a.presence n) (is_within a (ends_of c)) h in quiet_span a.presence k a c n e calm two.0 two.1
quiet_part (Alternative count) k a c n e calm h = let two = both_true (has_another count a.presence c.presence n) (always_matches a c) h in quiet_alternative count a.presence k a c n e calm two.0 two.1
quiet_part Synchronize k a c n e calm h = quiet_synchronize a.presence k a c n e calm h

-- neither the region nor a guess on the part is refuted
under_none : (kind : Kind) (r : Region) (a x : Itv) (bs : List Itv) (n : Counts) (t : Topic) → IsReady kind r a bs n x → same x a ≡ false → counts_refute kind (bounds_of r a).presence n ≡ false → is_silent kind (bounds_of r a) (bounds_of r x) n ≡ true
    → is_among (x ∷ []) [] t ≡ true → (admits_topic r t && is_end r t) ≡ true → some_refutes kind (assumed t r) a bs ≡ false
under_none kind r a x bs n (One y k) ready apart calm silent among ends =
    let here = alone (same y x) among in
    let is = same_is y x here in
    let two = both_true (admits_topic r (One y k)) (is_end r (One y k)) ends in
    let within = both_true (nat_lt y.0 (length r.bounds)) (is_open_at k (bounds_of r y)) two.0 in
    let there : bounds_of (assumed (One y k) r) y ≡ guessed k (bounds_of r y) = bounds_there y (guessed k) r (below y.0 (length r.bounds) within.0) in
    let new : guessed k (bounds_of r x) ≡ bounds_of (assumed (One y k) r) x = subst (λ z. guessed k (bounds_of r z) ≡ bounds_of (assumed (One y k) r) z) is (sym there) in
    let end : is_end_at k (bounds_of r x) ≡ true = subst (λ z. is_end_at k (bounds_of r z) ≡ true) is two.1 in
    sym (part_told kind r (assumed (One y k) r) a x bs n (bounds_of r a) (bounds_of r x) (guessed k (bounds_of r x)) (One y k) false ready refl here apart refl refl new (sym (quiet_part kind k (bounds_of r a) (bounds_of r x) n end calm silent)))
  where
    below : (i m : ℕ) → nat_lt i m ≡ true → i < m
    below i m h = grind (arith, nat_tests)
under_none kind r a x bs n (Two p y z) ready apart calm silent among ends = cc

pub unrefuted_part : (kind : Kind) (r : Region) (a x : Itv) (bs : List Itv) (n : Counts) → IsReady kind r a bs n x → same x a ≡ false → counts_refute kind (bounds_of r a).presence n ≡ false → is_silent kind (bounds_of r a) (bounds_of r x) n ≡ true
    → AreUnrefuted (refutes_under kind r a bs) r (x ∷ []) []
unrefuted_part kind r a x bs n ready apart calm silent None asked = sym (plain_told kind r a bs n (bounds_of r a).presence false ready.counts refl (sym calm))
unrefuted_part kind r a x bs n ready apart calm silent (Some g) asked =
    let two = both_true (is_among (x ∷ []) [] (topic g)) (is_open_end r g) asked in
    under_none kind r a x bs n (topic g) ready apart calm silent two.0 two.1
