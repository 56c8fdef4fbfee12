-- What a guess at the end of a cell moves: one end of one interval.
use Rattle.std.specs.Prelude.{◌≡◌, ◌⊎◌, ℕ, ◌<◌, ℤ, pos, ◌+ℤ◌, ◌-ℤ◌, ◌≤ℤ◌, Bool, true, false, not, ◌&&◌, ◌||◌, length, nat_lt, int_le, int_lt}
use Rattle.std.proofs.Common.{refl, sym, ap, subst, ◌∙◌, inl, inr, arith}
use Rattle.std.specs.Int.{int_max}
use Rattle.std.proofs.lemmas.Int.{ints}
use Rattle.std.proofs.lemmas.Bool.{true≢false, or_left, or_right}
use Rattle.std.proofs.lemmas.Bool.Decides.{nat_tests}
use Rattle.sched_base.specs.declared.ids.Itv.{Itv}
use Rattle.sched_model.specs.Data.{same}
use Rattle.region.specs.declared.types.Bounds.{Bounds}
use Rattle.region.specs.declared.types.Claim.{Claim}
use Rattle.region.specs.declared.types.Claim.TheVariants as claim
use Rattle.region.specs.declared.types.Topic.TheVariants.{One}
use Rattle.region.specs.Claims.{guessed, is_open_at}
use Rattle.region.specs.Cells.{Region, bounds_of, says_present, says_absent}
use Rattle.region.specs.Guesses.{with_bounds, admits_topic}
use Rattle.region.specs.Looks.{lst_in, ect_in, lst_of, ect_of}
use Rattle.region.specs.laws.Lists.{both_true}
use Rattle.region.specs.laws.Intervals.{bounds_there, bounds_elsewhere}
use Rattle.region.specs.laws.OneSequence.{same_is}
use Rattle.findings.specs.Ends.{is_end_at}
use Rattle.findings.specs.code.Numbers.{highest_end, lowest_start, ends_in}
use Rattle.findings.specs.laws.Open.{not_absent, open_not_absent}
use Rattle.findings.specs.laws.Numbers.{least_start, greatest_end, plain_start, plain_end}
use Rattle.refute_state.specs.Times.{is_long_in, is_long, is_late}
use Rattle.prop_state.specs.code.Silence.{longest_part, is_late_in, may_be_late}
use Rattle.sched_model.specs.laws.Members.{same_not}

-- it keeps the latest start or the earliest end
keeps_one : (k : Claim) (c : Bounds) → (lst_in (guessed k c) ≡ lst_in c) ⊎ (ect_in (guessed k c) ≡ ect_in c)
keeps_one claim.Present c = inl refl
keeps_one claim.Absent c = inl refl
keeps_one (claim.StartLe t) c = inr refl
keeps_one (claim.StartGe t) c = inl refl
keeps_one (claim.EndLe t) c = inr refl
keeps_one (claim.EndGe t) c = inl refl

-- what a region is, beside another, where one of the two ends of interval z may have moved
abbrev pub Other : Itv → Itv → Type 0
Other z w = same w z ≡ false

pub record Moved (r q : Region) (z : Itv) : Type 0 where
  pub elsewhere : (w : Itv) → Other z w → bounds_of q w ≡ bounds_of r w
  pub absent : (w : Itv) → says_absent (bounds_of r w).presence ≡ true → is_long q w ≡ false
  pub start : lowest_start (bounds_of r z) ≤ℤ lst_of q z
  pub end : ect_of q z ≤ℤ highest_end (bounds_of r z)
  pub one : (lst_of q z ≡ lst_of r z) ⊎ (ect_of q z ≡ ect_of r z)

never_long : (c : Bounds) → says_absent c.presence ≡ true → is_long_in c ≡ false
never_long c h = by_presence (says_present c.presence) refl
  where
    by_presence : (b : Bool) → says_present c.presence ≡ b → is_long_in c ≡ false
    by_presence false is = ap (λ b. b && (int_le (pos 1) c.pmin || int_lt c.smax c.emin)) is
    by_presence true is = absurd (true≢false (sym h ∙ not_absent c.presence is))

pub not_moved : (r : Region) (z : Itv) → Moved r r z
not_moved r z = record {
  elsewhere = λ w other. refl;
  absent = λ w away. never_long (bounds_of r w) away;
  start = plain_start (bounds_of r z);
  end = plain_end (bounds_of r z);
  one = inl refl;
}

below : (i n : ℕ) → nat_lt i n ≡ true → i < n
below i n h = grind (arith, nat_tests)

pub moved : (r : Region) (z : Itv) (k : Claim) → admits_topic r (One z k) ≡ true → is_end_at k (bounds_of r z) ≡ true → Moved r (with_bounds z (guessed k) r) z
moved r z k free end =
    let q = with_bounds z (guessed k) r in
    let two = both_true (nat_lt z.0 (length r.bounds)) (is_open_at k (bounds_of r z)) free in
    let there : bounds_of q z ≡ guessed k (bounds_of r z) = bounds_there z (guessed k) r (below z.0 (length r.bounds) two.0) in
    record {
      elsewhere = off;
      absent = λ w away. by_same w (same w z) refl away (open_not_absent k (bounds_of r z) two.1);
      start = subst (λ c. lowest_start (bounds_of r z) ≤ℤ lst_in c) (sym there) (least_start k (bounds_of r z) end);
      end = subst (λ c. ect_in c ≤ℤ highest_end (bounds_of r z)) (sym there) (greatest_end k (bounds_of r z) end);
      one = subst (λ c. (lst_in c ≡ lst_of r z) ⊎ (ect_in c ≡ ect_of r z)) (sym there) (keeps_one k (bounds_of r z));
    }
  where
    off : (w : Itv) → Other z w → bounds_of (with_bounds z (guessed k) r) w ≡ bounds_of r w
    off w other = bounds_elsewhere z w (guessed k) r (same_not w z other)

    by_same : (w : Itv) (b : Bool) → same w z ≡ b → says_absent (bounds_of r w).presence ≡ true → says_absent (bounds_of r z).presence ≡ false → is_long (with_bounds z (guessed k) r) w ≡ false
    by_same w true is away here = absurd (true≢false (sym away ∙ subst (λ y. says_absent (bounds_of r y).presence ≡ false) (sym (same_is w z is)) here))
    by_same w false is away here = ap is_long_in (off w is) ∙ never_long (bounds_of r w) away

-- so what is late under the guess may be late
cut : (low s e high n : ℤ) → (l f : ℤ) → low ≤ℤ s → e ≤ℤ high → (s ≡ l) ⊎ (e ≡ f) → int_lt s (e +ℤ n) ≡ true → (int_lt low (f +ℤ n) || int_lt l (high +ℤ n)) ≡ true
cut low s e high n l f down up (inl same_start) h = or_right (int_lt low (f +ℤ n)) (int_lt l (high +ℤ n)) (right s l e high n same_start up h)
  where
    right : (s l e high n : ℤ) → s ≡ l → e ≤ℤ high → int_lt s (e +ℤ n) ≡ true → int_lt l (high +ℤ n) ≡ true
    right s l e high n same up h = grind (arith, ints, same, up, h)
cut low s e high n l f down up (inr same_end) h = or_left (int_lt low (f +ℤ n)) (int_lt l (high +ℤ n)) (left low s e f n down same_end h)
  where
    left : (low s e f n : ℤ) → low ≤ℤ s → e ≡ f → int_lt s (e +ℤ n) ≡ true → int_lt low (f +ℤ n) ≡ true
    left low s e f n down same h = grind (arith, ints, down, same, h)

-- the ends of another interval are as they were
pub record EndsAt (r q : Region) (x y : Itv) : Type 0 where
  pub start : lowest_start (bounds_of r y) ≤ℤ lst_of q y
  pub end : ect_of q x ≤ℤ highest_end (bounds_of r x)
  pub one : (lst_of q y ≡ lst_of r y) ⊎ (ect_of q x ≡ ect_of r x)

ends_at : (r q : Region) (z x y : Itv) → Moved r q z → EndsAt r q x y
ends_at r q z x y is = by_case (same x z) (same y z) refl refl
  where
    start_off : Other z y → lst_of q y ≡ lst_of r y
    start_off other = ap lst_in (is.elsewhere y other)

    end_off : Other z x → ect_of q x ≡ ect_of r x
    end_off other = ap ect_in (is.elsewhere x other)

    start_here : (b : Bool) → same y z ≡ b → lowest_start (bounds_of r y) ≤ℤ lst_of q y
    start_here true e = subst (λ w. lowest_start (bounds_of r w) ≤ℤ lst_of q w) (sym (same_is y z e)) is.start
    start_here false e = subst (λ s. lowest_start (bounds_of r y) ≤ℤ s) (sym (start_off e)) (plain_start (bounds_of r y))

    end_here : (b : Bool) → same x z ≡ b → ect_of q x ≤ℤ highest_end (bounds_of r x)
    end_here true e = subst (λ w. ect_of q w ≤ℤ highest_end (bounds_of r w)) (sym (same_is x z e)) is.end
    end_here false e = subst (λ s. s ≤ℤ highest_end (bounds_of r x)) (sym (end_off e)) (plain_end (bounds_of r x))

    by_case : (b d : Bool) → same x z ≡ b → same y z ≡ d → EndsAt r q x y
    by_case b false e f = record { start = start_here false f; end = end_here b e; one = inl (start_off f) }
    by_case false true e f = record { start = start_here true f; end = end_here false e; one = inr (end_off e) }
    by_case true true e f = record { start = start_here true f; end = end_here true e; one = subst (λ w. (lst_of q w ≡ lst_of r w) ⊎ (ect_of q x ≡ ect_of r x)) (sym (same_is y z f)) (subst (λ w. (lst_of q z ≡ lst_of r z) ⊎ (ect_of q w ≡ ect_of r w)) (sym (same_is x z e)) is.one) }

pub late_may : (r q : Region) (z x y : Itv) (n : ℤ) → Moved r q z → is_late q x n y ≡ true → may_be_late (ends_in r x) n (ends_in r y) ≡ true
unfolding may_be_late
late_may r q z x y n is h =
    let e = ends_at r q z x y is in
    cut (lowest_start (bounds_of r y)) (lst_of q y) (ect_of q x) (highest_end (bounds_of r x)) n (lst_of r y) (ect_of r x) e.start e.end e.one h

-- and what is late by ends that didn't move is late
pub late_kept : (r q : Region) (x y : Itv) (n : ℤ) → lst_of q y ≡ lst_of r y → ect_of q x ≡ ect_of r x → is_late q x n y ≡ true → is_late_in (ends_in r x) n (ends_in r y) ≡ true
unfolding is_late_in
late_kept r q x y n start end h = subst (λ s. int_lt s (ect_of r x +ℤ n) ≡ true) start (subst (λ e. int_lt (lst_of q y) (e +ℤ n) ≡ true) end h)

-- its compulsory part is no longer than the longest
pub part_within : (r q : Region) (z x : Itv) → Moved r q z → ect_of q x ≤ℤ (lst_of q x +ℤ longest_part (ends_in r x))
part_within r q z x is =
    let e = ends_at r q z x x is in
    within (lowest_start (bounds_of r x)) (lst_of q x) (ect_of q x) (highest_end (bounds_of r x)) (lst_of r x) (ect_of r x) e.start e.end e.one
  where
    within : (low s e high l f : ℤ) → low ≤ℤ s → e ≤ℤ high → (s ≡ l) ⊎ (e ≡ f) → e ≤ℤ (s +ℤ int_max (high -ℤ l) (f -ℤ low))
    within low s e high l f down up (inl same_start) = grind (arith, ints, same_start, up)
    within low s e high l f down up (inr same_end) = grind (arith, ints, same_end, down)

-- one that can't stand before a second, nor behind a third: the third can't stand before the second by its compulsory part
pub late_across : (r q : Region) (z x y w : Itv) (n : ℤ) → Moved r q z → longest_part (ends_in r x) ≤ℤ n → is_late q x (pos 0) y ≡ true → is_late q w (pos 0) x ≡ true → is_late q w n y ≡ true
late_across r q z x y w n is covered before behind = across (lst_of q y) (ect_of q x) (lst_of q x) (ect_of q w) (longest_part (ends_in r x)) n (part_within r q z x is) covered before behind
  where
    across : (s e t f p n : ℤ) → e ≤ℤ (t +ℤ p) → p ≤ℤ n → int_lt s (e +ℤ pos 0) ≡ true → int_lt t (f +ℤ pos 0) ≡ true → int_lt s (f +ℤ n) ≡ true
    across s e t f p n part covered before behind = grind (arith, ints, part, covered, before, behind)

-- who is long was present, but for the one that the guess is on; and none was absent
pub long_present : (r q : Region) (z x : Itv) → Moved r q z → Other z x → is_long q x ≡ true → says_present (bounds_of r x).presence ≡ true
long_present r q z x is other h = (both_true (says_present (bounds_of r x).presence) _ (sym (ap is_long_in (is.elsewhere x other)) ∙ h)).0

pub long_not_absent : (r q : Region) (z x : Itv) → Moved r q z → is_long q x ≡ true → not (says_absent (bounds_of r x).presence) ≡ true
long_not_absent r q z x is h = by_case (says_absent (bounds_of r x).presence) refl
  where
    by_case : (b : Bool) → says_absent (bounds_of r x).presence ≡ b → not (says_absent (bounds_of r x).presence) ≡ true
    by_case false e = ap not e
    by_case true e = absurd (true≢false (sym h ∙ is.absent x e))
