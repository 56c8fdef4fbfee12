-- Where the levels around an interval leave room for its pulse, no guess on it raises the level too far.
use Rattle.std.specs.Prelude.{◌≡◌, ℕ, ◌<◌, ℤ, pos, ◌+ℤ◌, ◌-ℤ◌, ◌≤ℤ◌, ◌<ℤ◌, Bool, true, false, not, ◌&&◌, if◌then◌else◌, List, [], ◌∷◌, length, Some, None, neg_ℤ, int_le, int_lt, nat_lt}
use Rattle.std.specs.Int.{int_min, int_max}
use Rattle.std.specs.List.{filter}
use Rattle.std.specs.Ordering.{int_eq}
use Rattle.std.proofs.Common.{refl, sym, ap, subst, ◌∙◌, arith, get_or}
use Rattle.std.proofs.lemmas.Bool.Decides.{nat_tests}
use Rattle.std.proofs.lemmas.Int.{ints, int_min_is, int_max_is}
use Rattle.sched_base.specs.declared.ids.Itv.{Itv}
use Rattle.sched_model.specs.declared.types.IntervalDef.{IntervalDef}
use Rattle.sched_model.specs.declared.types.Part.{Part}
use Rattle.sched_model.specs.declared.types.Shape.{Shape}
use Rattle.sched_model.specs.declared.types.Shape.TheVariants.{Pulse, Step, PulseOf, StepAtStart, StepAtEnd}
use Rattle.sched_model.specs.Data.{Data, same, parts_of}
use Rattle.sched_model.specs.Cumulative.{signed}
use Rattle.region.specs.declared.types.Bounds.{Bounds}
use Rattle.region.specs.declared.types.Presence.{Presence}
use Rattle.region.specs.declared.types.Presence.TheVariants as presence
use Rattle.region.specs.declared.types.Claim.{Claim}
use Rattle.region.specs.declared.types.Claim.TheVariants.{Present, Absent, StartLe, StartGe, EndLe, EndGe}
use Rattle.region.specs.declared.types.Topic.{Topic}
use Rattle.region.specs.declared.types.Topic.TheVariants.{One, Two}
use Rattle.region.specs.Cells.{Region, unknown, bounds_of, says_present, says_absent, says_maybe}
use Rattle.region.specs.Claims.{guessed, is_open_at}
use Rattle.region.specs.Guesses.{admits, admits_topic, topic, assumed, with_guess}
use Rattle.region.specs.Looks.{IsRegionOf, is_narrowed, lst_in, ect_in}
use Rattle.region.specs.laws.Lists.{both_true, placewise-at, placewise-length}
use Rattle.region.specs.laws.Intervals.{bounds_there}
use Rattle.region.specs.laws.OneSequence.{same_is}
use Rattle.findings.specs.Ends.{is_end}
use Rattle.findings.specs.code.Search.{is_on}
use Rattle.refute_cumul.specs.declared.bound.Bound.{Bound}
use Rattle.refute_cumul.specs.declared.profile.Level.{Level}
use Rattle.refute_cumul.specs.code.Loads.{nothing, counts, start_in, until_in, end_in, bounded_shape, bounded, height_at, load_of, is_minus, limit_of, window_of}
use Rattle.refute_cumul.specs.code.Profiles.{Profile, level_in, IsProfileOf, StaysBelow}
use Rattle.prop_cumul.specs.declared.calm.Calm.{Calm}
use Rattle.prop_cumul.specs.declared.calm.Stretch.{Stretch}
use Rattle.prop_cumul.specs.code.Tables.{is_of}
use Rattle.prop_cumul.specs.code.Extra.{extra, StaysLow}
use Rattle.prop_cumul.specs.code.Asking.{IsQuietOn}
use Rattle.prop_cumul.specs.code.Calm.{IsCalm, StaysLower, HasRoomAround, height_of, least_start, greatest_end, pulse_stretch, stretch_of, is_kept, is_moved}
use Rattle.prop_cumul.specs.laws.Asking.{own_tell, low_never}

-- an open claim leaves a start and an end within those that were possible
pub record IsNear (c d : Bounds) : Type 0 where
  pub starts : c.smin ≤ℤ d.smax
  pub ends : c.emin ≤ℤ d.emax
  pub last_start : d.smin ≤ℤ c.smax
  pub last_end : d.emin ≤ℤ c.emax
  pub size : d.pmin ≡ c.pmin
  pub there : says_present c.presence ≡ true → says_present d.presence ≡ true

le_holds : (a b : ℤ) → int_le a b ≡ true → a ≤ℤ b
le_holds a b h = grind (arith, ints)

some_same : (a b : ℤ) → Some a ≡ Some b → a ≡ b
some_same a b is = cc

pub near_guessed : (g : Claim) (c : Bounds) → c.smin ≤ℤ c.smax → c.emin ≤ℤ c.emax → is_open_at g c ≡ true → IsNear c (guessed g c)
near_guessed Present c s e is = record { starts = s; ends = e; last_start = s; last_end = e; size = refl; there = λ h. refl }
near_guessed Absent c s e is = record { starts = s; ends = e; last_start = s; last_end = e; size = refl; there = λ h. absurd (never c.presence h is) }
  where
    never : (a : Presence) → says_present a ≡ true → says_maybe a ≡ true → ⊥
    never presence.Present h k = cc
    never presence.Maybe h k = cc
    never presence.Absent h k = cc
near_guessed (StartLe t) c s e is =
    let two = both_true (not (says_absent c.presence) && int_le c.smin t) (int_lt t c.smax) is in
    let low = both_true (not (says_absent c.presence)) (int_le c.smin t) two.0 in
    record { starts = le_holds c.smin t low.1; ends = e; last_start = s; last_end = e; size = refl; there = λ h. refl }
near_guessed (StartGe t) c s e is =
    let two = both_true (not (says_absent c.presence) && int_lt c.smin t) (int_le t c.smax) is in
    record { starts = s; ends = e; last_start = le_holds t c.smax two.1; last_end = e; size = refl; there = λ h. refl }
near_guessed (EndLe t) c s e is =
    let two = both_true (not (says_absent c.presence) && int_le c.emin t) (int_lt t c.emax) is in
    let low = both_true (not (says_absent c.presence)) (int_le c.emin t) two.0 in
    record { starts = s; ends = le_holds c.emin t low.1; last_start = s; last_end = e; size = refl; there = λ h. refl }
near_guessed (EndGe t) c s e is =
    let two = both_true (not (says_absent c.presence) && int_lt c.emin t) (int_le t c.emax) is in
    record { starts = s; ends = e; last_start = s; last_end = le_holds t c.emax two.1; size = refl; there = λ h. refl }

-- no range of an interval is empty
pub ranges : (m : Data) (r : Region) (x : Itv) → IsRegionOf m r → x.0 < length r.bounds → ((bounds_of r x).smin ≤ℤ (bounds_of r x).smax) × ((bounds_of r x).emin ≤ℤ (bounds_of r x).emax)
ranges m r x of within =
    let size = placewise-length is_narrowed m.intervals r.bounds of.bounds in
    let inside : x.0 < length m.intervals = omega (arith, size, within) in
    both (get_or m.intervals x.0 no_def) (bounds_of r x) (placewise-at is_narrowed m.intervals r.bounds x.0 no_def unknown of.bounds inside)
  where
    no_def : IntervalDef
    no_def = record { name = []; optional = false; start_lo = pos 0; start_hi = pos 0; end_lo = pos 0; end_hi = pos 0; size_lo = pos 0; size_hi = pos 0 }

    both : (d : IntervalDef) (c : Bounds) → is_narrowed d c ≡ true → (c.smin ≤ℤ c.smax) × (c.emin ≤ℤ c.emax)
    both d c h =
        let six = both_true _ (int_le c.emax d.end_hi) (both_true _ (int_eq d.size_lo c.pmin) (both_true _ (int_eq d.size_hi c.pmax) h).0).0 in
        let five = both_true _ (int_le c.emin c.emax) six.0 in
        let three = both_true _ (int_le c.smax d.start_hi) (both_true _ (int_le d.end_lo c.emin) five.0).0 in
        let two = both_true _ (int_le c.smin c.smax) three.0 in
        (le_holds c.smin c.smax two.1, le_holds c.emin c.emax five.1)

-- whether what is added, or taken away, stands at a moment
abbrev runs : Bool → Shape → Bounds → ℤ → Bool
runs minus (PulseOf x h) c t = counts minus c && int_le (start_in minus c) t && int_lt t (until_in minus c)
runs minus (StepAtStart x h) c t = counts minus c && int_le (start_in minus c) t
runs minus (StepAtEnd x h) c t = counts minus c && int_le (end_in minus c) t
runs minus _ c t = false

abbrev stands : Bool → ℤ → ℤ
stands b h = if b then h else pos 0

no_height : (t : ℤ) → height_at nothing t ≡ pos 0
no_height t = by_case (int_le (pos 0) t && int_lt t (pos 0))
  where
    by_case : (b : Bool) → (if b then pos 0 else pos 0) ≡ pos 0
    by_case true = refl
    by_case false = refl

pulse_height : (b : Bool) (u v h t : ℤ) → height_at (if b then Pulse u v h else nothing) t ≡ stands (b && int_le u t && int_lt t v) h
pulse_height true u v h t = refl
pulse_height false u v h t = no_height t

step_height : (b : Bool) (u h t : ℤ) → height_at (if b then Step u h else nothing) t ≡ stands (b && int_le u t) h
step_height true u h t = refl
step_height false u h t = no_height t

record IsOwn (x : Itv) (s : Shape) (h : ℤ) : Type 0 where
  high : pos 0 ≤ℤ h
  height : (r : Region) (minus : Bool) (t : ℤ) → height_at (bounded_shape r minus s) t ≡ stands (runs minus s (bounds_of r x) t) h

own : (x : Itv) (s : Shape) (h : ℤ) → height_of x s ≡ Some h → IsOwn x s h
own x (PulseOf a k) h is = given (same a x && int_le (pos 0) k) refl is
  where
    given : (b : Bool) → (same a x && int_le (pos 0) k) ≡ b → (if b then Some k else None) ≡ Some h → IsOwn x (PulseOf a k) h
    given true at now =
        let two = both_true (same a x) (int_le (pos 0) k) at in
        let here = same_is a x two.0 in
        record {
          high = subst (λ z. pos 0 ≤ℤ z) (some_same k h now) (le_holds (pos 0) k two.1);
          height = λ r minus t. pulse_height (counts minus (bounds_of r a)) (start_in minus (bounds_of r a)) (until_in minus (bounds_of r a)) k t
              ∙ ap (λ y. stands (runs minus (PulseOf a k) (bounds_of r y) t) k) here ∙ ap (λ z. stands (runs minus (PulseOf a k) (bounds_of r x) t) z) (some_same k h now);
        }
    given false at now = cc
own x (StepAtStart a k) h is = given (same a x && int_le (pos 0) k) refl is
  where
    given : (b : Bool) → (same a x && int_le (pos 0) k) ≡ b → (if b then Some k else None) ≡ Some h → IsOwn x (StepAtStart a k) h
    given true at now =
        let two = both_true (same a x) (int_le (pos 0) k) at in
        let here = same_is a x two.0 in
        record {
          high = subst (λ z. pos 0 ≤ℤ z) (some_same k h now) (le_holds (pos 0) k two.1);
          height = λ r minus t. step_height (counts minus (bounds_of r a)) (start_in minus (bounds_of r a)) k t
              ∙ ap (λ y. stands (runs minus (StepAtStart a k) (bounds_of r y) t) k) here ∙ ap (λ z. stands (runs minus (StepAtStart a k) (bounds_of r x) t) z) (some_same k h now);
        }
    given false at now = cc
own x (StepAtEnd a k) h is = given (same a x && int_le (pos 0) k) refl is
  where
    given : (b : Bool) → (same a x && int_le (pos 0) k) ≡ b → (if b then Some k else None) ≡ Some h → IsOwn x (StepAtEnd a k) h
    given true at now =
        let two = both_true (same a x) (int_le (pos 0) k) at in
        let here = same_is a x two.0 in
        record {
          high = subst (λ z. pos 0 ≤ℤ z) (some_same k h now) (le_holds (pos 0) k two.1);
          height = λ r minus t. step_height (counts minus (bounds_of r a)) (end_in minus (bounds_of r a)) k t
              ∙ ap (λ y. stands (runs minus (StepAtEnd a k) (bounds_of r y) t) k) here ∙ ap (λ z. stands (runs minus (StepAtEnd a k) (bounds_of r x) t) z) (some_same k h now);
        }
    given false at now = cc
own x (Pulse u v k) h is = cc
own x (Step u k) h is = cc

-- where it changes whether it stands, a guess may change it
starts_there : (smin smax emin emax pmin pmin' t : ℤ) → smin ≤ℤ smax → emin ≤ℤ emax → pmin' ≡ pmin → int_le (int_min smax (emax -ℤ pmin')) t ≡ true → int_le (int_min smin (emin -ℤ pmin)) t ≡ true
starts_there smin smax emin emax pmin pmin' t a b c h =
    let first = int_min_is smax (emax -ℤ pmin') in
    let second = int_min_is smin (emin -ℤ pmin) in
    grind (arith, ints, first, second, a, b, c, h)

ends_there : (smin smax emin emax pmin pmin' t : ℤ) → smin ≤ℤ smax → emin ≤ℤ emax → pmin' ≡ pmin → int_lt t (int_max emin (smin +ℤ pmin')) ≡ true → int_lt t (int_max emax (smax +ℤ pmin)) ≡ true
ends_there smin smax emin emax pmin pmin' t a b c h =
    let first = int_max_is emin (smin +ℤ pmin') in
    let second = int_max_is emax (smax +ℤ pmin) in
    grind (arith, ints, first, second, a, b, c, h)

not_past : (u v t : ℤ) → u ≤ℤ v → int_le u t ≡ false → int_le v t ≡ false
not_past u v t h k = grind (arith, ints, h, k)

past : (u v t : ℤ) → u ≤ℤ v → int_le v t ≡ true → int_le u t ≡ true
past u v t h k = grind (arith, ints, h, k)

less_true : (t u : ℤ) → t <ℤ u → int_lt t u ≡ true
less_true t u h = grind (arith, ints)

-- of two tests the first holds, and the third doesn't
both_but : (p q r : Bool) → p ≡ true → q ≡ true → r ≡ false → (p && q && not r) ≡ true
both_but p q r h k l = rw (h, k, l) refl

step_off : (p q r : Bool) → (p && q) ≡ false → (p && q && r) ≡ false
step_off p q r h = rw h refl

-- where one that is present isn't kept after all
unless_kept : (pc : Bool) (q r : Bool) → (pc ≡ true → (q && r) ≡ false) → (pc && q && r) ≡ false
unless_kept true q r h = h refl
unless_kept false q r h = refl

unless_first : (pc : Bool) (q r : Bool) → (pc ≡ true → q ≡ false) → (pc && q && r) ≡ false
unless_first true q r h = rw (h refl) refl
unless_first false q r h = refl

within_both : (smin smax emin emax t : ℤ) → smin ≤ℤ smax → emax ≤ℤ emin → (int_le smin t && int_lt t emin) ≡ false → (int_le smax t && int_lt t emax) ≡ false
within_both smin smax emin emax t a b h = grind (arith, ints, a, b, h)

-- present under the claim, so not absent
counts_so : (c d : Bounds) (p : Bool) → IsNear c d → says_present c.presence ≡ true → (not (says_absent d.presence) && p) ≡ false → p ≡ false
counts_so c d p near there h = second (not (says_absent d.presence)) p (here d.presence (near.there there)) h
  where
    here : (a : Presence) → says_present a ≡ true → not (says_absent a) ≡ true
    here presence.Present is = refl
    here presence.Maybe is = cc
    here presence.Absent is = cc

    second : (q p : Bool) → q ≡ true → (q && p) ≡ false → p ≡ false
    second true p is h = h
    second false p is h = cc

three_so : (q p r : Bool) → (q && p && r) ≡ (q && (p && r))
three_so true p r = refl
three_so false p r = refl

-- what is added
added_there : (s : Shape) (c d : Bounds) (t end : ℤ) → IsNear c d → t <ℤ end → runs false s d t ≡ true → runs false s c t ≡ false → is_moved (stretch_of false s c end) c.presence t ≡ true
added_there (PulseOf x h) c d t end near below on off =
    let two = both_true (says_present d.presence && int_le (lst_in d) t) (int_lt t (ect_in d)) on in
    let one = both_true (says_present d.presence) (int_le (lst_in d) t) two.0 in
    both_but (int_le (least_start c) t) (int_lt t (greatest_end c)) (says_present c.presence && int_le (lst_in c) t && int_lt t (ect_in c))
    (starts_there c.smin d.smax c.emin d.emax c.pmin d.pmin t near.starts near.ends near.size one.1)
    (ends_there d.smin c.smax d.emin c.emax c.pmin d.pmin t near.last_start near.last_end near.size two.1)
    off
added_there (StepAtStart x h) c d t end near below on off =
    let one = both_true (says_present d.presence) (int_le (lst_in d) t) on in
    both_but (int_le (least_start c) t) (int_lt t end) (says_present c.presence && int_le (lst_in c) t && int_lt t end)
    (starts_there c.smin d.smax c.emin d.emax c.pmin d.pmin t near.starts near.ends near.size one.1)
    (less_true t end below)
    (step_off (says_present c.presence) (int_le (lst_in c) t) (int_lt t end) off)
added_there (StepAtEnd x h) c d t end near below on off =
    let one = both_true (says_present d.presence) (int_le d.emax t) on in
    both_but (int_le c.emin t) (int_lt t end) (says_present c.presence && int_le c.emax t && int_lt t end)
    (past c.emin d.emax t near.ends one.1)
    (less_true t end below)
    (step_off (says_present c.presence) (int_le c.emax t) (int_lt t end) off)
added_there (Pulse u v h) c d t end near below on off = cc
added_there (Step u h) c d t end near below on off = cc

-- what is taken away
taken_there : (s : Shape) (c d : Bounds) (t end : ℤ) → IsNear c d → t <ℤ end → runs true s d t ≡ false → runs true s c t ≡ true → is_moved (stretch_of true s c end) c.presence t ≡ true
taken_there (PulseOf x h) c d t end near below off on =
    let two = both_true (not (says_absent c.presence) && int_le c.smin t) (int_lt t c.emax) on in
    let one = both_true (not (says_absent c.presence)) (int_le c.smin t) two.0 in
    both_but (int_le c.smin t) (int_lt t c.emax) (says_present c.presence && int_le c.smax t && int_lt t c.emin) one.1 two.1
    (unless_kept (says_present c.presence) (int_le c.smax t) (int_lt t c.emin) (λ there.
    within_both d.smin c.smax d.emax c.emin t near.last_start near.ends
    (counts_so c d (int_le d.smin t && int_lt t d.emax) near there (sym (three_so (not (says_absent d.presence)) (int_le d.smin t) (int_lt t d.emax)) ∙ off))))
taken_there (StepAtStart x h) c d t end near below off on =
    let one = both_true (not (says_absent c.presence)) (int_le c.smin t) on in
    both_but (int_le c.smin t) (int_lt t end) (says_present c.presence && int_le c.smax t && int_lt t end) one.1 (less_true t end below)
    (unless_first (says_present c.presence) (int_le c.smax t) (int_lt t end) (λ there.
    (not_past d.smin c.smax t near.last_start (counts_so c d (int_le d.smin t) near there off))))
taken_there (StepAtEnd x h) c d t end near below off on =
    let one = both_true (not (says_absent c.presence)) (int_le (ect_in c) t) on in
    both_but (int_le (ect_in c) t) (int_lt t end) (says_present c.presence && int_le (greatest_end c) t && int_lt t end) one.1 (less_true t end below)
    (unless_first (says_present c.presence) (int_le (greatest_end c) t) (int_lt t end) (λ there.
    (not_past (ect_in d) (greatest_end c) t (no_later d.smin c.smax d.emin c.emax c.pmin d.pmin near.last_start near.last_end near.size) (counts_so c d (int_le (ect_in d) t) near there off))))
  where
    no_later : (smin smax emin emax pmin pmin' : ℤ) → smin ≤ℤ smax → emin ≤ℤ emax → pmin' ≡ pmin → int_max emin (smin +ℤ pmin') ≤ℤ int_max emax (smax +ℤ pmin)
    no_later smin smax emin emax pmin pmin' a b c =
        let first = int_max_is emin (smin +ℤ pmin') in
        let second = int_max_is emax (smax +ℤ pmin) in
        grind (arith, ints, first, second, a, b, c)
taken_there (Pulse u v h) c d t end near below off on = cc
taken_there (Step u h) c d t end near below off on = cc

-- so the level stays low whether it stands or not
stays : (ps : List Level) (calm : Calm) (minus : Bool) (s : Shape) (c d : Bounds) (h t : ℤ) → pos 0 ≤ℤ h → IsNear c d → HasRoomAround ps calm (stretch_of minus s c calm.to) c.presence h → calm.from ≤ℤ t → t <ℤ calm.to → level_in ps t ≤ℤ calm.limit
    → (level_in ps t +ℤ (signed minus (stands (runs minus s d t) h) -ℤ signed minus (stands (runs minus s c t) h))) ≤ℤ calm.limit
stays ps calm minus s c d h t high near room since until low = by_case minus (runs minus s d t) (runs minus s c t) (λ e f. added_there s c d t calm.to near until e f) (λ e f. taken_there s c d t calm.to near until e f) room refl refl
  where
    less : (z a limit : ℤ) → pos 0 ≤ℤ a → z ≤ℤ limit → (z +ℤ (pos 0 -ℤ a)) ≤ℤ limit
    less z a limit h k = omega (arith, ints, h, k)

    fall : (z a limit : ℤ) → pos 0 ≤ℤ a → z ≤ℤ limit → (z +ℤ (neg_ℤ a -ℤ neg_ℤ (pos 0))) ≤ℤ limit
    fall z a limit h k = omega (arith, ints, h, k)

    same_sum : (z a limit : ℤ) → z ≤ℤ limit → (z +ℤ (a -ℤ a)) ≤ℤ limit
    same_sum z a limit k = omega (arith, ints, k)

    more : (z a limit : ℤ) → (z +ℤ a) ≤ℤ limit → (z +ℤ (a -ℤ pos 0)) ≤ℤ limit
    more z a limit k = omega (arith, ints, k)

    rise : (z a limit : ℤ) → (z +ℤ a) ≤ℤ limit → (z +ℤ (neg_ℤ (pos 0) -ℤ neg_ℤ a)) ≤ℤ limit
    rise z a limit k = omega (arith, ints, k)

    by_case : (b p q : Bool) → (runs false s d t ≡ true → runs false s c t ≡ false → is_moved (stretch_of false s c calm.to) c.presence t ≡ true)
        → (runs true s d t ≡ false → runs true s c t ≡ true → is_moved (stretch_of true s c calm.to) c.presence t ≡ true)
        → HasRoomAround ps calm (stretch_of b s c calm.to) c.presence h → runs b s d t ≡ p → runs b s c t ≡ q
        → (level_in ps t +ℤ (signed b (stands p h) -ℤ signed b (stands q h))) ≤ℤ calm.limit
    by_case false true true plus away near_by is at = same_sum (level_in ps t) h calm.limit low
    by_case false true false plus away near_by is at = more (level_in ps t) h calm.limit (near_by t since until (plus is at))
    by_case false false true plus away near_by is at = less (level_in ps t) h calm.limit high low
    by_case false false false plus away near_by is at = same_sum (level_in ps t) (pos 0) calm.limit low
    by_case true true true plus away near_by is at = same_sum (level_in ps t) (neg_ℤ h) calm.limit low
    by_case true true false plus away near_by is at = fall (level_in ps t) h calm.limit high low
    by_case true false true plus away near_by is at = rise (level_in ps t) h calm.limit (near_by t since until (away is at))
    by_case true false false plus away near_by is at = same_sum (level_in ps t) (neg_ℤ (pos 0)) calm.limit low

alone : (a b y z : ℤ) → a ≡ y → b ≡ z → ((a +ℤ pos 0) -ℤ (b +ℤ pos 0)) ≡ (y -ℤ z)
alone a b y z h k = omega (arith, ints, h, k)

extra_is : (r q : Region) (below : Bool) (x : Itv) (is : List Part) (i : Part) (h t : ℤ) → is ≡ i ∷ [] → IsOwn x i.shape h
    → extra r q below is t ≡ signed (is_minus below i.minus) (stands (runs (is_minus below i.minus) i.shape (bounds_of q x) t) h) -ℤ signed (is_minus below i.minus) (stands (runs (is_minus below i.minus) i.shape (bounds_of r x) t) h)
extra_is r q below x is i h t one mine =
    ap (λ js. extra r q below js t) one
    ∙ alone (load_of (bounded q below i) t) (load_of (bounded r below i) t) _ _ (ap (signed (is_minus below i.minus)) (mine.height q (is_minus below i.minus) t)) (ap (signed (is_minus below i.minus)) (mine.height r (is_minus below i.minus) t))

-- under a guess on the interval
near_under : (m : Data) (r : Region) (x : Itv) (s : Topic) → IsRegionOf m r → is_on x s ≡ true → admits_topic r s ≡ true → IsNear (bounds_of r x) (bounds_of (assumed s r) x)
near_under m r x (One z g) of on opened =
    let two = both_true (nat_lt z.0 (length r.bounds)) (is_open_at g (bounds_of r z)) opened in
    let is = same_is z x on in
    subst (λ y. IsNear (bounds_of r y) (bounds_of (assumed (One z g) r) y)) is (here z g (below z.0 (length r.bounds) two.0) two.1)
  where
    below : (i n : ℕ) → nat_lt i n ≡ true → i < n
    below i n h = grind (arith, nat_tests)

    here : (z : Itv) (g : Claim) → z.0 < length r.bounds → is_open_at g (bounds_of r z) ≡ true → IsNear (bounds_of r z) (bounds_of (assumed (One z g) r) z)
    here z g within is_open =
        let two = ranges m r z of within in
        subst (IsNear (bounds_of r z)) (sym (bounds_there z (guessed g) r within)) (near_guessed g (bounds_of r z) two.0 two.1 is_open)
near_under m r x (Two p y z) of on opened = cc

pub calm_quiet : (m : Data) (r : Region) (b : Bound) (below : Bool) (p : Profile) (x : Itv) (is : List Part) (i : Part) (calm : Calm) (h : ℤ) → IsRegionOf m r → IsProfileOf r below (parts_of m b.f) p → IsCalm b below p.levels calm
    → is ≡ filter (is_of x) (parts_of m b.f) → is ≡ i ∷ [] → height_of x i.shape ≡ Some h → HasRoomAround p.levels calm (stretch_of (is_minus below i.minus) i.shape (bounds_of r x) calm.to) (bounds_of r x).presence h → IsQuietOn m r b below x
calm_quiet m r b below p x is i calm h of profile lies mine one high room g on open_end =
    let two = both_true (admits r g) (is_end r (topic g)) open_end in
    let near = near_under m r x (topic g) of on two.0 in
    let q = with_guess g r in
    let it = own x i.shape h high in
    low_never m r q b below p (filter (is_of x) (parts_of m b.f)) (calm.from, calm.to) calm.limit profile (own_tell m r b below x g on) (lies.window q) lies.limit
    (subst (λ js. StaysLow p.levels (extra r q below js) calm.from calm.to calm.limit) mine
    (λ t since until. subst (λ z. (level_in p.levels t +ℤ z) ≤ℤ calm.limit) (sym (extra_is r q below x is i h t one it))
    (stays p.levels calm (is_minus below i.minus) i.shape (bounds_of r x) (bounds_of q x) h t it.high near room since until (lies.low t since until))))

-- the room between moments is room around the interval
record IsMoved (s : Stretch) (there : Presence) (t : ℤ) : Type 0 where
  from : s.from ≤ℤ t
  to : t <ℤ s.to
  free : is_kept s there t ≡ false

moved : (s : Stretch) (there : Presence) (t : ℤ) → is_moved s there t ≡ true → IsMoved s there t
moved s there t is =
    let two = both_true (int_le s.from t && int_lt t s.to) (not (is_kept s there t)) is in
    let one = both_true (int_le s.from t) (int_lt t s.to) two.0 in
    record { from = le_holds s.from t one.0; to = lt_holds t s.to one.1; free = not_true (is_kept s there t) two.1 }
  where
    lt_holds : (a b : ℤ) → int_lt a b ≡ true → a <ℤ b
    lt_holds a b h = grind (arith, ints)

    not_true : (b : Bool) → not b ≡ true → b ≡ false
    not_true true h = cc
    not_true false h = refl

pub room_whole : (ps : List Level) (calm : Calm) (s : Stretch) (there : Presence) (h : ℤ) → StaysLower ps calm s.from s.to h → HasRoomAround ps calm s there h
room_whole ps calm s there h lower t since until is = let it = moved s there t is in lower t since until it.from it.to

pub room_apart : (ps : List Level) (calm : Calm) (s : Stretch) (there : Presence) (h : ℤ) → says_present there ≡ true → StaysLower ps calm s.from s.kept_from h → StaysLower ps calm s.kept_to s.to h → HasRoomAround ps calm s there h
room_apart ps calm s there h present first second t since until is =
    let it = moved s there t is in
    by_case (int_le s.kept_from t) (int_lt t s.kept_to) refl refl (sym (ap (λ b. b && int_le s.kept_from t && int_lt t s.kept_to) present) ∙ it.free) it.from it.to
  where
    before : (a b : ℤ) → int_le a b ≡ false → b <ℤ a
    before a b h = grind (arith, ints)

    behind : (a b : ℤ) → int_lt a b ≡ false → b ≤ℤ a
    behind a b h = grind (arith, ints)

    by_case : (p q : Bool) → int_le s.kept_from t ≡ p → int_lt t s.kept_to ≡ q → (p && q) ≡ false → s.from ≤ℤ t → t <ℤ s.to → (level_in ps t +ℤ h) ≤ℤ calm.limit
    by_case true true i j both from to = cc
    by_case true false i j both from to = second t since until (behind t s.kept_to j) to
    by_case false q i j both from to = first t since until from (before s.kept_from t i)

-- a search from the later of two moments to the sooner of two
pub lower_between : (ps : List Level) (calm : Calm) (from to first last h limit : ℤ) → limit ≡ calm.limit -ℤ h → first ≡ int_max from calm.from → last ≡ int_min to calm.to → StaysBelow ps first last limit → StaysLower ps calm from to h
lower_between ps calm from to first last h limit is at until below t since up_to from_on before_it =
    under (level_in ps t) h calm.limit limit is (below t (later from calm.from first t at since from_on) (sooner to calm.to last t until up_to before_it))
  where
    under : (z a top limit : ℤ) → limit ≡ top -ℤ a → z ≤ℤ limit → (z +ℤ a) ≤ℤ top
    under z a top limit h k = omega (arith, ints, h, k)

    later : (a b m t : ℤ) → m ≡ int_max a b → b ≤ℤ t → a ≤ℤ t → m ≤ℤ t
    later a b m t h k l = omega (arith, ints, int_max_is a b, h, k, l)

    sooner : (a b m t : ℤ) → m ≡ int_min a b → t <ℤ b → t <ℤ a → t <ℤ m
    sooner a b m t h k l = omega (arith, ints, int_min_is a b, h, k, l)

-- the same numbers
pub calm_is : (b : Bound) (below : Bool) (ps : List Level) (from to limit from' to' limit' : ℤ) → from' ≡ from → to' ≡ to → limit' ≡ limit → ((r : Region) → (from, to) ≡ window_of r b.window) → limit ≡ limit_of below b.lo b.hi → StaysBelow ps from to limit
    → IsCalm b below ps (record { from = from'; to = to'; limit = limit' })
calm_is b below ps from to limit from' to' limit' f t l window is low = rw (f, t, l) (record { window = window; limit = is; low = low })

pub stretch_is : (a b c d a' b' c' d' : ℤ) → a' ≡ a → b' ≡ b → c' ≡ c → d' ≡ d → (◌≡◌ {A = Stretch} (record { from = a'; to = b'; kept_from = c'; kept_to = d' }) (record { from = a; to = b; kept_from = c; kept_to = d }))
stretch_is a b c d a' b' c' d' e f g h = rw (e, f, g, h) refl

-- a shape that is no step stands as a pulse
pub as_pulse : (minus : Bool) (s : Shape) (c : Bounds) (end : ℤ) → ((a : Itv) (h : ℤ) → s ≡ StepAtStart a h → ⊥) → ((a : Itv) (h : ℤ) → s ≡ StepAtEnd a h → ⊥) → pulse_stretch minus c ≡ stretch_of minus s c end
as_pulse minus (StepAtStart a h) c end first second = absurd (first a h refl)
as_pulse minus (StepAtEnd a h) c end first second = absurd (second a h refl)
as_pulse minus (PulseOf a h) c end first second = refl
as_pulse minus (Pulse u v h) c end first second = refl
as_pulse minus (Step u h) c end first second = refl

pub lower_is : (ps : List Level) (calm : Calm) (from to h from' to' h' : ℤ) → from' ≡ from → to' ≡ to → h' ≡ h → StaysLower ps calm from' to' h' → StaysLower ps calm from to h
lower_is ps calm from to h from' to' h' f t e low = subst (λ z. StaysLower ps calm z to h) f (subst (λ z. StaysLower ps calm from' z h) t (subst (λ z. StaysLower ps calm from' to' z) e low))
