-- From moments to guesses, and from guesses to the propagator of a constraint.
use Rattle.std.specs.Prelude.{◌≡◌, ℕ, zero, suc, ◌<◌, ◌≤◌, ℤ, pos, ◌+ℤ◌, ◌≤ℤ◌, ◌<ℤ◌, Bool, true, false, ◌&&◌, List, [], ◌∷◌, length, Option, Some, None, cond, slice_get, nat_eq, int_le, int_lt}
use Rattle.std.specs.List.{filter}
use Rattle.std.proofs.Common.{refl, sym, ap, subst, ◌∙◌, arith, get_or, inl, inr}
use Rattle.std.proofs.lemmas.Int.{ints}
use Rattle.std.proofs.lemmas.Bool.{or_left, or_right}
use Rattle.std.proofs.lemmas.Bool.Decides.{nat_tests}
use Rattle.sched_base.specs.declared.ids.Itv.{Itv}
use Rattle.sched_model.specs.declared.types.Part.{Part}
use Rattle.sched_model.specs.declared.types.Constraint.{Constraint}
use Rattle.sched_model.specs.declared.types.Constraint.TheVariants as constraint
use Rattle.sched_model.specs.Words.{passes_if_any}
use Rattle.sched_model.specs.Data.{Data, same, has, parts_of}
use Rattle.sched_model.specs.Valid.{IsValid}
use Rattle.region.specs.declared.types.Topic.{Topic}
use Rattle.region.specs.declared.types.Topic.TheVariants.{One, Two}
use Rattle.region.specs.declared.types.Guess.{Guess}
use Rattle.region.specs.declared.types.Guess.TheVariants.{Present}
use Rattle.region.specs.Cells.{Region, bounds_of}
use Rattle.region.specs.Guesses.{admits, topic, with_guess, looked_at}
use Rattle.region.specs.Topics.{asks_each}
use Rattle.region.specs.Looks.{IsRegionOf, seen_at}
use Rattle.region.specs.Tight.{IsTightened}
use Rattle.region.specs.laws.Lists.{both_true, true_both}
use Rattle.region.specs.laws.Narrowing.{looked_stays}
use Rattle.region.specs.laws.OneSequence.{same_is, same_self, has_cases}
use Rattle.findings.specs.Ends.{is_end, is_open_end, is_asked}
use Rattle.findings.specs.Found.{IsFinding}
use Rattle.findings.specs.code.Search.{is_on}
use Rattle.findings.specs.laws.EndGuesses.{end_guesses, place, IsAnEnd}
use Rattle.refute_cumul.specs.declared.bound.Bound.{Bound}
use Rattle.refute_cumul.specs.declared.witness.CumulWitness.{CumulWitness}
use Rattle.refute_cumul.specs.declared.witness.CumulWitness.TheVariants.{Point}
use Rattle.refute_cumul.specs.Witness.{constraint_of}
use Rattle.refute_cumul.specs.Point.{point_of}
use Rattle.refute_cumul.specs.Levels.{is_surely_in}
use Rattle.refute_cumul.specs.code.Loads.{load, limit_of, is_over, is_from, window_of}
use Rattle.refute_cumul.specs.OnCumul.{refutes}
use Rattle.refute_cumul.specs.Listed.{names_of, lists}
use Rattle.refute_cumul.specs.code.Profiles.{Profile, level_in}
use Rattle.refute_cumul.specs.code.Sides.{is_high, IsBoundOf, HasRoom, as_constraint}
use Rattle.refute_cumul.specs.laws.Loads.{window_is, side}
use Rattle.refute_cumul.specs.laws.Sides.{high_refutes, low_silent, both_silent, few_parts, has_room}
use Rattle.prop_cumul.specs.declared.task.Task.{Task}
use Rattle.prop_cumul.specs.code.Tables.{is_of, is_cumul, IsTaskOf}
use Rattle.prop_cumul.specs.code.Tasks.{looks_after, quiet}
use Rattle.prop_cumul.specs.code.Extra.{extra, IsRaisedAbove, StaysLow}
use Rattle.prop_cumul.specs.code.Asking.{NeverHigh, IsQuietUnder, IsQuietOn, AreQuietOn, IsSideQuiet, IsBusy}
use Rattle.prop_cumul.specs.laws.Extra.{extra_alone, guess_elsewhere}
use Rattle.prop_cumul.specs.laws.Owners.{owned}

-- some parts tell all that a guess adds
abbrev pub TellsExtra : Data → Region → Region → Bound → Bool → List Part → Type 0
TellsExtra m r q b below is = (t : ℤ) → load q below (parts_of m b.f) t ≡ load r below (parts_of m b.f) t +ℤ extra r q below is t

pub own_tell : (m : Data) (r : Region) (b : Bound) (below : Bool) (x : Itv) (g : Guess) → is_on x (topic g) ≡ true → TellsExtra m r (with_guess g r) b below (filter (is_of x) (parts_of m b.f))
own_tell m r b below x g on t = extra_alone r (with_guess g r) x below (parts_of m b.f) t (guess_elsewhere r x g on)

-- the level with what a guess adds is the load under it
total_load : (m : Data) (r q : Region) (b : Bound) (below : Bool) (p : Profile) (is : List Part) (t : ℤ) → ((u : ℤ) → level_in p.levels u ≡ load r below (parts_of m b.f) u) → TellsExtra m r q b below is
    → level_in p.levels t +ℤ extra r q below is t ≡ load q below (parts_of m b.f) t
total_load m r q b below p is t profile tells = ap (λ z. z +ℤ extra r q below is t) (profile t) ∙ sym (tells t)

pub raised_high : (m : Data) (r q : Region) (b : Bound) (below : Bool) (p : Profile) (is : List Part) (span : ℤ × ℤ) (limit t : ℤ) → ((u : ℤ) → level_in p.levels u ≡ load r below (parts_of m b.f) u) → TellsExtra m r q b below is → span ≡ window_of q b.window → limit ≡ limit_of below b.lo b.hi
    → IsRaisedAbove p.levels (extra r q below is) span.0 span.1 limit t → is_high m q b below t ≡ true
raised_high m r q b below p is span limit t profile tells window at h =
    true_both (is_surely_in q b.window t) (is_over q (parts_of m b.f) b.lo b.hi below t)
    (sym (window_is q b.window t) ∙ sym (ap (λ w. is_from w.0 w.1 t) window) ∙ inside span.0 span.1 t h.0 h.1)
    (ap (λ z. int_lt z (load q below (parts_of m b.f) t)) (sym at) ∙ ap (int_lt limit) (sym (total_load m r q b below p is t profile tells)) ∙ over limit _ h.2)
  where
    inside : (from to t : ℤ) → from ≤ℤ t → t <ℤ to → (int_le from t && int_lt t to) ≡ true
    inside from to t h k = grind (arith, ints, h, k)

    over : (x y : ℤ) → x <ℤ y → int_lt x y ≡ true
    over x y h = grind (arith, ints, h)

pub low_never : (m : Data) (r q : Region) (b : Bound) (below : Bool) (p : Profile) (is : List Part) (span : ℤ × ℤ) (limit : ℤ) → ((u : ℤ) → level_in p.levels u ≡ load r below (parts_of m b.f) u) → TellsExtra m r q b below is → span ≡ window_of q b.window → limit ≡ limit_of below b.lo b.hi
    → StaysLow p.levels (extra r q below is) span.0 span.1 limit → NeverHigh m q b below
low_never m r q b below p is span limit profile tells window at h t =
    ap (λ s. s && is_over q (parts_of m b.f) b.lo b.hi below t) (sym (window_is q b.window t) ∙ sym (ap (λ w. is_from w.0 w.1 t) window))
    ∙ ap (λ z. is_from span.0 span.1 t && int_lt z (load q below (parts_of m b.f) t)) (sym at)
    ∙ ap (λ z. is_from span.0 span.1 t && int_lt limit z) (sym (total_load m r q b below p is t profile tells))
    ∙ low span.0 span.1 limit _ (h t)
  where
    low : (from to limit z : ℤ) → (from ≤ℤ t → t <ℤ to → z ≤ℤ limit) → (int_le from t && int_lt t to && int_lt limit z) ≡ false
    low from to limit z h = by_case (int_le from t) (int_lt t to) refl refl
      where
        first : int_le from t ≡ true → from ≤ℤ t
        first k = grind (arith, ints, k)

        second : int_lt t to ≡ true → t <ℤ to
        second k = grind (arith, ints, k)

        no_more : z ≤ℤ limit → int_lt limit z ≡ false
        no_more k = grind (arith, ints, k)

        by_case : (p q : Bool) → int_le from t ≡ p → int_lt t to ≡ q → (p && q && int_lt limit z) ≡ false
        by_case true true i j = no_more (h (first i) (second j))
        by_case true false i j = refl
        by_case false q i j = refl

-- the same at one moment
pub high_at : (m : Data) (r q : Region) (b : Bound) (below : Bool) (p : Profile) (is : List Part) (span : ℤ × ℤ) (limit t u : ℤ) → ((v : ℤ) → level_in p.levels v ≡ load r below (parts_of m b.f) v) → TellsExtra m r q b below is → span ≡ window_of q b.window → limit ≡ limit_of below b.lo b.hi
    → span.0 ≤ℤ t → t <ℤ span.1 → IsRaisedAbove p.levels (extra r q below is) t (t +ℤ pos 1) limit u → is_high m q b below t ≡ true
high_at m r q b below p is span limit t u profile tells window at since until h =
    raised_high m r q b below p is span limit t profile tells window at (since, until, subst (λ v. limit <ℤ (level_in p.levels v +ℤ extra r q below is v)) (alone u t h.0 h.1) h.2)
  where
    alone : (u t : ℤ) → t ≤ℤ u → u <ℤ (t +ℤ pos 1) → u ≡ t
    alone u t h k = omega (arith, ints, h, k)

pub low_at : (m : Data) (r q : Region) (b : Bound) (below : Bool) (p : Profile) (is : List Part) (span : ℤ × ℤ) (limit t : ℤ) → ((v : ℤ) → level_in p.levels v ≡ load r below (parts_of m b.f) v) → TellsExtra m r q b below is → span ≡ window_of q b.window → limit ≡ limit_of below b.lo b.hi
    → StaysLow p.levels (extra r q below is) t (t +ℤ pos 1) limit → is_high m q b below t ≡ false
low_at m r q b below p is span limit t profile tells window at low =
    ap (λ s. s && is_over q (parts_of m b.f) b.lo b.hi below t) (sym (window_is q b.window t) ∙ sym (ap (λ w. is_from w.0 w.1 t) window))
    ∙ ap (λ z. is_from span.0 span.1 t && int_lt z (load q below (parts_of m b.f) t)) (sym at)
    ∙ ap (λ z. is_from span.0 span.1 t && int_lt limit z) (sym (total_load m r q b below p is t profile tells))
    ∙ second (is_from span.0 span.1 t) (int_lt limit (level_in p.levels t +ℤ extra r q below is t)) (no_more limit _ (low t (here t) (next t)))
  where
    here : (t : ℤ) → t ≤ℤ t
    here t = omega (arith, ints)

    next : (t : ℤ) → t <ℤ (t +ℤ pos 1)
    next t = omega (arith, ints)

    no_more : (limit z : ℤ) → z ≤ℤ limit → int_lt limit z ≡ false
    no_more limit z k = grind (arith, ints, k)

    second : (p q : Bool) → q ≡ false → (p && q) ≡ false
    second true q h = h
    second false q h = refl

-- outside the window it never is
pub outside_low : (m : Data) (q : Region) (b : Bound) (below : Bool) (span : ℤ × ℤ) (t : ℤ) → span ≡ window_of q b.window → is_from span.0 span.1 t ≡ false → is_high m q b below t ≡ false
outside_low m q b below span t window off =
    ap (λ s. s && is_over q (parts_of m b.f) b.lo b.hi below t) (sym (window_is q b.window t) ∙ sym (ap (λ w. is_from w.0 w.1 t) window) ∙ off)

-- a witness of the constraint refutes under a guess
pub record IsRefutedUnder (m : Data) (r : Region) (best : Option ℤ) (c : ℕ) (guess : Option Guess) : Type 0 where
  pub witness : CumulWitness
  pub names : constraint_of witness ≡ c
  pub refutes : refutes m (seen_at r best guess) witness ≡ true

pub refutes_under : (m : Data) (r : Region) (best : Option ℤ) (c : ℕ) (b : Bound) (below : Bool) (guess : Option Guess) (t : ℤ) → IsRegionOf m r → IsBoundOf m c b → passes_if_any (admits r) guess ≡ true → is_high m (looked_at guess r) b below t ≡ true
    → refutes m (seen_at r best guess) (Point c t (side below)) ≡ true
refutes_under m r best c b below guess t of bound admitted high = high_refutes m (seen_at r best guess) c b below t bound (looked_stays guess m r admitted of) high

pub refuted_under : (m : Data) (r : Region) (best : Option ℤ) (c : ℕ) (b : Bound) (below : Bool) (guess : Option Guess) (t : ℤ) → IsRegionOf m r → IsBoundOf m c b → passes_if_any (admits r) guess ≡ true → is_high m (looked_at guess r) b below t ≡ true
    → IsRefutedUnder m r best c guess
refuted_under m r best c b below guess t of bound admitted high = record { witness = Point c t (side below); names = refl; refutes = refutes_under m r best c b below guess t of bound admitted high }

-- by that the witness at the moment refutes, or doesn't
pub test_is : (m : Data) (r : Region) (best : Option ℤ) (c : ℕ) (b : Bound) (below : Bool) (guess : Option Guess) (t : ℤ) (h : Bool) → IsRegionOf m r → IsBoundOf m c b → passes_if_any (admits r) guess ≡ true → h ≡ is_high m (looked_at guess r) b below t
    → h ≡ refutes m (seen_at r best guess) (Point c t (side below))
test_is m r best c b below guess t true of bound admitted is = sym (refutes_under m r best c b below guess t of bound admitted (sym is))
test_is m r best c b below guess t false of bound admitted is = sym (low_silent m (seen_at r best guess) c b below t bound (sym is))

pub plain_found : (m : Data) (r : Region) (best : Option ℤ) (w : CumulWitness) → refutes m (seen_at r best None) w ≡ true → IsFinding refutes m r best (record { guess = None; witness = w })
plain_found m r best w h = record { admitted = refl; refuted = h; tight = refl }

pub tight_found : (m : Data) (r : Region) (best : Option ℤ) (w : CumulWitness) (g h : Guess) → IsTightened (λ k. refutes m (seen_at r best (Some k)) w) r g h → IsFinding refutes m r best (record { guess = Some h; witness = w })
tight_found m r best w g h t = record { admitted = t.admitted; refuted = t.refutes; tight = t.tight }

-- where all six are quiet, each is
pub quiet_on : (m : Data) (r : Region) (b : Bound) (below : Bool) (x : Itv) (gs : List Guess) (n : ℕ) → gs ≡ end_guesses (bounds_of r x) x → length gs ≡ n → ((i : ℕ) → i < n → IsQuietUnder m r b below (get_or gs i (Present x))) → IsQuietOn m r b below x
quiet_on m r b below x gs n is count before g on open_end =
    let two = both_true (admits r g) (is_end r (topic g)) open_end in
    let here = place r x g on two.1 in
    let at : get_or gs here.0 (Present x) ≡ g = ap (λ hs. get_or hs here.0 (Present x)) is ∙ here.2 in
    let six : 6 ≡ n = sym (ap length is) ∙ count in
    subst (IsQuietUnder m r b below) at (before here.0 (omega (arith, here.1, six))) two.0

-- what is refuted under an open end guess is asked
on_listed : (xs : List Itv) (x : Itv) (t : Topic) → has xs x ≡ true → is_on x t ≡ true → asks_each xs t ≡ true
on_listed xs x (One z c) here on = subst (λ y. has xs y ≡ true) (sym (same_is z x on)) here
on_listed xs x (Two p y z) here on = cc

lists_on : (m : Data) (w : CumulWitness) (c : ℕ) (x : Itv) (g : Guess) → constraint_of w ≡ c → has (names_of m (slice_get m.constraints c)) x ≡ true → is_on x (topic g) ≡ true → lists m w g ≡ true
lists_on m (Point d t u) c x g names here on = on_listed (names_of m (slice_get m.constraints d)) x (topic g) (subst (λ n. has (names_of m (slice_get m.constraints n)) x ≡ true) (sym names) here) on

pub busy_under : (m : Data) (r : Region) (best : Option ℤ) (c : ℕ) (x : Itv) (g : Guess) → IsAnEnd r x g → has (names_of m (slice_get m.constraints c)) x ≡ true → admits r g ≡ true → IsRefutedUnder m r best c (Some g) → IsBusy m r best c
busy_under m r best c x g an here opened refuted = record {
  witness = refuted.witness;
  guess = Some g;
  names = refuted.names;
  asked = true_both (lists m refuted.witness g) (is_open_end r g) (lists_on m refuted.witness c x g refuted.names here an.on) (true_both (admits r g) (is_end r (topic g)) opened an.end);
  refutes = refuted.refutes;
}

pub busy_plain : (m : Data) (r : Region) (best : Option ℤ) (c : ℕ) → IsRefutedUnder m r best c None → IsBusy m r best c
busy_plain m r best c refuted = record { witness = refuted.witness; guess = None; names = refuted.names; asked = refl; refutes = refuted.refutes }

-- so the propagator isn't quiet
same_number : (i j : ℕ) → i ≡ j → nat_eq j i ≡ true
same_number i j h = grind (arith, nat_tests, h)

-- and it is quiet where both sides are
listed_on : (xs : List Itv) (t : Topic) → asks_each xs t ≡ true → (x : Itv) × (has xs x ≡ true) × (is_on x t ≡ true)
listed_on xs (One x c) h = (x, h, same_self x)
listed_on xs (Two p x y) h = cc

pub quiet_both : (m : Data) (c : ℕ) (r : Region) (best : Option ℤ) (b : Bound) (xs : List Itv) → IsBoundOf m c b → ((x : Itv) → has xs x ≡ has (names_of m (slice_get m.constraints c)) x) → IsSideQuiet m r b false xs → IsSideQuiet m r b true xs → quiet m c r best
quiet_both m c r best b xs bound names above below = record { unrefuted = at }
  where
    sides : (guess : Option Guess) (w : CumulWitness) → constraint_of w ≡ c → is_asked (lists m w) r guess ≡ true → (side' : Bool) → IsSideQuiet m r b side' xs → NeverHigh m (looked_at guess r) b side'
    sides None w same asked side' still = still.plain
    sides (Some g) (Point d t u) same asked side' still =
        let two = both_true (asks_each (names_of m (slice_get m.constraints d)) (topic g)) (is_open_end r g) asked in
        let one = listed_on (names_of m (slice_get m.constraints c)) (topic g) (subst (λ n. asks_each (names_of m (slice_get m.constraints n)) (topic g) ≡ true) same two.0) in
        still.under one.0 (names one.0 ∙ one.1) g one.2 two.1

    at : (w : CumulWitness) (guess : Option Guess) → looks_after m c w ≡ true → is_asked (lists m w) r guess ≡ true → refutes m (seen_at r best guess) w ≡ false
    at w guess mine asked =
        let same = sym (owned m c w mine) in
        both_silent m (seen_at r best guess) c b bound (sides guess w same asked false above) (sides guess w same asked true below) w same

-- a constraint of another kind
no_case : (m : Data) (r : Region) (t : ℤ) (u : ℕ) (d : Constraint) → is_cumul d ≡ false → point_of m r t u d ≡ false
no_case m r t u (constraint.CumulIn f w lo hi) other = cc
no_case m r t u another other = refl

-- each interval of a list
pub each_quiet : (m : Data) (r : Region) (b : Bound) (below : Bool) (xs : List Itv) → ((j : ℕ) (d : Itv) → j < length xs → IsQuietOn m r b below (get_or xs j d)) → AreQuietOn m r b below xs
each_quiet m r b below [] each x here = cc
each_quiet m r b below (y ∷ ys) each x here = elim (has_cases (same x y) (has ys x) here) [
  | inl first ↦ subst (IsQuietOn m r b below) (sym (same_is x y first)) (each 0 y (omega arith))
  | inr later ↦ each_quiet m r b below ys (λ j d h. each (suc j) d (omega (arith, h))) x later
]

-- an interval of the list is named
listed_name : (xs : List Itv) (i : ℕ) (d : Itv) → i < length xs → has xs (get_or xs i d) ≡ true
listed_name [] i d h = absurd (omega (arith, h))
listed_name (x ∷ xs) zero d h = or_left (same x x) (has xs x) (same_self x)
listed_name (x ∷ xs) (suc i) d h = or_right (same (get_or xs i d) x) (has xs (get_or xs i d)) (listed_name xs i d (omega (arith, h)))

pub name_at : (m : Data) (c : ℕ) (b : Bound) (task : Task) (i : ℕ) (d : Itv) → IsBoundOf m c b → IsTaskOf m (Some (as_constraint b)) task → i < length task.intervals → has (names_of m (slice_get m.constraints c)) (get_or task.intervals i d) ≡ true
name_at m c b task i d bound of h = ap (λ o. has (names_of m o) (get_or task.intervals i d)) bound.is ∙ sym (of.names (get_or task.intervals i d)) ∙ listed_name task.intervals i d h

-- the parts of a function and of an interval are few
pub few : (m : Data) → IsValid m → HasRoom m 100000
few m valid = has_room m 100000 (λ i d h. few_parts m i d valid h)

filtered : (p : Part → Bool) (is : List Part) → length (filter p is) ≤ length is
filtered p [] = omega arith
filtered p (i ∷ is) = by_case (p i) (filtered p is)
  where
    by_case : (b : Bool) → length (filter p is) ≤ length is → length (cond b (i ∷ filter p is) (filter p is)) ≤ length (i ∷ is)
    by_case true h = omega (arith, h)
    by_case false h = omega (arith, h)

pub few_of : (m : Data) (b : Bound) (x : Itv) (is : List Part) → IsValid m → is ≡ filter (is_of x) (parts_of m b.f) → length is ≤ 100000
few_of m b x is valid same =
    let all = few m valid b.f in
    let some = filtered (is_of x) (parts_of m b.f) in
    subst (λ js. length js ≤ 100000) (sym same) (omega (arith, all, some))

-- by its task
pub quiet_by : (m : Data) (c : ℕ) (r : Region) (best : Option ℤ) (b : Bound) (task : Task) → IsBoundOf m c b → IsTaskOf m (Some (as_constraint b)) task → IsSideQuiet m r b false task.intervals → IsSideQuiet m r b true task.intervals → quiet m c r best
quiet_by m c r best b task bound of above below = quiet_both m c r best b task.intervals bound (λ x. of.names x ∙ sym (ap (λ o. has (names_of m o) x) bound.is)) above below
