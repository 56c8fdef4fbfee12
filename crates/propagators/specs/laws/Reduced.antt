-- A guess that an interval is present, or on an order of two, tells of some intervals no more than that one of them is present,
-- where not both of the two are of these: wherever they stand under it they do under a guess that this one is present, or
-- under none.
use Rattle.std.specs.Prelude.{◌≡◌, Bool, true, false, ◌&&◌, ◌||◌, List, Option, Some, None, length, nat_lt, nat_eq}
use Rattle.std.proofs.Common.{refl, sym, ap, subst, ◌∙◌, inl, inr}
use Rattle.std.proofs.lemmas.Bool.{true≢false, or_from}
use Rattle.base_laws.specs.laws.Truth.{all_three}
use Rattle.sched_base.specs.declared.ids.Itv.{Itv}
use Rattle.sched_base.specs.declared.ids.Seq.{Seq}
use Rattle.sched_model.specs.Data.{Data, same, has}
use Rattle.region.specs.declared.types.Presence.{Presence}
use Rattle.region.specs.declared.types.Presence.TheVariants as presence
use Rattle.region.specs.declared.types.Claim.TheVariants as claim
use Rattle.region.specs.declared.types.Topic.{Topic}
use Rattle.region.specs.declared.types.Topic.TheVariants.{One, Two}
use Rattle.region.specs.declared.types.Guess.{Guess}
use Rattle.region.specs.declared.types.Guess.TheVariants.{Present, Before}
use Rattle.region.specs.Claims.{as_present}
use Rattle.region.specs.Cells.{Region, bounds_of, is_there, says_present, says_absent, says_maybe}
use Rattle.region.specs.Guesses.{admits_topic, assumed, looked_at, topic, with_bounds}
use Rattle.region.specs.Looks.{IsRegionOf}
use Rattle.region.specs.laws.Lists.{both_true, true_both}
use Rattle.region.specs.laws.OneSequence.{lower, same_is, same_self, has_cases}
use Rattle.region.specs.laws.Intervals.{bounds_there, bounds_elsewhere}
use Rattle.region.specs.laws.Narrowing.{claimed}
use Rattle.region.specs.laws.Pairs.{MayBeThere, IsPaired, paired}
use Rattle.findings.specs.Ends.{is_asked}
use Rattle.findings.specs.laws.Open.{open_not_absent}
use Rattle.refute_basic.specs.Listed.{asks_presence}
use Rattle.propagators.specs.Every.{asks_sequence}
use Rattle.refute_basic.specs.Standing.{precedes, stand}
use Rattle.refute_basic.specs.laws.Told.{told}
use Rattle.prop_unary.specs.laws.Under.{precedes_under, touches, different, there_before, before_is}

-- that one of these intervals is present
abbrev pub asks_one : List Itv → Topic → Bool
asks_one xs (One z claim.Present) = has xs z
asks_one xs t = false

-- a guess that an interval is present, or on an order of two that aren't both among these
abbrev pub IsLoose : List Itv → Topic → Type 0
IsLoose xs (One z claim.Present) = Unit {0}
IsLoose xs (One z c) = ⊥
IsLoose xs (Two q u v) = has xs u ≡ true → has xs v ≡ true → ⊥

pub loose_in : (p : Seq) (xs : List Itv) (t : Topic) → (asks_presence t || asks_sequence p t) ≡ true → ((u v : Itv) → t ≡ Two p u v → has xs u ≡ true → has xs v ≡ true → ⊥) → IsLoose xs t
loose_in p xs (One z claim.Present) listed never = tt
loose_in p xs (One z claim.Absent) listed never = cc
loose_in p xs (One z (claim.StartLe t)) listed never = cc
loose_in p xs (One z (claim.StartGe t)) listed never = cc
loose_in p xs (One z (claim.EndLe t)) listed never = cc
loose_in p xs (One z (claim.EndGe t)) listed never = cc
loose_in p xs (Two q u v) listed never = never u v (ap topic (before_is p u v (Before q u v) (true_both (nat_eq p.0 q.0 && same u u) (same v v) (true_both (nat_eq p.0 q.0) (same u u) listed (same_self u)) (same_self v))))

-- a guess on their presence, or none, under which these stand wherever they do under another
pub record Reduces (r : Region) (t : Topic) (p : Seq) (xs : List Itv) (guess : Option Guess) : Type 0 where
  pub asked : is_asked (λ g. asks_one xs (topic g)) r guess ≡ true
  pub stands : (x y : Itv) → has xs x ≡ true → has xs y ≡ true → stand (assumed t r) p x y ≡ true → stand (looked_at guess r) p x y ≡ true

-- who is told to be present is, and others are as they were
present_itself : (r : Region) (w x : Itv) → MayBeThere r w → same x w ≡ true → is_there (with_bounds w as_present r) x ≡ true
present_itself r w x may is = subst (λ z. is_there (with_bounds w as_present r) z ≡ true) (sym (same_is x w is)) (ap (λ c. says_present c.presence) (bounds_there w as_present r may.within))

present_still : (r : Region) (w x : Itv) → MayBeThere r w → is_there r x ≡ true → is_there (with_bounds w as_present r) x ≡ true
present_still r w x may there = by_case (same x w) refl
  where
    by_case : (b : Bool) → same x w ≡ b → is_there (with_bounds w as_present r) x ≡ true
    by_case true is = present_itself r w x may is
    by_case false off = ap (λ c. says_present c.presence) (bounds_elsewhere w x as_present r (λ e. different x.0 w.0 e off)) ∙ there

-- who may be there and isn't known to be may be guessed to be
may_be : (p : Presence) → says_absent p ≡ false → says_present p ≡ false → says_maybe p ≡ true
may_be presence.Absent h k = cc
may_be presence.Present h k = cc
may_be presence.Maybe h k = refl

open_present : (r : Region) (xs : List Itv) (w : Itv) → MayBeThere r w → is_there r w ≡ false → has xs w ≡ true → is_asked (λ g. asks_one xs (topic g)) r (Some (Present w)) ≡ true
open_present r xs w may off here =
    true_both (has xs w) (nat_lt w.0 (length r.bounds) && says_maybe (bounds_of r w).presence && true) here
    (all_three (nat_lt w.0 (length r.bounds)) (says_maybe (bounds_of r w).presence) true (lower w.0 (length r.bounds) may.within) (may_be (bounds_of r w).presence may.not_absent off) refl)

-- it tells no order of two of them
abbrev TellsNone : Region → Topic → Seq → List Itv → Type 0
TellsNone r t p xs = (x y : Itv) → has xs x ≡ true → has xs y ≡ true → precedes (assumed t r) p x y ≡ true → precedes r p x y ≡ true

stand_by : (r q : Region) (p : Seq) (x y : Itv) → (is_there r x ≡ true → is_there q x ≡ true) → (is_there r y ≡ true → is_there q y ≡ true) → (precedes r p x y ≡ true → precedes q p x y ≡ true) → stand r p x y ≡ true → stand q p x y ≡ true
stand_by r q p x y first second order h =
    let both = told r p x y h in
    all_three (is_there q x) (is_there q y) (precedes q p x y) (first both.first) (second both.second) (order both.order)

-- where it touches none of them, they stand so already
untouched : (r : Region) (t : Topic) (p : Seq) (xs : List Itv) → TellsNone r t p xs → ((x : Itv) → has xs x ≡ true → touches t x ≡ false) → Reduces r t p xs None
untouched r t p xs orders off = record {
  asked = refl;
  stands = λ x y one other. stand_by (assumed t r) r p x y (there_before r t x (off x one)) (there_before r t y (off y other)) (orders x y one other);
}

-- where it touches one of them alone, this one is there already, or is guessed to be
there_once : (r : Region) (t : Topic) (w x : Itv) → is_there r w ≡ true → (touches t x ≡ true → same x w ≡ true) → is_there (assumed t r) x ≡ true → is_there r x ≡ true
there_once r t w x here only h = by_case (touches t x) refl
  where
    by_case : (b : Bool) → touches t x ≡ b → is_there r x ≡ true
    by_case true on = subst (λ z. is_there r z ≡ true) (sym (same_is x w (only on))) here
    by_case false off = there_before r t x off h

there_guessed : (r : Region) (t : Topic) (w x : Itv) → MayBeThere r w → (touches t x ≡ true → same x w ≡ true) → is_there (assumed t r) x ≡ true → is_there (with_bounds w as_present r) x ≡ true
there_guessed r t w x may only h = by_case (touches t x) refl
  where
    by_case : (b : Bool) → touches t x ≡ b → is_there (with_bounds w as_present r) x ≡ true
    by_case true on = present_itself r w x may (only on)
    by_case false off = present_still r w x may (there_before r t x off h)

touched : (r : Region) (t : Topic) (p : Seq) (xs : List Itv) (w : Itv) → TellsNone r t p xs → MayBeThere r w → has xs w ≡ true → ((x : Itv) → has xs x ≡ true → touches t x ≡ true → same x w ≡ true) → (guess : Option Guess) × Reduces r t p xs guess
touched r t p xs w orders may here only = by_case (is_there r w) refl
  where
    by_case : (b : Bool) → is_there r w ≡ b → (guess : Option Guess) × Reduces r t p xs guess
    by_case true there = (
      None,
      record {
        asked = refl;
        stands = λ x y one other. stand_by (assumed t r) r p x y (there_once r t w x there (only x one)) (there_once r t w y there (only y other)) (orders x y one other);
      },
    )
    by_case false off = (
      Some (Present w),
      record {
        asked = open_present r xs w may off here;
        stands = λ x y one other. stand_by (assumed t r) (with_bounds w as_present r) p x y (there_guessed r t w x may (only x one)) (there_guessed r t w y may (only y other)) (orders x y one other);
      },
    )

-- one of these isn't one that is none of them
not_of : (xs : List Itv) (x z : Itv) → has xs x ≡ true → has xs z ≡ false → same x z ≡ false
not_of xs x z one none = by_case (same x z) refl
  where
    by_case : (b : Bool) → same x z ≡ b → same x z ≡ false
    by_case false off = off
    by_case true is = absurd (true≢false (sym one ∙ ap (has xs) (same_is x z is) ∙ none))

-- nor is it that end of an order which is none of them
first_end : (xs : List Itv) (x u v : Itv) → has xs x ≡ true → has xs v ≡ false → (same x u || same x v) ≡ true → same x u ≡ true
first_end xs x u v one none on = elim (has_cases (same x u) (same x v) on) [ inl e ↦ e | inr e ↦ absurd (true≢false (sym e ∙ not_of xs x v one none)) ]

second_end : (xs : List Itv) (x u v : Itv) → has xs x ≡ true → has xs u ≡ false → (same x u || same x v) ≡ true → same x v ≡ true
second_end xs x u v one none on = elim (has_cases (same x u) (same x v) on) [ inl e ↦ absurd (true≢false (sym e ∙ not_of xs x u one none)) | inr e ↦ e ]

-- so of a guess that an interval is present
may_claim : (r : Region) (z : Itv) → admits_topic r (One z claim.Present) ≡ true → MayBeThere r z
may_claim r z free = let c = claimed r z claim.Present free in record { within = c.within; not_absent = open_not_absent claim.Present (bounds_of r z) c.is_open }

of_presence : (r : Region) (p : Seq) (xs : List Itv) (z : Itv) → admits_topic r (One z claim.Present) ≡ true → (guess : Option Guess) × Reduces r (One z claim.Present) p xs guess
of_presence r p xs z free = by_case (has xs z) refl
  where
    by_case : (b : Bool) → has xs z ≡ b → (guess : Option Guess) × Reduces r (One z claim.Present) p xs guess
    by_case true here = touched r (One z claim.Present) p xs z (λ x y one other h. h) (may_claim r z free) here (λ x one on. on)
    by_case false none = (None, untouched r (One z claim.Present) p xs (λ x y one other h. h) (λ x one. not_of xs x z one none))

-- of a guess on an order of two that aren't both of them
of_order : (m : Data) (r : Region) (p : Seq) (xs : List Itv) (q : Seq) (u v : Itv) → IsRegionOf m r → admits_topic r (Two q u v) ≡ true → (has xs u ≡ true → has xs v ≡ true → ⊥) → (guess : Option Guess) × Reduces r (Two q u v) p xs guess
of_order m r p xs q u v of free loose = by_case (has xs u) (has xs v) refl refl
  where
    pair : IsPaired r q u v
    pair = paired r q u v free

    orders : (x y : Itv) → has xs x ≡ true → has xs y ≡ true → precedes (assumed (Two q u v) r) p x y ≡ true → precedes r p x y ≡ true
    orders x y one other h = elim (precedes_under m r (Two q u v) p x y of free h) [
      | inl before ↦ before
      | inr asks ↦
          let three = both_true (nat_eq p.0 q.0 && same x u) (same y v) asks in
          let two = both_true (nat_eq p.0 q.0) (same x u) three.0 in
          absurd (loose (subst (λ z. has xs z ≡ true) (same_is x u two.1) one) (subst (λ z. has xs z ≡ true) (same_is y v three.1) other))
    ]

    by_case : (b c : Bool) → has xs u ≡ b → has xs v ≡ c → (guess : Option Guess) × Reduces r (Two q u v) p xs guess
    by_case true true here there = absurd (loose here there)
    by_case true false here none = touched r (Two q u v) p xs u orders pair.one here (λ x one on. first_end xs x u v one none on)
    by_case false true none there = touched r (Two q u v) p xs v orders pair.other there (λ x one on. second_end xs x u v one none on)
    by_case false false none more = (None, untouched r (Two q u v) p xs orders (λ x one. or_from (same x u) (same x v) (not_of xs x u one none) (not_of xs x v one more)))

pub reduced : (m : Data) (r : Region) (p : Seq) (xs : List Itv) (t : Topic) → IsRegionOf m r → admits_topic r t ≡ true → IsLoose xs t → (guess : Option Guess) × Reduces r t p xs guess
reduced m r p xs (One z claim.Present) of free loose = of_presence r p xs z free
reduced m r p xs (One z claim.Absent) of free loose = absurd loose
reduced m r p xs (One z (claim.StartLe t)) of free loose = absurd loose
reduced m r p xs (One z (claim.StartGe t)) of free loose = absurd loose
reduced m r p xs (One z (claim.EndLe t)) of free loose = absurd loose
reduced m r p xs (One z (claim.EndGe t)) of free loose = absurd loose
reduced m r p xs (Two q u v) of free loose = of_order m r p xs q u v of free loose
