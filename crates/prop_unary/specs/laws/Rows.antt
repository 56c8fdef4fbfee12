-- What the rows of two members show: where each that the second may stand before is one that the first may, no three through the
-- two stand in a circle.
use Rattle.std.specs.Prelude.{◌≡◌, ℕ, suc, ◌<◌, ℤ, Bool, true, false, not, ◌&&◌, ◌||◌, List, [], ◌∷◌, length, Option, Some, None, nat_lt}
use Rattle.std.proofs.Common.{refl, sym, ap, subst, ◌∙◌, arith, inl, inr}
use Rattle.std.proofs.lemmas.Bool.{true≢false}
use Rattle.sched_base.specs.declared.ids.Itv.{Itv}
use Rattle.sched_base.specs.declared.ids.Seq.{Seq}
use Rattle.sched_model.specs.Data.{Data, same, has}
use Rattle.sched_model.specs.Words.{passes_if_any}
use Rattle.region.specs.declared.types.Presence.{Presence}
use Rattle.region.specs.declared.types.Presence.TheVariants as presence
use Rattle.region.specs.declared.types.OrderCell.TheVariants.{Backward}
use Rattle.region.specs.declared.types.Topic.{Topic}
use Rattle.region.specs.declared.types.Topic.TheVariants.{One, Two}
use Rattle.region.specs.declared.types.Guess.{Guess}
use Rattle.region.specs.Claims.{is_open_at}
use Rattle.region.specs.Orders.{order_in, is_before, known_order}
use Rattle.region.specs.Cells.{Region, bounds_of, cells_of, is_there, says_present, says_absent}
use Rattle.region.specs.Guesses.{admits, admits_topic, topic, looked_at}
use Rattle.region.specs.Looks.{IsRegionOf, seen_at}
use Rattle.region.specs.laws.Lists.{both_true}
use Rattle.region.specs.laws.OneSequence.{same_is, has_cases}
use Rattle.region.specs.laws.Pairs.{paired}
use Rattle.findings.specs.laws.Kept.{asked_admits}
use Rattle.findings.specs.laws.Open.{not_absent, open_not_absent}
use Rattle.refute_seq.specs.declared.witness.SeqWitness.TheVariants.{Triple}
use Rattle.refute_seq.specs.Standing.{precedes, is_away}
use Rattle.refute_seq.specs.Listed.{lists}
use Rattle.refute_seq.specs.OnSequence.{refutes}
use Rattle.refute_seq.specs.laws.Ordered.{one_way}
use Rattle.prop_unary.specs.declared.places.Places.{Places}
use Rattle.prop_unary.specs.code.Tasks.{IsSilent}
use Rattle.prop_unary.specs.code.Circles.{EachOf, SilentBehind, SilentAround}
use Rattle.prop_unary.specs.code.Rows.{has_place, may_stand, member_at, IsRow}
use Rattle.prop_unary.specs.laws.Under.{touches, there_before}
use Rattle.prop_unary.specs.laws.Circles.{IsCircle, circle_of, backward_silent}

-- who is absent isn't there, nor under a guess that is open
away_not_there : (r : Region) (x : Itv) → is_away r x ≡ true → is_there r x ≡ true → ⊥
away_not_there r x away there = both_said (bounds_of r x).presence away there
  where
    both_said : (p : Presence) → says_absent p ≡ true → says_present p ≡ true → ⊥
    both_said presence.Present h k = cc
    both_said presence.Absent h k = cc
    both_said presence.Maybe h k = cc

not_touched : (r : Region) (t : Topic) (x : Itv) → admits_topic r t ≡ true → is_away r x ≡ true → touches t x ≡ false
not_touched r (One z c) x free away = decided (same x z) refl
  where
    decided : (b : Bool) → same x z ≡ b → same x z ≡ false
    decided false e = e
    decided true e = absurd (true≢false (sym (subst (λ (y : Itv). is_away r y ≡ true) (same_is x z e) away) ∙ open_not_absent c (bounds_of r z) (both_true (nat_lt z.0 (length r.bounds)) (is_open_at c (bounds_of r z)) free).1))
not_touched r (Two p u v) x free away = decided (same x u) (same x v) refl refl
  where
    decided : (b c : Bool) → same x u ≡ b → same x v ≡ c → (same x u || same x v) ≡ false
    decided true c e f = absurd (true≢false (sym (subst (λ (y : Itv). is_away r y ≡ true) (same_is x u e) away) ∙ (paired r p u v free).one.not_absent))
    decided false true e f = absurd (true≢false (sym (subst (λ (y : Itv). is_away r y ≡ true) (same_is x v f) away) ∙ (paired r p u v free).other.not_absent))
    decided false false e f = ap (λ b. b || same x v) e ∙ f

away_under : (r : Region) (guess : Option Guess) (x : Itv) → is_away r x ≡ true → passes_if_any (admits r) guess ≡ true → is_there (looked_at guess r) x ≡ true → ⊥
away_under r None x away free there = away_not_there r x away there
away_under r (Some g) x away free there = away_not_there r x away (there_before r (topic g) x (not_touched r (topic g) x free away) there)

-- so no circle goes through one who is absent
circle_without : (m : Data) (r : Region) (best : Option ℤ) (p : Seq) (x y z u : Itv) → is_away r u ≡ true → ((l : Region) → IsCircle l p x y z → is_there l u ≡ true) → IsSilent m r best (Triple p.0 x.0 y.0 z.0)
circle_without m r best p x y z u away there guess asked = by_case (refutes m (seen_at r best guess) (Triple p.0 x.0 y.0 z.0)) refl
  where
    by_case : (t : Bool) → refutes m (seen_at r best guess) (Triple p.0 x.0 y.0 z.0) ≡ t → refutes m (seen_at r best guess) (Triple p.0 x.0 y.0 z.0) ≡ false
    by_case false e = e
    by_case true e = absurd (away_under r guess u away (asked_admits (lists m (Triple p.0 x.0 y.0 z.0)) r guess asked) (there (looked_at guess r) (circle_of m (seen_at r best guess) p x y z e)))

-- who is told to stand before another
told_backward : (r : Region) (p : Seq) (x z : Itv) → precedes r p x z ≡ true → order_in (cells_of r p) z x ≡ Backward
told_backward r p x z h = backward (is_before (cells_of r p) z x) (is_before (cells_of r p) x z) h (λ back. one_way (cells_of r p) x z h back)
  where
    backward : (b c : Bool) → c ≡ true → (b ≡ true → ⊥) → known_order b c ≡ Backward
    backward true c h off = absurd (off refl)
    backward false true h off = refl
    backward false false h off = cc

there_not_away : (r : Region) (y : Itv) → is_there r y ≡ true → is_away r y ≡ false
there_not_away r y there = not_absent (bounds_of r y).presence there

standing : (r : Region) (p : Seq) (x y : Itv) → is_away r x ≡ false → is_away r y ≡ false → precedes r p x y ≡ true → may_stand r p x y ≡ true
standing r p x y one other told = rw (one, other) told

told_standing : (r : Region) (p : Seq) (x y : Itv) → may_stand r p x y ≡ true → precedes r p x y ≡ true
told_standing r p x y h = (both_true (not (is_away r x) && not (is_away r y)) (precedes r p x y) h).1

-- what one set says of another
abbrev pub IsClear : Places → ℕ → Places → Type 0
IsClear first at second = has_place first at ≡ true → (k : ℕ) → has_place second k ≡ true → has_place first k ≡ true

behind_silent : (m : Data) (r : Region) (best : Option ℤ) (p : Seq) (ms : List Itv) (x : Itv) (at : ℕ) (first second : Places) → IsRegionOf m r → at < length ms → is_there r (member_at ms at) ≡ true → IsRow r p x ms first → IsRow r p (member_at ms at) ms second → IsClear first at second
    → precedes r p x (member_at ms at) ≡ true → (k : ℕ) → k < length ms → SilentBehind m r best p x (member_at ms at) (member_at ms k)
behind_silent m r best p ms x at first second of within there one other clear told k below next = decided (is_away r x) (is_away r z) refl refl
  where
    y : Itv
    y = member_at ms at

    z : Itv
    z = member_at ms k

    decided : (b c : Bool) → is_away r x ≡ b → is_away r z ≡ c → IsSilent m r best (Triple p.0 x.0 y.0 z.0)
    decided true c e f = circle_without m r best p x y z x e (λ l circle. circle.first.first)
    decided false true e f = circle_without m r best p x y z z f (λ l circle. circle.second.second)
    decided false false e f = backward_silent m r best p x y z of (told_backward r p x z (told_standing r p x z (sym (one k below) ∙ clear (one at within ∙ standing r p x y e (there_not_away r y there) told) k (other k below ∙ standing r p y z (there_not_away r y there) f next))))

-- each member is at a place
pub each_placed : (P : Itv → Type 0) (xs : List Itv) → ((k : ℕ) → k < length xs → P (member_at xs k)) → EachOf P xs
each_placed P [] each z h = cc
each_placed P (x ∷ xs) each z h = elim (has_cases (same z x) (has xs z) h) [
  | inl e ↦ subst P (sym (same_is z x e)) (each 0 (omega arith))
  | inr e ↦ each_placed P xs (λ k below. each (suc k) (omega (arith, below))) z e
]

pub around_silent : (m : Data) (r : Region) (best : Option ℤ) (p : Seq) (ms : List Itv) (x : Itv) (at : ℕ) (first second : Places) → IsRegionOf m r → at < length ms → is_there r (member_at ms at) ≡ true → IsRow r p x ms first → IsRow r p (member_at ms at) ms second → IsClear first at second
    → SilentAround m r best p ms (member_at ms at) x
around_silent m r best p ms x at first second of within there one other clear told = each_placed (SilentBehind m r best p x (member_at ms at)) ms (behind_silent m r best p ms x at first second of within there one other clear told)
