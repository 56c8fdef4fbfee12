-- A settled region admits no guess.
use Rattle.std.specs.Prelude.{◌≡◌, ◌⊎◌, ℤ, Bool, true, false, not, ◌&&◌, List, [], ◌∷◌, Option, Some, None}
use Rattle.std.specs.List.{list_all}
use Rattle.std.proofs.Common.{inl, inr, refl, sym, subst, ◌∙◌, arith}
use Rattle.std.proofs.lemmas.Int.{ints}
use Rattle.std.proofs.lemmas.Bool.{true≢false}
use Rattle.sched_base.specs.declared.ids.Itv.{Itv}
use Rattle.sched_model.specs.Words.{◌implies◌, pairwise, passes_if_any}
use Rattle.sched_model.specs.Data.{Data, same, has}
use Rattle.region.specs.declared.types.Bounds.{Bounds}
use Rattle.region.specs.declared.types.Presence.{Presence}
use Rattle.region.specs.declared.types.Presence.TheVariants as presence
use Rattle.region.specs.declared.types.Claim.{Claim}
use Rattle.region.specs.declared.types.Claim.TheVariants as claim
use Rattle.region.specs.declared.types.Topic.{Topic}
use Rattle.region.specs.declared.types.Topic.TheVariants.{One, Two}
use Rattle.region.specs.declared.types.Guess.{Guess}
use Rattle.region.specs.Orders.{SequenceCells}
use Rattle.region.specs.Cells.{Region, unknown, no_sequence, bounds_of, cells_of, is_fixed, is_there, is_known_order, is_ordered, is_settled, says_present, says_absent, says_maybe}
use Rattle.region.specs.Claims.{is_open_at}
use Rattle.region.specs.Guesses.{admits, admits_topic, topic}
use Rattle.region.specs.Looks.{seen_at}
use Rattle.region.specs.laws.Lists.{both_true, true_both, all-at}
use Rattle.region.specs.laws.OneSequence.{IsOpen, open_turned, same_is, has_cases}
use Rattle.region.specs.laws.Orderly.{all_has}
use Rattle.region.specs.laws.Pairs.{MayBeThere, paired}
use Rattle.region.specs.laws.Narrowing.{claimed}
use Rattle.kernel.specs.declared.types.Witness.{Witness}
use Rattle.kernel.specs.declared.no_extra.NoWitness.{NoWitness}
use Rattle.findings.specs.declared.finding.Finding.{Finding}
use Rattle.findings.specs.Found.{IsFinding}
use Rattle.engine.specs.Plain.{refutes_plain}

fixed_closed : (k : Claim) (c : Bounds) → is_fixed c ≡ true → is_open_at k c ≡ true → ⊥
fixed_closed claim.Present c h k = grind (arith, ints)
fixed_closed claim.Absent c h k = grind (arith, ints)
fixed_closed (claim.StartLe t) c h k = grind (arith, ints)
fixed_closed (claim.StartGe t) c h k = grind (arith, ints)
fixed_closed (claim.EndLe t) c h k = grind (arith, ints)
fixed_closed (claim.EndGe t) c h k = grind (arith, ints)

fixed_there : (p : Presence) → not (says_maybe p) ≡ true → says_absent p ≡ false → says_present p ≡ true
fixed_there presence.Absent h k = cc
fixed_there presence.Present h k = refl
fixed_there presence.Maybe h k = cc

-- of two that differ one stands before the other in a list, so that a test of each two is true of them
either_way : (t : Itv → Itv → Bool) (ms : List Itv) (x y : Itv) → pairwise t ms ≡ true → has ms x ≡ true → has ms y ≡ true → same x y ≡ false → (t x y ≡ true) ⊎ (t y x ≡ true)
either_way t [] x y h one other apart = cc
either_way t (z ∷ zs) x y h one other apart =
    let two = both_true (list_all (t z) zs) (pairwise t zs) h in
    elim (has_cases (same x z) (has zs x) one) [
      | inl first ↦ elim (has_cases (same y z) (has zs y) other) [
        | inl second ↦ absurd (true≢false (sym (same_two x y z first second) ∙ apart))
        | inr later ↦ inl (subst (λ v. t v y ≡ true) (sym (same_is x z first)) (all_has (t z) zs y two.0 later))
      ]
      | inr later ↦ elim (has_cases (same y z) (has zs y) other) [
        | inl second ↦ inr (subst (λ v. t v x ≡ true) (sym (same_is y z second)) (all_has (t z) zs x two.0 later))
        | inr last ↦ either_way t zs x y two.1 later last apart
      ]
    ]
  where
    same_two : (x y z : Itv) → same x z ≡ true → same y z ≡ true → same x y ≡ true
    same_two x y z h k = let e = same_is y z k in subst (λ v. same x v ≡ true) (sym e) h

known_order_of : (b c : Bool) → (b implies not c) ≡ true → b ≡ true → c ≡ false
known_order_of true true h k = cc
known_order_of true false h k = refl
known_order_of false c h k = cc

closed_pair : (r : Region) (s : SequenceCells) (x y : Itv) → is_ordered r s ≡ true → is_there r x ≡ true → is_there r y ≡ true → IsOpen s x y → ⊥
closed_pair r s x y ordered one other o = elim (either_way (is_known_order r s) s.members x y ordered o.one o.other o.apart) [
  | inl e ↦ true≢false (sym o.unknown ∙ known_order_of (is_there r x && is_there r y) _ e (true_both (is_there r x) (is_there r y) one other))
  | inr e ↦ true≢false (sym (open_turned s x y o).unknown ∙ known_order_of (is_there r y && is_there r x) _ e (true_both (is_there r y) (is_there r x) other one))
]

present_in : (r : Region) (x : Itv) → list_all is_fixed r.bounds ≡ true → MayBeThere r x → is_there r x ≡ true
present_in r x fixed may = fixed_there (bounds_of r x).presence (both_true (not (says_maybe (bounds_of r x).presence)) _ (all-at is_fixed r.bounds x.0 unknown fixed may.within)).0 may.not_absent

closed_topic : (r : Region) (t : Topic) → is_settled r ≡ true → admits_topic r t ≡ true → ⊥
closed_topic r (One x c) settled h =
    let fixed = (both_true (list_all is_fixed r.bounds) (list_all (is_ordered r) r.orders) settled).0 in
    let one = claimed r x c h in
    fixed_closed c (bounds_of r x) (all-at is_fixed r.bounds x.0 unknown fixed one.within) one.is_open
closed_topic r (Two p x y) settled h =
    let two = both_true (list_all is_fixed r.bounds) (list_all (is_ordered r) r.orders) settled in
    let pair = paired r p x y h in
    closed_pair r (cells_of r p) x y (all-at (is_ordered r) r.orders p.0 no_sequence two.1 pair.within) (present_in r x two.0 pair.one) (present_in r y two.0 pair.other) pair.is_open

pub unsettled : (r : Region) (g : Guess) → admits r g ≡ true → is_settled r ≡ false
unsettled r g h = by_case (is_settled r) refl
  where
    by_case : (b : Bool) → is_settled r ≡ b → is_settled r ≡ false
    by_case false is = is
    by_case true is = absurd (closed_topic r (topic g) is h)

-- so what is found of it refutes it as it stands
plain : (m : Data) (r : Region) (best : Option ℤ) (o : Option Guess) (w : Witness NoWitness) → is_settled r ≡ true → passes_if_any (admits r) o ≡ true → refutes_plain m (seen_at r best o) w ≡ true → refutes_plain m (seen_at r best None) w ≡ true
plain m r best None w settled admitted h = h
plain m r best (Some g) w settled admitted h = absurd (true≢false (sym settled ∙ unsettled r g admitted))

pub plain_finding : (m : Data) (r : Region) (best : Option ℤ) (f : Finding (Witness NoWitness)) → is_settled r ≡ true → IsFinding refutes_plain m r best f → refutes_plain m (seen_at r best None) f.witness ≡ true
plain_finding m r best f settled found = plain m r best f.guess f.witness settled found.admitted found.refuted
