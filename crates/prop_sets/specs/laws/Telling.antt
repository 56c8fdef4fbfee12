-- The guess under which a row's numbers on one member are those of the look.
use Rattle.std.specs.Prelude.{◌≡◌, ◌⊎◌, ℕ, ◌<◌, ℤ, Bool, true, false, nat_lt, length, Option, Some, None}
use Rattle.std.specs.Ordering.{int_eq}
use Rattle.std.proofs.Common.{refl, sym, ap, subst, ◌∙◌, inl, inr, arith}
use Rattle.std.proofs.lemmas.Int.{ints}
use Rattle.std.proofs.lemmas.Bool.Decides.{nat_tests}
use Rattle.sched_base.specs.declared.ids.Itv.{Itv}
use Rattle.sched_model.specs.Words.{passes_if_any}
use Rattle.region.specs.declared.types.Presence.{Presence}
use Rattle.region.specs.declared.types.Presence.TheVariants as presence
use Rattle.region.specs.declared.types.Claim.{Claim}
use Rattle.region.specs.declared.types.Claim.TheVariants as claim
use Rattle.region.specs.declared.types.Topic.TheVariants.{One}
use Rattle.region.specs.declared.types.Guess.{Guess}
use Rattle.region.specs.declared.types.Guess.TheVariants.{Present, StartLe, EndGe}
use Rattle.region.specs.Cells.{Region, bounds_of, says_present, says_absent, says_maybe}
use Rattle.region.specs.Claims.{guessed, is_open_at}
use Rattle.region.specs.Guesses.{admits_topic, assumed, topic, looked_at}
use Rattle.region.specs.laws.Lists.{true_both}
use Rattle.region.specs.laws.Intervals.{bounds_there}
use Rattle.findings.specs.Ends.{is_open_end}
use Rattle.refute_seq.specs.Sets.{times_in}
use Rattle.prop_sets.specs.code.Rows.{end_claim, asked_bounds}
use Rattle.prop_sets.specs.laws.Under.{IsNarrow, IsSeen, open_or_told, seen_plain, seen_topic}

-- an end guess
abbrev pub end_guess : Bool → Region → Itv → Guess
end_guess true r i = StartLe i (bounds_of r i).smin
end_guess false r i = EndGe i (bounds_of r i).emax

-- no guess, that it is present, or the end guess
abbrev pub IsTold : Bool → Region → Itv → Option Guess → Type 0
IsTold early r i guess = (guess ≡ None) ⊎ ((guess ≡ Some (Present i)) ⊎ (guess ≡ Some (end_guess early r i)))

pub record IsTightLook (early : Bool) (r : Region) (i : Itv) (guess : Option Guess) : Type 0 where
  pub told : IsTold early r i guess
  pub opened : passes_if_any (is_open_end r) guess ≡ true
  pub seen : IsSeen r (looked_at guess r) i early
  pub same : times_in (bounds_of (looked_at guess r) i) ≡ times_in (asked_bounds early (bounds_of r i))

end_topic : (early : Bool) (r : Region) (i : Itv) → topic (end_guess early r i) ≡ One i (end_claim early (bounds_of r i))
end_topic true r i = refl
end_topic false r i = refl

is_below : (i n : ℕ) → i < n → nat_lt i n ≡ true
is_below i n h = grind (arith, nat_tests)

equal_self : (z : ℤ) → int_eq z z ≡ true
equal_self z = grind (arith, ints)

free : (r : Region) (i : Itv) (k : Claim) → i.0 < length r.bounds → is_open_at k (bounds_of r i) ≡ true → admits_topic r (One i k) ≡ true
free r i k within opened = true_both (nat_lt i.0 (length r.bounds)) (is_open_at k (bounds_of r i)) (is_below i.0 (length r.bounds) within) opened

open_end : (early : Bool) (r : Region) (i : Itv) → i.0 < length r.bounds → is_open_at (end_claim early (bounds_of r i)) (bounds_of r i) ≡ true → is_open_end r (end_guess early r i) ≡ true
open_end true r i within opened = true_both (admits_topic r (One i (claim.StartLe (bounds_of r i).smin))) (int_eq (bounds_of r i).smin (bounds_of r i).smin) (free r i (claim.StartLe (bounds_of r i).smin) within opened) (equal_self (bounds_of r i).smin)
open_end false r i within opened = true_both (admits_topic r (One i (claim.EndGe (bounds_of r i).emax))) (int_eq (bounds_of r i).emax (bounds_of r i).emax) (free r i (claim.EndGe (bounds_of r i).emax) within opened) (equal_self (bounds_of r i).emax)

by_end : (early : Bool) (r : Region) (i : Itv) → i.0 < length r.bounds → is_open_at (end_claim early (bounds_of r i)) (bounds_of r i) ≡ true → IsTightLook early r i (Some (end_guess early r i))
by_end early r i within opened = record {
  told = inr (inr refl);
  opened = open_end early r i within opened;
  seen = subst (λ t. IsSeen r (assumed t r) i early) (sym (end_topic early r i)) (seen_topic early r i (One i (end_claim early (bounds_of r i))) (free r i (end_claim early (bounds_of r i)) within opened) (inr refl));
  same = ap times_in (ap (λ t. bounds_of (assumed t r) i) (end_topic early r i) ∙ bounds_there i (guessed (end_claim early (bounds_of r i))) r within);
}

by_presence : (early : Bool) (r : Region) (i : Itv) (h : Presence) → (bounds_of r i).presence ≡ h → says_absent h ≡ false → i.0 < length r.bounds → times_in (bounds_of r i) ≡ times_in (asked_bounds early (bounds_of r i)) → (guess : Option Guess) × IsTightLook early r i guess
by_presence early r i presence.Absent is here within same = cc
by_presence early r i presence.Present is here within same = (None, record { told = inl refl; opened = refl; seen = seen_plain early r i (ap says_present is); same = same })
by_presence early r i presence.Maybe is here within same =
    let opened : is_open_at claim.Present (bounds_of r i) ≡ true = ap says_maybe is in
    let admitted = free r i claim.Present within opened in (
      Some (Present i),
      record {
        told = inr (inl refl);
        opened = true_both (admits_topic r (One i claim.Present)) true admitted refl;
        seen = seen_topic early r i (One i claim.Present) admitted (inl refl);
        same = ap times_in (bounds_there i (guessed claim.Present) r within) ∙ same;
      },
    )

pub tight_look : (early : Bool) (r : Region) (i : Itv) → IsNarrow (bounds_of r i) → says_absent (bounds_of r i).presence ≡ false → i.0 < length r.bounds → (guess : Option Guess) × IsTightLook early r i guess
tight_look early r i low here within = elim (open_or_told early (bounds_of r i) low here) [
  | inl opened ↦ (Some (end_guess early r i), by_end early r i within opened)
  | inr same ↦ by_presence early r i (bounds_of r i).presence refl here within same
]

-- one that says no more than the presence
pub record IsPresentLook (early : Bool) (r : Region) (i : Itv) (guess : Option Guess) : Type 0 where
  pub told : (guess ≡ None) ⊎ (guess ≡ Some (Present i))
  pub opened : passes_if_any (is_open_end r) guess ≡ true
  pub seen : IsSeen r (looked_at guess r) i early

look_of : (early : Bool) (r : Region) (i : Itv) (h : Presence) → (bounds_of r i).presence ≡ h → says_absent h ≡ false → i.0 < length r.bounds → (guess : Option Guess) × IsPresentLook early r i guess
look_of early r i presence.Absent is here within = cc
look_of early r i presence.Present is here within = (None, record { told = inl refl; opened = refl; seen = seen_plain early r i (ap says_present is) })
look_of early r i presence.Maybe is here within =
    let opened : is_open_at claim.Present (bounds_of r i) ≡ true = ap says_maybe is in
    let admitted = free r i claim.Present within opened in (
      Some (Present i),
      record {
        told = inr refl;
        opened = true_both (admits_topic r (One i claim.Present)) true admitted refl;
        seen = seen_topic early r i (One i claim.Present) admitted (inl refl);
      },
    )

pub present_look : (early : Bool) (r : Region) (i : Itv) → says_absent (bounds_of r i).presence ≡ false → i.0 < length r.bounds → (guess : Option Guess) × IsPresentLook early r i guess
present_look early r i here within = look_of early r i (bounds_of r i).presence refl here within
