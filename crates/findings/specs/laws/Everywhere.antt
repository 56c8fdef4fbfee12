-- A guess on an interval that a witness doesn't read changes nothing for it.
use Rattle.std.specs.Prelude.{◌≡◌, ℕ, ℤ, Bool, true, false, IsTrue, Option, Some, None}
use Rattle.std.proofs.Common.{refl, sym, ap, ◌∙◌}
use Rattle.std.proofs.lemmas.Bool.{true≢false}
use Rattle.sched_base.specs.declared.ids.Itv.{Itv}
use Rattle.sched_model.specs.Data.{Data, has}
use Rattle.region.specs.declared.types.Topic.{Topic}
use Rattle.region.specs.declared.types.Topic.TheVariants.{One, Two}
use Rattle.region.specs.declared.types.Guess.{Guess}
use Rattle.region.specs.Cells.{Region}
use Rattle.region.specs.Claims.{guessed}
use Rattle.region.specs.Guesses.{assumed, topic}
use Rattle.region.specs.Looks.{Refuting, IsRegionOf, seen_at}
use Rattle.region.specs.laws.Lists.{both_true, true_both}
use Rattle.region.specs.laws.Intervals.{bounds_elsewhere}
use Rattle.region.specs.laws.Narrowing.{guess_stays}
use Rattle.findings.specs.Ends.{is_open_end, is_asked}
use Rattle.findings.specs.code.Reads.{Reads, AreAlike, LooksOnlyAt, IsUnrefuted, is_among, is_paired}
use Rattle.findings.specs.laws.Kept.{asked_admits}

-- guesses on intervals, whichever they are of
abbrev pub is_of_one : Topic → Bool
is_of_one (One x c) = true
is_of_one (Two p x y) = false

abbrev numbered : ℕ → Itv
numbered i = record { 0 = i }

apart : (reads : Reads) (x z : Itv) → has reads.intervals z ≡ true → has reads.intervals x ≡ false → z.0 ≡ x.0 → ⊥
apart reads x z one none e = true≢false (sym one ∙ ap (λ n. has reads.intervals (numbered n)) e ∙ none)

alike_elsewhere : (reads : Reads) (t : Topic) (r : Region) → ((x : Itv) → IsTrue (is_paired reads.pairs x) → IsTrue (has reads.intervals x)) → is_of_one t ≡ true → is_among reads.intervals reads.pairs t ≡ false → AreAlike reads (assumed t r) r
alike_elsewhere reads (One x c) r both here none = record {
  bounds = λ z one. bounds_elsewhere x z (guessed c) r (apart reads x z one none);
  presences = λ z one. ap (λ b. b.presence) (bounds_elsewhere x z (guessed c) r (apart reads x z (both z one) none));
  orders = λ p a b one. refl;
}
alike_elsewhere reads (Two p x y) r both here none = cc

-- so none on an interval refutes where none on those that are read does
pub unrefuted_everywhere : {W : Type 0} (refutes : Refuting W) (m : Data) (w : W) (reads : Reads) (r : Region) (best : Option ℤ) → LooksOnlyAt refutes m w reads → IsRegionOf m r
    → ((x : Itv) → IsTrue (is_paired reads.pairs x) → IsTrue (has reads.intervals x)) → IsUnrefuted refutes m r best w reads.intervals reads.pairs
    → (guess : Option Guess) → IsTrue (is_asked (λ g. is_of_one (topic g)) r guess) → refutes m (seen_at r best guess) w ≡ false
unrefuted_everywhere refutes m w reads r best only of both none None asked = none None refl
unrefuted_everywhere refutes m w reads r best only of both none (Some g) asked = by_case (is_among reads.intervals reads.pairs (topic g)) refl
  where
    one : is_of_one (topic g) ≡ true
    one = (both_true (is_of_one (topic g)) (is_open_end r g) asked).0

    open_end : is_open_end r g ≡ true
    open_end = (both_true (is_of_one (topic g)) (is_open_end r g) asked).1

    by_case : (b : Bool) → is_among reads.intervals reads.pairs (topic g) ≡ b → refutes m (seen_at r best (Some g)) w ≡ false
    by_case true is = none (Some g) (true_both (is_among reads.intervals reads.pairs (topic g)) (is_open_end r g) is open_end)
    by_case false is = only (seen_at r best (Some g)) (seen_at r best None) (guess_stays g m r (asked_admits (λ h. is_of_one (topic h)) r (Some g) asked) of) of (alike_elsewhere reads (topic g) r both one is) (λ uses. refl) ∙ none None refl
