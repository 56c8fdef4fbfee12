-- What is left of intervals that were asked in two parts.
use Rattle.std.specs.Prelude.{◌≡◌, ℕ, Bool, true, false, ◌||◌, List, [], Option, Some, None}
use Rattle.std.proofs.Common.{refl, sym, ap, ◌∙◌, take, drop}
use Rattle.std.proofs.lemmas.Bool.{and_parts, or_left, or_right}
use Rattle.std.proofs.lemmas.List.{take-append-drop}
use Rattle.std.proofs.lemmas.List.Folds.{list_any-append}
use Rattle.sched_base.specs.declared.ids.Itv.{Itv}
use Rattle.sched_model.specs.Data.{same, has}
use Rattle.region.specs.declared.types.Topic.{Topic}
use Rattle.region.specs.declared.types.Topic.TheVariants.{One, Two}
use Rattle.region.specs.declared.types.Guess.{Guess}
use Rattle.region.specs.Cells.{Region}
use Rattle.region.specs.Guesses.{topic}
use Rattle.region.specs.laws.Lists.{true_both}
use Rattle.findings.specs.Ends.{is_open_end}
use Rattle.findings.specs.code.Reads.{is_among, AreUnrefuted}

has_either : (xs : List Itv) (k : ℕ) (x : Itv) → has xs x ≡ (has (take k xs) x || has (drop k xs) x)
has_either xs k x = ap (λ ys. has ys x) (sym (take-append-drop k xs)) ∙ list_any-append (same x) (take k xs) (drop k xs)

among_either : (xs : List Itv) (k : ℕ) (t : Topic) → is_among xs [] t ≡ (is_among (take k xs) [] t || is_among (drop k xs) [] t)
among_either xs k (One x c) = has_either xs k x
among_either xs k (Two p x y) = refl

pub unrefuted_round : (test : Option Guess → Bool) (r : Region) (xs : List Itv) (k : ℕ) → AreUnrefuted test r (drop k xs) [] → AreUnrefuted test r (take k xs) [] → AreUnrefuted test r xs []
unrefuted_round test r xs k after before None asked = after None asked
unrefuted_round test r xs k after before (Some g) asked =
    let two = and_parts (is_among xs [] (topic g)) (is_open_end r g) asked in
    by_part (is_among (take k xs) [] (topic g)) refl (sym (among_either xs k (topic g)) ∙ two.0) two.1
  where
    by_part : (b : Bool) → is_among (take k xs) [] (topic g) ≡ b → (b || is_among (drop k xs) [] (topic g)) ≡ true → is_open_end r g ≡ true → test (Some g) ≡ false
    by_part true is either ends = before (Some g) (true_both _ _ is ends)
    by_part false is either ends = after (Some g) (true_both _ _ either ends)

unrefuted_after : (test : Option Guess → Bool) (r : Region) (xs : List Itv) (k : ℕ) → AreUnrefuted test r xs [] → AreUnrefuted test r (drop k xs) []
unrefuted_after test r xs k all None asked = all None asked
unrefuted_after test r xs k all (Some g) asked =
    let two = and_parts (is_among (drop k xs) [] (topic g)) (is_open_end r g) asked in
    all (Some g) (true_both _ _ (among_either xs k (topic g) ∙ or_right (is_among (take k xs) [] (topic g)) _ two.0) two.1)

unrefuted_before : (test : Option Guess → Bool) (r : Region) (xs : List Itv) (k : ℕ) → AreUnrefuted test r xs [] → AreUnrefuted test r (take k xs) []
unrefuted_before test r xs k all None asked = all None asked
unrefuted_before test r xs k all (Some g) asked =
    let two = and_parts (is_among (take k xs) [] (topic g)) (is_open_end r g) asked in
    all (Some g) (true_both _ _ (among_either xs k (topic g) ∙ or_left _ (is_among (drop k xs) [] (topic g)) two.0) two.1)

pub busy_after : (test : Option Guess → Bool) (r : Region) (xs : List Itv) (k : ℕ) → (AreUnrefuted test r (drop k xs) [] → ⊥) → AreUnrefuted test r xs [] → ⊥
busy_after test r xs k busy all = busy (unrefuted_after test r xs k all)

pub busy_before : (test : Option Guess → Bool) (r : Region) (xs : List Itv) (k : ℕ) → (AreUnrefuted test r (take k xs) [] → ⊥) → AreUnrefuted test r xs [] → ⊥
busy_before test r xs k busy all = busy (unrefuted_before test r xs k all)
