-- What both searches together leave of a witness.
use Rattle.std.specs.Prelude.{◌≡◌, Bool, true, false, List, [], Option, Some, None}
use Rattle.std.proofs.Common.{refl, sym, ap, ◌∙◌}
use Rattle.std.proofs.lemmas.Bool.{true≢false}
use Rattle.sched_base.specs.declared.ids.Itv.{Itv}
use Rattle.region.specs.declared.types.Topic.{Topic}
use Rattle.region.specs.declared.types.Topic.TheVariants.{One, Two}
use Rattle.region.specs.declared.types.Guess.{Guess}
use Rattle.region.specs.Cells.{Region}
use Rattle.region.specs.Guesses.{topic}
use Rattle.region.specs.Tight.{IsTightened}
use Rattle.region.specs.laws.Lists.{both_true, true_both}
use Rattle.findings.specs.declared.finding.Pair.{Pair}
use Rattle.findings.specs.Ends.{is_open_end}
use Rattle.findings.specs.Found.{IsFound}
use Rattle.findings.specs.code.Reads.{is_among, AreUnrefuted}
use Rattle.findings.specs.code.Search.{IsRefutedEnd, NoEndRefuted}

of_intervals : (xs : List Itv) (qs : List Pair) (t : Topic) → is_among xs [] t ≡ true → is_among xs qs t ≡ true
of_intervals xs qs (One x c) h = h
of_intervals xs qs (Two p x y) h = cc

of_orders : (xs : List Itv) (qs : List Pair) (t : Topic) → is_among [] qs t ≡ true → is_among xs qs t ≡ true
of_orders xs qs (One x c) h = cc
of_orders xs qs (Two p x y) h = h

pub interval_end : (refuted : Option Guess → Bool) (r : Region) (xs : List Itv) (qs : List Pair) (g : Guess) → IsRefutedEnd refuted r (is_among xs []) g → IsRefutedEnd refuted r (is_among xs qs) g
interval_end refuted r xs qs g one = record { wanted = of_intervals xs qs (topic g) one.wanted; open_end = one.open_end; refuted = one.refuted }

pub order_end : (refuted : Option Guess → Bool) (r : Region) (xs : List Itv) (qs : List Pair) (g : Guess) → IsRefutedEnd refuted r (is_among [] qs) g → IsRefutedEnd refuted r (is_among xs qs) g
order_end refuted r xs qs g one = record { wanted = of_orders xs qs (topic g) one.wanted; open_end = one.open_end; refuted = one.refuted }

by_topic : (refuted : Option Guess → Bool) (r : Region) (xs : List Itv) (qs : List Pair) (g : Guess) (t : Topic) → topic g ≡ t → NoEndRefuted refuted r (is_among xs []) → NoEndRefuted refuted r (is_among [] qs) → is_among xs qs t ≡ true → is_open_end r g ≡ true
    → refuted (Some g) ≡ false
by_topic refuted r xs qs g (One x c) is first second wanted open_end = first g (ap (is_among xs []) is ∙ wanted) open_end
by_topic refuted r xs qs g (Two p x y) is first second wanted open_end = second g (ap (is_among [] qs) is ∙ wanted) open_end

pub none_of_both : (refuted : Option Guess → Bool) (r : Region) (xs : List Itv) (qs : List Pair) → NoEndRefuted refuted r (is_among xs []) → NoEndRefuted refuted r (is_among [] qs) → NoEndRefuted refuted r (is_among xs qs)
none_of_both refuted r xs qs first second g wanted open_end = by_topic refuted r xs qs g (topic g) refl first second wanted open_end

pub unrefuted_all : (refuted : Option Guess → Bool) (r : Region) (xs : List Itv) (qs : List Pair) → refuted None ≡ false → NoEndRefuted refuted r (is_among xs qs) → AreUnrefuted refuted r xs qs
unrefuted_all refuted r xs qs plain none None asked = plain
unrefuted_all refuted r xs qs plain none (Some g) asked = let two = both_true (is_among xs qs (topic g)) (is_open_end r g) asked in none g two.0 two.1

pub plain_busy : (refuted : Option Guess → Bool) (r : Region) (xs : List Itv) (qs : List Pair) → refuted None ≡ true → AreUnrefuted refuted r xs qs → ⊥
plain_busy refuted r xs qs h none = true≢false (sym h ∙ none None refl)

pub end_busy : (refuted : Option Guess → Bool) (r : Region) (xs : List Itv) (qs : List Pair) (g : Guess) → IsRefutedEnd refuted r (is_among xs qs) g → AreUnrefuted refuted r xs qs → ⊥
end_busy refuted r xs qs g one none = true≢false (sym one.refuted ∙ none (Some g) (true_both (is_among xs qs (topic g)) (is_open_end r g) one.wanted one.open_end))

pub plain_found : (refuted : Option Guess → Bool) (r : Region) → refuted None ≡ true → IsFound refuted r None
plain_found refuted r h = record { admitted = refl; refuted = h; tight = refl }

pub tight_found : (refuted : Option Guess → Bool) (r : Region) (g h : Guess) → IsTightened (λ k. refuted (Some k)) r g h → IsFound refuted r (Some h)
tight_found refuted r g h is = record { admitted = is.admitted; refuted = is.refutes; tight = is.tight }
