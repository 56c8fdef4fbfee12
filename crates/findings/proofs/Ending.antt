-- Of six guesses on an interval, and of two on a pair, each at the end of its cell is one.
use Rattle.std.specs.Prelude.{◌≡◌, ℕ, ◌<◌, Bool, true, false, ◌&&◌, List, length, Option, Some}
use Rattle.std.proofs.Common.{inl, inr, refl, sym, ap, subst, ◌∙◌, arith, get_or}
use Rattle.sched_base.specs.declared.ids.Itv.{Itv}
use Rattle.region.specs.declared.types.Topic.{Topic}
use Rattle.region.specs.declared.types.Guess.{Guess}
use Rattle.region.specs.declared.types.Guess.TheVariants.{Present, Absent, StartLe, StartGe, EndLe, EndGe, Before}
use Rattle.region.specs.Cells.{Region, bounds_of}
use Rattle.region.specs.Guesses.{admits, topic}
use Rattle.region.specs.laws.Lists.{both_true, true_both}
use Rattle.findings.specs.declared.finding.Pair.{Pair}
use Rattle.findings.specs.Ends.{is_end}
use Rattle.findings.specs.code.Search.{is_on, is_of_pair, IsRefutedEnd, NoEndRefuted}
use Rattle.findings.specs.laws.EndGuesses.{end_guesses, place, end_at}
use Rattle.findings.specs.laws.Members.{one_of_two, is_forward, is_turned}
use Rattle.base_laws.specs.laws.Truth.{other_fails}

-- where none of the six is admitted and refuted
pub none_on : (refuted : Option Guess → Bool) (r : Region) (x : Itv) (gs : List Guess) (n : ℕ) → gs ≡ end_guesses (bounds_of r x) x → length gs ≡ n
    → ((i : ℕ) → i < n → (admits r (get_or gs i (Present x)) && refuted (Some (get_or gs i (Present x)))) ≡ false) → NoEndRefuted refuted r (is_on x)
none_on refuted r x gs n is count before g on open_end =
    let two = both_true (admits r g) (is_end r (topic g)) open_end in
    let here = place r x g on two.1 in
    let at : get_or gs here.0 (Present x) ≡ g = ap (λ hs. get_or hs here.0 (Present x)) is ∙ here.2 in
    let six : 6 ≡ n = sym (ap length is) ∙ count in
    other_fails (admits r g) (refuted (Some g)) (subst (λ h. (admits r h && refuted (Some h)) ≡ false) at (before here.0 (omega (arith, here.1, six)))) two.0

-- and where one is
pub some_on : (refuted : Option Guess → Bool) (r : Region) (x : Itv) (gs : List Guess) (i : ℕ) (g : Guess) → gs ≡ end_guesses (bounds_of r x) x → i < length gs → g ≡ get_or gs i (Present x)
    → (admits r g && refuted (Some g)) ≡ true → IsRefutedEnd refuted r (is_on x) g
some_on refuted r x gs i g is within at h =
    let two = both_true (admits r g) (refuted (Some g)) h in
    let an = end_at r x gs i g is within at in
    record { wanted = an.on; open_end = true_both (admits r g) (is_end r (topic g)) two.0 an.end; refuted = two.1 }

-- the two of a pair
pub none_between : (refuted : Option Guess → Bool) (r : Region) (q : Pair) → (admits r (Before q.sequence q.first q.second) && refuted (Some (Before q.sequence q.first q.second))) ≡ false
    → (admits r (Before q.sequence q.second q.first) && refuted (Some (Before q.sequence q.second q.first))) ≡ false → NoEndRefuted refuted r (is_of_pair q)
none_between refuted r q forward backward (Before p x y) on open_end =
    let two = one_of_two p x y q on in
    let admitted = (both_true (admits r (Before p x y)) true open_end).0 in
    elim two.1 [
      | inl e ↦ other_fails (admits r (Before p x y)) (refuted (Some (Before p x y))) (rw (two.0, e.0, e.1) forward) admitted
      | inr e ↦ other_fails (admits r (Before p x y)) (refuted (Some (Before p x y))) (rw (two.0, e.0, e.1) backward) admitted
    ]
none_between refuted r q forward backward (Present x) on open_end = cc
none_between refuted r q forward backward (Absent x) on open_end = cc
none_between refuted r q forward backward (StartLe x t) on open_end = cc
none_between refuted r q forward backward (StartGe x t) on open_end = cc
none_between refuted r q forward backward (EndLe x t) on open_end = cc
none_between refuted r q forward backward (EndGe x t) on open_end = cc

pub forward_refuted : (refuted : Option Guess → Bool) (r : Region) (q : Pair) → (admits r (Before q.sequence q.first q.second) && refuted (Some (Before q.sequence q.first q.second))) ≡ true
    → IsRefutedEnd refuted r (is_of_pair q) (Before q.sequence q.first q.second)
forward_refuted refuted r q h =
    let two = both_true (admits r (Before q.sequence q.first q.second)) _ h in
    record { wanted = is_forward q; open_end = true_both (admits r (Before q.sequence q.first q.second)) true two.0 refl; refuted = two.1 }

pub backward_refuted : (refuted : Option Guess → Bool) (r : Region) (q : Pair) → (admits r (Before q.sequence q.second q.first) && refuted (Some (Before q.sequence q.second q.first))) ≡ true
    → IsRefutedEnd refuted r (is_of_pair q) (Before q.sequence q.second q.first)
backward_refuted refuted r q h =
    let two = both_true (admits r (Before q.sequence q.second q.first)) _ h in
    record { wanted = is_turned q; open_end = true_both (admits r (Before q.sequence q.second q.first)) true two.0 refl; refuted = two.1 }

-- a guess at the end of its cell, where it is open
pub likely_refuted : (refuted : Option Guess → Bool) (r : Region) (wants : Topic → Bool) (g : Guess) → wants (topic g) ≡ true → is_end r (topic g) ≡ true → (admits r g && refuted (Some g)) ≡ true → IsRefutedEnd refuted r wants g
likely_refuted refuted r wants g wanted end h =
    let two = both_true (admits r g) (refuted (Some g)) h in
    record { wanted = wanted; open_end = true_both (admits r g) (is_end r (topic g)) two.0 end; refuted = two.1 }
