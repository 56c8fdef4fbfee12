-- Quiet for each walk: with no guess, and where each free interval is present.
use Rattle.std.specs.Prelude.{◌≡◌, ℕ, ◌+◌, ◌<◌, ◌≤◌, ℤ, true, false, IsTrue, List, length, Option, Some, None, nat_eq, nat_lt}
use Rattle.std.proofs.Common.{inl, inr, refl, sym, subst, ◌∙◌, arith}
use Rattle.std.proofs.lemmas.Bool.Decides.{nat_tests}
use Rattle.std.proofs.lemmas.Bool.{true≢false}
use Rattle.sched_base.specs.declared.ids.Itv.{Itv}
use Rattle.sched_model.specs.Data.{Data}
use Rattle.region.specs.declared.types.Guess.{Guess}
use Rattle.region.specs.declared.types.Guess.TheVariants.{Present, Absent, StartLe, StartGe, EndLe, EndGe, Before}
use Rattle.region.specs.Cells.{Region}
use Rattle.region.specs.Guesses.{admits, topic}
use Rattle.region.specs.laws.Lists.{both_true, true_both}
use Rattle.region.specs.Looks.{seen_at}
use Rattle.findings.specs.Ends.{is_asked}
use Rattle.refute_basic.specs.declared.arc_name.ArcName.{ArcName}
use Rattle.refute_basic.specs.declared.witness.BasicWitness.{BasicWitness}
use Rattle.refute_basic.specs.declared.witness.BasicWitness.TheVariants.{Size, Arc, Cycle, Expr, Obj, Leaf}
use Rattle.refute_basic.specs.Basic.{refutes}
use Rattle.refute_basic.specs.Listed.{lists, asks_presence}
use Rattle.prop_temporal.specs.code.Tasks.{quiet, looks_after}
use Rattle.base_laws.specs.laws.Numbers.{below_or_last}

abbrev pub present_at : ℕ → Guess
present_at n = Present (record { 0 = n })

abbrev pub NoWalk : Data → Region → Option ℤ → Option Guess → Type 0
NoWalk m r best o = (is : List ArcName) → refutes m (seen_at r best o) (Cycle is) ≡ false

pub record AreQuietBelow (m : Data) (r : Region) (best : Option ℤ) (n : ℕ) : Type 0 where
  pub plain : NoWalk m r best None
  pub each : (k : ℕ) → k < n → admits r (present_at k) ≡ true → NoWalk m r best (Some (present_at k))

pub quiet_next : (m : Data) (r : Region) (best : Option ℤ) (n : ℕ) → (admits r (present_at n) ≡ true → NoWalk m r best (Some (present_at n))) → AreQuietBelow m r best n → AreQuietBelow m r best (n + 1)
quiet_next m r best n here quiet = record {
  plain = quiet.plain;
  each = λ k less free. elim (below_or_last k n less) [
    | inl h ↦ quiet.each k h free
    | inr e ↦ subst (λ (j : ℕ). NoWalk m r best (Some (present_at j))) (sym e) (here (subst (λ (j : ℕ). admits r (present_at j) ≡ true) e free))
  ];
}

admitted_below : (r : Region) (x : Itv) → admits r (Present x) ≡ true → x.0 < length r.bounds
admitted_below r x h = at x.0 (length r.bounds) (both_true (nat_lt x.0 (length r.bounds)) _ h).0
  where
    at : (i n : ℕ) → nat_lt i n ≡ true → i < n
    at i n h = grind (arith, nat_tests)

-- the propagator of walks is quiet where no walk refutes, as it stands or with an interval more
pub quiet_walks : (m : Data) (r : Region) (best : Option ℤ) → NoWalk m r best None → ((x : Itv) → admits r (Present x) ≡ true → NoWalk m r best (Some (Present x))) → quiet m 0 r best
quiet_walks m r best plain each = record { unrefuted = at }
  where
    walk : (w : List ArcName) (o : Option Guess) → IsTrue (is_asked (lists m (Cycle w)) r o) → refutes m (seen_at r best o) (Cycle w) ≡ false
    walk w None asked = plain w
    walk w (Some (Present x)) asked = each x (both_true (admits r (Present x)) true asked).0 w
    walk w (Some (Absent x)) asked = absurd (true≢false (sym asked))
    walk w (Some (StartLe x t)) asked = absurd (true≢false (sym asked))
    walk w (Some (StartGe x t)) asked = absurd (true≢false (sym asked))
    walk w (Some (EndLe x t)) asked = absurd (true≢false (sym asked))
    walk w (Some (EndGe x t)) asked = absurd (true≢false (sym asked))
    walk w (Some (Before p x y)) asked = absurd (true≢false (sym asked))

    not_first : (c : ℕ) → nat_eq 0 (1 + c) ≡ true → ⊥
    not_first c h = grind (arith, nat_tests)

    at : (w : BasicWitness) (o : Option Guess) → IsTrue (looks_after m 0 w) → IsTrue (is_asked (lists m w) r o) → refutes m (seen_at r best o) w ≡ false
    at (Cycle w) o mine asked = walk w o asked
    at (Arc c d) o mine asked = absurd (not_first c (both_true (nat_lt c (length m.constraints)) (nat_eq 0 (1 + c)) mine).1)
    at (Size x) o mine asked = absurd (true≢false (sym mine))
    at (Expr c) o mine asked = absurd (true≢false (sym mine))
    at Obj o mine asked = absurd (true≢false (sym mine))
    at (Leaf k u) o mine asked = absurd (true≢false (sym mine))

pub quiet_all : (m : Data) (r : Region) (best : Option ℤ) (n : ℕ) → length r.bounds ≤ n → AreQuietBelow m r best n → quiet m 0 r best
quiet_all m r best n past below = quiet_walks m r best below.plain (λ x free. below.each x.0 (omega (arith, admitted_below r x free, past)) free)

pub walks_of : (m : Data) (r : Region) (best : Option ℤ) → quiet m 0 r best → (o : Option Guess) → IsTrue (is_asked (λ g. asks_presence (topic g)) r o) → NoWalk m r best o
walks_of m r best still o asked is = still.unrefuted (Cycle is) o refl asked

-- where a walk refutes, it isn't
pub busy_plain : (m : Data) (r : Region) (best : Option ℤ) (w : List ArcName) → refutes m (seen_at r best None) (Cycle w) ≡ true → quiet m 0 r best → ⊥
busy_plain m r best w h still = true≢false (sym h ∙ still.unrefuted (Cycle w) None refl refl)

pub busy_present : (m : Data) (r : Region) (best : Option ℤ) (w : List ArcName) (n : ℕ) → admits r (present_at n) ≡ true → refutes m (seen_at r best (Some (present_at n))) (Cycle w) ≡ true → quiet m 0 r best → ⊥
busy_present m r best w n free h still = true≢false (sym h ∙ still.unrefuted (Cycle w) (Some (present_at n)) refl (true_both (admits r (present_at n)) true free refl))
