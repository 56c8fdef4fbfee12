-- Each witness of these kinds has one propagator that looks after it, or it refutes nothing.
use Rattle.std.specs.Prelude.{◌≡◌, ℕ, zero, suc, ◌+◌, ◌<◌, ◌≤◌, ℤ, Bool, true, false, length, Option, nat_eq, nat_lt}
use Rattle.std.proofs.Common.{refl, sym, ap, subst, ◌∙◌, arith}
use Rattle.std.proofs.lemmas.Bool.{true≢false}
use Rattle.std.proofs.lemmas.Bool.Decides.{nat_tests}
use Rattle.sched_model.specs.Data.{Data}
use Rattle.region.specs.Cells.{Region}
use Rattle.region.specs.Looks.{Seen, seen_at}
use Rattle.region.specs.laws.Lists.{both_true, true_both}
use Rattle.refute_basic.specs.declared.witness.BasicWitness.{BasicWitness}
use Rattle.refute_basic.specs.declared.witness.BasicWitness.TheVariants.{Size, Arc, Cycle, Expr, Obj, Leaf}
use Rattle.refute_basic.specs.Basic.{refutes}
use Rattle.prop_temporal.specs.code.Tasks.{size_of, is_temporal, looks_after, quiet, IsSilent}
use Rattle.prop_temporal.specs.laws.Arcs.{arc_past, other_ways}

same_number : (i j : ℕ) → nat_eq i j ≡ true → i ≡ j
same_number i j h = grind (arith, nat_tests)

is_same : (i j : ℕ) → i ≡ j → nat_eq i j ≡ true
is_same i j h = grind (arith, nat_tests)

not_first : (c : ℕ) → nat_eq (suc c) 0 ≡ true → ⊥
not_first c h = grind (arith, nat_tests)

is_below : (i n : ℕ) → i < n → nat_lt i n ≡ true
is_below i n h = grind (arith, nat_tests)

below : (i n : ℕ) → nat_lt i n ≡ true → i < n
below i n h = grind (arith, nat_tests)

past : (i n : ℕ) → nat_lt i n ≡ false → n ≤ i
past i n h = grind (arith, nat_tests)

-- what the propagator of a constraint looks after
pub record IsOwned (m : Data) (c : ℕ) (w : BasicWitness) : Type 0 where
  pub way : ℕ
  pub is : w ≡ Arc c way
  pub within : c < length m.constraints

pub owned : (m : Data) (c : ℕ) (w : BasicWitness) → looks_after m (suc c) w ≡ true → IsOwned m c w
owned m c (Arc e d) h =
    let two = both_true (nat_lt e (length m.constraints)) (nat_eq (suc c) (1 + e)) h in
    let same : e ≡ c = let eq = same_number (suc c) (1 + e) two.1 in omega (arith, eq) in
    record { way = d; is = ap (λ i. Arc i d) same; within = subst (λ (i : ℕ). i < length m.constraints) same (below e (length m.constraints) two.0) }
owned m c (Cycle arcs) h = absurd (not_first c h)
owned m c (Size x) h = absurd (true≢false (sym h))
owned m c (Expr e) h = absurd (true≢false (sym h))
owned m c Obj h = absurd (true≢false (sym h))
owned m c (Leaf i u) h = absurd (true≢false (sym h))

pub owns : (m : Data) (c d : ℕ) → c < length m.constraints → looks_after m (suc c) (Arc c d) ≡ true
owns m c d within = true_both (nat_lt c (length m.constraints)) (nat_eq (suc c) (1 + c)) (is_below c (length m.constraints) within) (is_same (suc c) (1 + c) (omega arith))

-- one that no propagator looks after refutes nothing
pub unowned : (m : Data) (l : Seen) (w : BasicWitness) → is_temporal w ≡ true → ((k : ℕ) → k < size_of m → looks_after m k w ≡ false) → refutes m l w ≡ false
unowned m l (Cycle arcs) of none = absurd (true≢false (none 0 (omega arith)))
unowned m l (Arc c d) of none = by_case (nat_lt c (length m.constraints)) refl
  where
    by_case : (b : Bool) → nat_lt c (length m.constraints) ≡ b → refutes m l (Arc c d) ≡ false
    by_case true is = absurd (true≢false (sym (owns m c d (below c (length m.constraints) is)) ∙ none (suc c) (let within = below c (length m.constraints) is in omega (arith, within))))
    by_case false is = arc_past m l c d (past c (length m.constraints) is)
unowned m l (Size x) of none = absurd (true≢false (sym of))
unowned m l (Expr c) of none = absurd (true≢false (sym of))
unowned m l Obj of none = absurd (true≢false (sym of))
unowned m l (Leaf k u) of none = absurd (true≢false (sym of))

-- the propagator of a constraint is quiet where both ways are silent
pub quiet_from : (m : Data) (c : ℕ) (r : Region) (best : Option ℤ) → IsSilent m r best (Arc c 0) → IsSilent m r best (Arc c 1) → quiet m (suc c) r best
quiet_from m c r best first second = record {
  unrefuted = λ w guess mine asked. let o = owned m c w mine in subst (IsSilent m r best) (sym o.is) (way o.way) guess asked;
}
  where
    way : (d : ℕ) → IsSilent m r best (Arc c d)
    way zero = first
    way (suc zero) = second
    way (suc (suc d)) = λ guess asked. other_ways m (seen_at r best guess) c (suc (suc d)) (λ e. absurd (omega (arith, e))) (λ e. absurd (omega (arith, e)))

pub silent_from : (m : Data) (c d : ℕ) (r : Region) (best : Option ℤ) → c < length m.constraints → quiet m (suc c) r best → IsSilent m r best (Arc c d)
silent_from m c d r best within still guess asked = still.unrefuted (Arc c d) guess (owns m c d within) asked
