-- Each witness has the propagator of the constraint that it names, and one that names none refutes nothing.
use Rattle.std.specs.Prelude.{◌≡◌, ℕ, ◌<◌, ◌≤◌, Bool, true, false, length, nat_eq, nat_lt}
use Rattle.std.proofs.Common.{refl, sym, ◌∙◌, arith}
use Rattle.std.proofs.lemmas.Bool.{true≢false}
use Rattle.std.proofs.lemmas.Bool.Decides.{nat_tests}
use Rattle.sched_model.specs.Data.{Data}
use Rattle.region.specs.Looks.{Seen, IsRegionOf}
use Rattle.refute_cumul.specs.declared.witness.CumulWitness.{CumulWitness}
use Rattle.refute_cumul.specs.Witness.{constraint_of}
use Rattle.refute_cumul.specs.OnCumul.{refutes}
use Rattle.refute_cumul.specs.Listed.{is_derived}
use Rattle.refute_cumul.specs.laws.Past.{names_nothing}
use Rattle.prop_cumul.specs.code.Tasks.{size_of, looks_after}

pub owned : (m : Data) (k : ℕ) (w : CumulWitness) → looks_after m k w ≡ true → k ≡ constraint_of w
owned m k w h = same_number k (constraint_of w) h
  where
    same_number : (i j : ℕ) → nat_eq i j ≡ true → i ≡ j
    same_number i j h = grind (arith, nat_tests)

pub owner : (m : Data) (w : CumulWitness) → looks_after m (constraint_of w) w ≡ true
owner m w = is_same (constraint_of w)
  where
    is_same : (i : ℕ) → nat_eq i i ≡ true
    is_same i = grind (arith, nat_tests)

pub unowned : (m : Data) (l : Seen) (w : CumulWitness) → IsRegionOf m l.region → is_derived w ≡ true → ((k : ℕ) → k < size_of m → looks_after m k w ≡ false) → refutes m l w ≡ false
unowned m l w of derived none = by_case (nat_lt (constraint_of w) (length m.constraints)) refl
  where
    below : (i n : ℕ) → nat_lt i n ≡ true → i < n
    below i n h = grind (arith, nat_tests)

    past : (i n : ℕ) → nat_lt i n ≡ false → n ≤ i
    past i n h = grind (arith, nat_tests)

    by_case : (b : Bool) → nat_lt (constraint_of w) (length m.constraints) ≡ b → refutes m l w ≡ false
    by_case true is = absurd (true≢false (sym (owner m w) ∙ none (constraint_of w) (below (constraint_of w) (length m.constraints) is)))
    by_case false is = names_nothing m l w (past (constraint_of w) (length m.constraints) is)
