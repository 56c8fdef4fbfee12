-- The numbers of valid witnesses are few and small, and tell them apart.
use Rattle.std.specs.Prelude.{◌≡◌, ℕ, ◌+◌, ◌^◌, ◌<◌, ℤ, pos, not, ◌&&◌, IsTrue, List, ◌∷◌, length}
use Rattle.std.proofs.Common.{refl, arith}
use Rattle.std.proofs.lemmas.Bool.{ltb-true}
use Rattle.base_laws.specs.laws.Truth.{four_true}
use Rattle.sched_model.specs.Words.{is_empty}
use Rattle.sched_model.specs.Bounds.{is_number}
use Rattle.sched_model.specs.Data.{Data}
use Rattle.region.specs.Looks.{Seen}
use Rattle.region.specs.code.Spelled.{AreSmall}
use Rattle.region.specs.laws.Lists.{both_true}
use Rattle.region.specs.laws.Spelled.{one_more}
use Rattle.refute_energy.specs.declared.witness.EnergyWitness.{EnergyWitness}
use Rattle.refute_energy.specs.Witness.{numbers_of, is_valid}
use Rattle.refute_energy.specs.Energy.{energy_row}
use Rattle.refute_energy.specs.OnEnergy.{refutes}
use Rattle.refute_seq.specs.Witness.{set_numbers, is_number_set}
use Rattle.refute_seq.specs.laws.SetNumbers.{set_count, fewer, only_small, set_told}

pub few_numbers : (w : EnergyWitness) → IsTrue (is_valid w) → length (numbers_of w) < 2 ^ 32
few_numbers w h =
    let last = both_true (is_number w.c.0 && is_number_set w.parts && not (is_empty w.parts)) (is_number (2 + length w.parts)) h in
    let low : 2 + length w.parts < 2 ^ 32 = ltb-true (2 + length w.parts) (2 ^ 32) last.1 in
    omega (arith, low, set_count w.parts)

pub small_numbers : (w : EnergyWitness) → IsTrue (is_valid w) → AreSmall (numbers_of w)
small_numbers w h =
    let e = four_true (is_number w.c.0) (is_number_set w.parts) (not (is_empty w.parts)) (is_number (2 + length w.parts)) h in
    one_more w.c.0 (set_numbers w.parts) e.0 (only_small w.parts e.1 (fewer 2 (length w.parts) e.3))

-- whether or not they are valid
pub told : (v w : EnergyWitness) → numbers_of v ≡ numbers_of w → v ≡ w
told v w same = made v.c.0 w.c.0 v.parts w.parts (first v.c.0 w.c.0 _ _ same) (set_told v.parts w.parts (behind v.c.0 w.c.0 _ _ same))
  where
    first : (a b : ℕ) (zs ys : List ℤ) → pos a ∷ zs ≡ pos b ∷ ys → a ≡ b
    first a b zs ys same = cc

    behind : (a b : ℕ) (zs ys : List ℤ) → pos a ∷ zs ≡ pos b ∷ ys → zs ≡ ys
    behind a b zs ys same = cc

    made : (a b : ℕ) (s t : List ℕ) → a ≡ b → s ≡ t → (λ (x : EnergyWitness). x) (record { c = record { 0 = a }; parts = s }) ≡ record { c = record { 0 = b }; parts = t }
    made a b s t h k = rw (h, k) refl

pub told_apart : (v w : EnergyWitness) → IsTrue (is_valid v) → IsTrue (is_valid w) → numbers_of v ≡ numbers_of w → v ≡ w
told_apart v w valid_v valid_w same = told v w same

pub refuting_valid : (m : Data) (l : Seen) (w : EnergyWitness) → IsTrue (refutes m l w) → IsTrue (is_valid w)
refuting_valid m l w h = (both_true (is_valid w) (energy_row m l w.c.0 w.parts) h).0
