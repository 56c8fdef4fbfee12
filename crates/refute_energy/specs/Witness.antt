-- The numbers of a witness: the constraint, the size of its set, and the places in it.
use Rattle.std.specs.Prelude.{◌+◌, ℤ, pos, Bool, not, ◌&&◌, List, ◌∷◌, length}
use Rattle.sched_model.specs.Words.{is_empty}
use Rattle.sched_model.specs.Bounds.{is_number}
use Rattle.refute_seq.specs.Witness.{set_numbers, is_number_set}
use Rattle.refute_energy.specs.declared.witness.EnergyWitness.{EnergyWitness}

abbrev pub numbers_of : EnergyWitness → List ℤ
numbers_of w = pos w.c.0 ∷ set_numbers w.parts

-- the set has a member, and the count of all numbers is one that a log may hold
abbrev pub is_valid : EnergyWitness → Bool
is_valid w = is_number w.c.0 && is_number_set w.parts && not (is_empty w.parts) && is_number (2 + length w.parts)
