-- What refutes in the logs that are written and judged here, beside the kinds that every log has: energies.
use Rattle.std.specs.Prelude.{ℤ, Bool, List}
use Rattle.sched_base.specs.declared.ids.Con.{Con}
use Rattle.region.specs.Looks.{Refuting}
use Rattle.refute_energy.specs.declared.witness.EnergyWitness.{EnergyWitness}
use Rattle.refute_energy.specs.Witness.{numbers_of, is_valid}
use Rattle.refute_energy.specs.OnEnergy.{refutes}
use Rattle.refute_energy.specs.Named.{named}

abbrev pub LogWitness : Type 0
LogWitness = EnergyWitness

abbrev pub log_refutes : Refuting LogWitness
log_refutes = refutes

abbrev pub log_numbers : LogWitness → List ℤ
log_numbers = numbers_of

abbrev pub log_valid : LogWitness → Bool
log_valid = is_valid

abbrev pub log_named : LogWitness → List Con
log_named = named
