-- The constraint that a witness of this crate names.
use Rattle.std.specs.Prelude.{List, [], ◌∷◌}
use Rattle.sched_base.specs.declared.ids.Con.{Con}
use Rattle.refute_energy.specs.declared.witness.EnergyWitness.{EnergyWitness}

abbrev pub named : EnergyWitness → List Con
named w = w.c ∷ []
