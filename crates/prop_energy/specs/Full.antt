-- Where capacities have no room left.
use Rattle.std.specs.Prelude.{ℤ, Option, None, IsTrue}
use Rattle.sched_model.specs.Data.{Data}
use Rattle.region.specs.Cells.{Region}
use Rattle.region.specs.Looks.{seen_at}
use Rattle.refute_energy.specs.declared.witness.EnergyWitness.{EnergyWitness}
use Rattle.refute_energy.specs.OnEnergy.{refutes}

-- no witness of energy refutes a region, whatever the best value
abbrev pub HasNoOverload : Data → Region → Type 0
HasNoOverload m r = (best : Option ℤ) (w : EnergyWitness) → IsTrue (refutes m (seen_at r best None) w) → ⊥
