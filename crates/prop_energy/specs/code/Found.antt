-- What a search for overloads of energy finds.
use Rattle.std.specs.Prelude.{◌≡◌, ℕ, ℤ, true, List, Option, Some, None, IsTrue}
use Rattle.sched_base.specs.declared.ids.Cum.{Cum}
use Rattle.sched_model.specs.Data.{Data, parts_of}
use Rattle.region.specs.Cells.{Region}
use Rattle.region.specs.Looks.{Seen, seen_at}
use Rattle.refute_energy.specs.declared.witness.EnergyWitness.{EnergyWitness}
use Rattle.refute_energy.specs.Energy.{overflows}
use Rattle.refute_energy.specs.OnEnergy.{refutes}
use Rattle.prop_energy.specs.declared.bounds.Bound.{Bound}
use Rattle.prop_energy.specs.Full.{HasNoOverload}

-- a witness that refutes the region; none exactly where there is none
abbrev pub GivesOverload : Data → Region → Option EnergyWitness → Type 0
GivesOverload m r (Some w) = (best : Option ℤ) → IsTrue (refutes m (seen_at r best None) w)
GivesOverload m r None = HasNoOverload m r

-- of one bound
abbrev pub FoundBy : Data → Seen → Bound → Option EnergyWitness → Type 0
FoundBy m l b (Some w) = IsTrue (refutes m l w)
FoundBy m l b None = (w : EnergyWitness) → w.c.0 ≡ b.c → IsTrue (refutes m l w) → ⊥

-- of the parts of a function
abbrev pub GivesSet : Data → Seen → Cum → ℤ → Option (List ℕ) → Type 0
GivesSet m l f hi (Some s) = overflows l.region (parts_of m f) hi s ≡ true
GivesSet m l f hi None = (s : List ℕ) → overflows l.region (parts_of m f) hi s ≡ true → ⊥
