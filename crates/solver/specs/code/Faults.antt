-- The fault that a fault of the engine is.
use Rattle.engine.specs.declared.stops.EngineFault.{EngineFault}
use Rattle.engine.specs.declared.stops.EngineFault.TheVariants as engine
use Rattle.solver.specs.declared.fault.SolveFault.{SolveFault}
use Rattle.solver.specs.declared.fault.SolveFault.TheVariants.{Fault, NoMemory}

abbrev pub passed_on : EngineFault → SolveFault
passed_on engine.Lines = Fault
passed_on engine.NoMemory = NoMemory
