-- Where all are quiet, or all awake, an engine is calm.
use Rattle.std.specs.Prelude.{ℤ, Option}
use Rattle.sched_model.specs.Data.{Data}
use Rattle.region.specs.Cells.{Region}
use Rattle.engine.specs.declared.propagator.Propagator.{Ghosts}
use Rattle.engine.specs.code.Engines.{EngineValue, AreQuiet, IsCalm}

pub quiet_is_calm : {P : Type 0} (p : Ghosts P) (m : Data) (r : Region) (best : Option ℤ) (e : EngineValue P) → AreQuiet p m r best → IsCalm p m r best e
quiet_is_calm p m r best e quiet k below asleep = quiet k below
