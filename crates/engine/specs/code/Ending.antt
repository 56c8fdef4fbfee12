-- What ends a run before its count of lines does.
use Rattle.std.specs.Prelude.{ℤ, IsTrue, Option, None}
use Rattle.sched_model.specs.Data.{Data}
use Rattle.region.specs.Cells.{Region}
use Rattle.region.specs.Looks.{seen_at}
use Rattle.engine.specs.Plain.{refutes_plain}
use Rattle.engine.specs.declared.stops.Stop.{Stop}
use Rattle.engine.specs.declared.stops.Stop.TheVariants.{Quiet, Failed, Capped}

abbrev pub IsEnd : Type 0 → Data → Option ℤ → Region → Stop → Type 0
IsEnd quiet m best r Quiet = quiet
IsEnd quiet m best r (Failed w) = IsTrue (refutes_plain m (seen_at r best None) w)
IsEnd quiet m best r Capped = ⊥

abbrev pub IfQuiet : Type 0 → Stop → Type 0
IfQuiet X Quiet = X
IfQuiet X (Failed w) = Unit {0}
IfQuiet X Capped = Unit {0}
