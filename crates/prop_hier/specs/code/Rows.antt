-- Whether one of the rows of a constraint refutes a region under a guess.
use Rattle.std.specs.Prelude.{Bool, List, Option}
use Rattle.sched_base.specs.declared.ids.Itv.{Itv}
use Rattle.region.specs.declared.types.Guess.{Guess}
use Rattle.region.specs.Cells.{Region}
use Rattle.region.specs.Guesses.{looked_at}
use Rattle.refute_hier.specs.declared.family.Kind.{Kind}
use Rattle.refute_hier.specs.code.Rows.{some_refutes}

abbrev pub refutes_under : Kind → Region → Itv → List Itv → Option Guess → Bool
refutes_under kind r a bs guess = some_refutes kind (looked_at guess r) a bs
