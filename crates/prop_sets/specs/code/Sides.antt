-- What it is that no set of members is found on a side.
use Rattle.std.specs.Prelude.{ℕ, zero, suc, Bool, true, false, List, None}
use Rattle.sched_base.specs.declared.ids.Itv.{Itv}
use Rattle.region.specs.Cells.{Region}
use Rattle.theta_passes.specs.declared.rows.Row.{Row}
use Rattle.theta_passes.specs.code.Edge.{PassOrNone}
use Rattle.theta_passes.specs.code.Late.{LatePass}
use Rattle.theta_passes.specs.code.Over.{NoOverloads}
use Rattle.prop_sets.specs.code.Rows.{asks_early, asks_late, plain_row, asked_row, AreRows}

-- no set overloads, also with one member more
pub record NoFull (side : ℕ) (r : Region) (xs : List Itv) : Type 0 where
  pub rows : List Row
  pub are : AreRows (plain_row side (asks_early side)) r xs rows
  pub overloads : NoOverloads rows

-- and no cut finds one for EDGE
pub record NoEdge (side : ℕ) (r : Region) (xs : List Itv) : Type 0 where
  pub rows : List Row
  pub are : AreRows (asked_row side (asks_early side)) r xs rows
  pub overloads : NoOverloads rows
  pub pass : PassOrNone rows None

-- none is late for DETECT, or for NOTEND
pub record NoDetect (side : ℕ) (r : Region) (xs : List Itv) : Type 0 where
  pub rows : List Row
  pub are : AreRows (plain_row side (asks_early side)) r xs rows
  pub pass : LatePass rows None

pub record NoNotEnd (side : ℕ) (r : Region) (xs : List Itv) : Type 0 where
  pub rows : List Row
  pub are : AreRows (plain_row side (asks_late side)) r xs rows
  pub pass : LatePass rows None

-- what a round asks for: the first one OVERLOAD, on one side, and DETECT, the later one EDGE and NOTEND
abbrev pub IsSideQuiet : Bool → ℕ → Region → List Itv → Type 0
IsSideQuiet false zero r xs = NoFull 0 r xs × NoDetect 0 r xs
IsSideQuiet false (suc n) r xs = NoDetect (suc n) r xs
IsSideQuiet true side r xs = NoEdge side r xs × NoNotEnd side r xs

-- what of it is asked for on the first side before the other one is put in order
abbrev pub IsBegun : Bool → Region → List Itv → Type 0
IsBegun false r xs = IsSideQuiet false 0 r xs
IsBegun true r xs = NoNotEnd 0 r xs
