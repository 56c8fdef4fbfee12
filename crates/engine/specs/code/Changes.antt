-- Regions that differ in one cell.
use Rattle.std.specs.Prelude.{◌≡◌}
use Rattle.region.specs.declared.types.CellName.{CellName}
use Rattle.region.specs.Cells.{Region}
use Rattle.region.specs.Guesses.{SameCell, turned}

-- all cells but one are the same; that one has two names where it is an order
abbrev pub AreSameBut : CellName → Region → Region → Type 0
AreSameBut cell r q = (c : CellName) → (c ≡ cell → ⊥) → (c ≡ turned cell → ⊥) → SameCell c r q
