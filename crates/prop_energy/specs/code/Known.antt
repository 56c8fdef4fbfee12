-- Rows of which no set needs more than a capacity offers.
use Rattle.std.specs.Prelude.{ℤ, List}
use Rattle.energy_pass.specs.declared.rows.Row.{Row}
use Rattle.energy_pass.specs.code.Rows.{IsOver}

pub record IsQuiet (rows : List Row) (c : ℤ) : Type 0 where
  pub none : (start end : ℤ) → IsOver rows c start end → ⊥

pub record Still : Type 0 where
  pub rows : List Row
  pub capacity : ℤ
