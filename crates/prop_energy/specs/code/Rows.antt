-- The rows of the parts of a function, and the parts of a cut.
use Rattle.std.specs.Prelude.{ℕ, ℤ, Bool, false, if◌then◌else◌, List, [], ◌∷◌, Option, Some, None, slice_get}
use Rattle.sched_model.specs.declared.types.Shape.{Shape}
use Rattle.sched_model.specs.declared.types.Part.{Part}
use Rattle.region.specs.Cells.{Region}
use Rattle.task_sets.specs.Times.{Times}
use Rattle.refute_energy.specs.Energy.{is_bar, bar_of}
use Rattle.energy_pass.specs.declared.rows.Row.{Row}
use Rattle.energy_pass.specs.code.Rows.{counts}

abbrev pub row_by : Times → Row
row_by t = record { est = t.est; lct = t.lct; energy = t.p }

abbrev pub row_of : Region → Shape → Option Row
row_of r s = if is_bar r s then Some (row_by (bar_of r s)) else None

-- one row more, where there is one
abbrev pub with_row : Option Row → List Row → List Row
with_row None rows = rows
with_row (Some row) rows = row ∷ rows

abbrev pub rows_of : Region → List Part → List Row
rows_of r [] = []
rows_of r (i ∷ is) = with_row (row_of r i.shape) (rows_of r is)

abbrev pub counts_row : ℤ → ℤ → Option Row → Bool
counts_row start end None = false
counts_row start end (Some row) = counts start end row

abbrev pub is_in : Region → ℤ → ℤ → Option Part → Bool
is_in r start end None = false
is_in r start end (Some i) = counts_row start end (row_of r i.shape)

abbrev pub is_in_at : Region → List Part → ℤ → ℤ → ℕ → Bool
is_in_at r is start end k = is_in r start end (slice_get is k)
